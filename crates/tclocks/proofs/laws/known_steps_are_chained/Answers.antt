use Rattle.tclocks.proofs.Knowing.{known_are_chained}
use Rattle.tclocks.proofs.laws.known_steps_are_chained.Goals as goal

pub returns : goal.returns
returns g c m accesses numbers earlier writers check label other seen knows =
    known_are_chained m accesses numbers earlier seen.table writers check label other seen.follows knows
