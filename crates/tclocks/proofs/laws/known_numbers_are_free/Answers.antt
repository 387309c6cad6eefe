use Rattle.tclocks.proofs.Turning.{known_are_free}
use Rattle.tclocks.proofs.laws.known_numbers_are_free.Goals as goal

pub returns : goal.returns
returns g c m group accesses places modes earlier writers check label n seen knows =
    known_are_free m group accesses places modes earlier writers check label n seen knows
