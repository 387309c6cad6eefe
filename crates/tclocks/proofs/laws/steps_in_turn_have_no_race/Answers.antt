use Rattle.tclocks.proofs.Turning.{have_no_race}
use Rattle.tclocks.proofs.laws.steps_in_turn_have_no_race.Goals as goal

pub returns : goal.returns
returns g c m group accesses places modes entries writers check seen collide =
    have_no_race m group accesses places modes entries writers check seen collide
