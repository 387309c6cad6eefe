use Rattle.tclocks.proofs.Passing.{are_passed}
use Rattle.tclocks.proofs.laws.seen_steps_have_no_race.Goals as goal

pub returns : goal.returns
returns g c m accesses numbers entries writers check seen =
    are_passed m accesses numbers entries seen.table seen.follows.passed
