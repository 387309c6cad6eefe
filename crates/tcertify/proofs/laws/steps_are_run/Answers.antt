use Rattle.tcertify.proofs.Walking.{walked}
use Rattle.tcertify.proofs.laws.steps_are_run.Goals as goal

pub returns : goal.returns
returns c = walked
