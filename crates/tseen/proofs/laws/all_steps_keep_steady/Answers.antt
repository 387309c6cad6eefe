use Rattle.tseen.proofs.SteadySteps.{steps_keep_steady}
use Rattle.tseen.proofs.laws.all_steps_keep_steady.Goals as goal

pub returns : goal.returns
returns c = steps_keep_steady
