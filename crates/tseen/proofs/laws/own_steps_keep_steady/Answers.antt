use Rattle.tseen.proofs.Steady.{own_steps_keep_steady}
use Rattle.tseen.proofs.laws.own_steps_keep_steady.Goals as goal

pub returns : goal.returns
returns c = own_steps_keep_steady
