use Rattle.tfollow.proofs.Stepping.{steps_are_followed}
use Rattle.tfollow.proofs.laws.steps_are_followed.Goals as goal

pub returns : goal.returns
returns c = steps_are_followed
