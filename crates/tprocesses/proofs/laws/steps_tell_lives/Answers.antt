use Rattle.tprocesses.proofs.Lived.{steps_tell_lives}
use Rattle.tprocesses.proofs.laws.steps_tell_lives.Goals as goal

pub returns : goal.returns
returns c = steps_tell_lives
