use Rattle.tseen.proofs.Jumps.{instructions_are_done}
use Rattle.tseen.proofs.laws.instructions_are_done.Goals as goal

pub returns : goal.returns
returns c = instructions_are_done
