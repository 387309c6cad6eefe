use Rattle.tseen.proofs.Freezing.{instructions_break_nothing}
use Rattle.tseen.proofs.laws.instructions_break_nothing.Goals as goal

pub returns : goal.returns
returns c = instructions_break_nothing
