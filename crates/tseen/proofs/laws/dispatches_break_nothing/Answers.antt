use Rattle.tseen.proofs.Freezing.{dispatches_break_nothing}
use Rattle.tseen.proofs.laws.dispatches_break_nothing.Goals as goal

pub returns : goal.returns
returns c = dispatches_break_nothing
