use Rattle.tverdict.proofs.Frames.{calls_at_nodes_run}
use Rattle.tverdict.proofs.laws.calls_at_nodes_run.Goals as goal

pub returns : goal.returns
returns c d = calls_at_nodes_run _
