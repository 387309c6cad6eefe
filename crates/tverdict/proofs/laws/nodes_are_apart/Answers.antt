use Rattle.tverdict.proofs.Frames.{nodes_are_apart}
use Rattle.tverdict.proofs.laws.nodes_are_apart.Goals as goal

pub returns : goal.returns
returns c = nodes_are_apart
