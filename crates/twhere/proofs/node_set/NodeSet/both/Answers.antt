use Rattle.twhere.proofs.NodeBits.{both_set}
use Rattle.twhere.proofs.node_set.NodeSet.both.Goals as goal

pub returns : goal.returns
returns c n = both_set c.args.self.nodes c.args.other.nodes n
