use Rattle.twhere.proofs.NodeBits.{one_more}
use Rattle.twhere.proofs.node_set.NodeSet.with.Goals as goal

pub returns : goal.returns
returns c n = one_more c.args.self.nodes c.args.node c.requires n
