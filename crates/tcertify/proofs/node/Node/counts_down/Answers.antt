use Rattle.std.proofs.Common.{rules}
use Rattle.tcertify.proofs.NodeWords.{on_words}
use Rattle.tcertify.proofs.node.Node.counts_down.Goals as goal

pub returns : goal.returns
returns c = on_words _ _ _ _ (search rules) c.decrement.ensures.site c.decrement.ensures.change
