use Rattle.std.proofs.Common.{rules}
use Rattle.tcertify.proofs.NodeWords.{on_words}
use Rattle.tcertify.proofs.node.Node.lend_span.Goals as goal

pub returns-in-Ok : goal.returns-in-Ok
returns-in-Ok c = on_words _ _ _ _ (search rules) c.in-Ok.ensures.site c.in-Ok.ensures.change
