use Rattle.std.proofs.Common.{rules}
use Rattle.tcertify.proofs.NodeWords.{on_words}
use Rattle.tcertify.proofs.node.Node.look.Goals as goal

pub returns-clause-looks : goal.returns-clause-looks
returns-clause-looks c = on_words _ _ _ _ (search rules) c.look.ensures.site c.look.ensures.change
