use Rattle.std.proofs.Common.{rules}
use Rattle.tcertify.proofs.NodeWords.{on_words}
use Rattle.tcertify.proofs.node.Node.expect_span.Goals as goal

pub returns-clause-touched : goal.returns-clause-touched
returns-clause-touched c = on_words _ _ _ _ (search rules) c.expect_span.ensures.site c.expect_span.ensures.change
