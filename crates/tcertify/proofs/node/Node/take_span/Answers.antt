use Rattle.std.proofs.Common.{rules}
use Rattle.tcertify.proofs.NodeWords.{on_words}
use Rattle.tcertify.proofs.node.Node.take_span.Goals as goal

pub returns-clause-touched : goal.returns-clause-touched
returns-clause-touched c = on_words _ _ _ _ (search rules) c.take_span.ensures.site c.take_span.ensures.change
