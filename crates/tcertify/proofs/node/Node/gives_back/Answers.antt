use Rattle.std.proofs.Common.{rules}
use Rattle.tcertify.proofs.NodeWords.{on_words}
use Rattle.tcertify.proofs.node.Node.gives_back.Goals as goal

pub returns : goal.returns
returns c = on_words _ _ _ _ (search rules) c.give_back_span.ensures.site c.in-Ok.ensures.change
