use Rattle.std.proofs.Common.{rules}
use Rattle.tcertify.proofs.NodeWords.{on_words}
use Rattle.tcertify.proofs.node.Node.read_word.Goals as goal

pub returns : goal.returns
returns c = on_words _ _ _ _ (search rules) c.read_word.ensures.site c.read_word.ensures.change
