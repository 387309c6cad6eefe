use Rattle.std.proofs.Common.{List, ap}
use Rattle.tfiles.proofs.Told.{tells_then, tells_as}
use Rattle.tcertify.specs.declared.stored.StoredWord.{StoredWord}
use Rattle.tfindings.specs.Cells.{memory_text, words_of}
use Rattle.tfindings.proofs.ends.put_node.Goals as goal

pub returns : goal.returns
returns g c =
    tells_then c.put_node_line.ensures
    (tells_as c.put_words.ensures
    (ap (λ (ws : List StoredWord). memory_text (words_of ws)) c.as_slice.ensures.value))
