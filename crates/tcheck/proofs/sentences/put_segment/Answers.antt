use Rattle.std.proofs.Common.{ap, ap₂, ◌∙◌}
use Rattle.tword.specs.Words.{plus}
use Rattle.tfiles.proofs.Told.{tells_as, tells_then}
use Rattle.twhere.specs.Standing.{word_text}
use Rattle.tcheck.proofs.sentences.put_segment.Goals as goal

pub returns : goal.returns
returns g c =
    tells_then c.put_numbered.ensures
    (tells_then c.put.ensures
    (tells_then c.put_decimal.ensures
    (tells_then c.put-2.ensures
    (tells_then c.put_word.ensures
    (tells_then c.put-3.ensures
    (tells_as c.put_word-2.ensures (ap word_text (c.plus.ensures ∙ ap₂ plus c.new.ensures c.new-2.ensures))))))))
