use Rattle.std.proofs.Common.{◌∙◌}
use Rattle.tword.proofs.AsCells.{word_read}
use Rattle.tword.proofs.bytes.Bytes.word.Goals as goal

pub returns : goal.returns
returns c = word_read _ _ c.args.address _ _ c.self.view_is c.place.ensures (c.new.ensures
    ∙ rw (← c.as_slice.ensures.value) c.word_in.ensures)
