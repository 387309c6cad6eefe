use Rattle.std.proofs.Common.{◌∙◌, arith}
use Rattle.std.specs.Int.{w32, to_le_bytes}
use Rattle.std.proofs.lemmas.List.{with_items_is}
use Rattle.tword.proofs.AsCells.{bytes_put}
use Rattle.tword.proofs.bytes.Bytes.set_word.Goals as goal

pub returns-clause-set : goal.returns-clause-set
returns-clause-set c =
    bytes_put _ _ c.args.address _ (to_le_bytes w32 c.args.value) _ c.self.view_is c.place.ensures
    (with_items_is c.self.inside.bytes c.put_word.new.bytes
    (omega (arith, c.put_word.auto.bytes, c.as_mut_slice.ensures.len))
    ∙ rw (← c.as_mut_slice.ensures.value, ← c.get.ensures) c.put_word.ensures)
