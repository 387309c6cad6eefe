use Rattle.std.proofs.Common.{◌∙◌, arith}
use Rattle.std.proofs.lemmas.List.{with_items_is}
use Rattle.tword.proofs.AsCells.{bytes_copied, length-as_cells}
use Rattle.tword.proofs.Descheduling.{inside_within}
use Rattle.tword.proofs.bytes.Bytes.copy.Goals as goal

pub returns-clause-copied : goal.returns-clause-copied
returns-clause-copied c =
    let b = inside_within _ (record { start = c.args.from; size = c.args.size }) (omega arith) c.requires.source in
    bytes_copied _ _ c.args.from c.args.to _ _ c.args.size _ c.self.view_is c.place-source.ensures c.place.ensures
    (omega (arith, b, c.place-source.ensures, length-as_cells c.self.inside.bytes.items c.args.self.now c.self.view_is))
    (with_items_is c.self.inside.bytes c.copy_within.new.self
    (omega (arith, c.copy_within.ensures.len, c.as_mut_slice.ensures.len))
    ∙ rw (← c.as_mut_slice.ensures.value) c.copy_within.ensures.after)
