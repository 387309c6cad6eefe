use Rattle.std.proofs.Common.{◌∙◌, arith}
use Rattle.std.proofs.lemmas.List.{with_items_is}
use Rattle.tword.proofs.AsCells.{bytes_put}
use Rattle.tword.proofs.bytes.Bytes.load.Goals as goal

pub returns-clause-loaded : goal.returns-clause-loaded
returns-clause-loaded c =
    bytes_put _ _ c.args.start _ c.args.bytes.now _ c.self.view_is c.place-first.ensures
    (with_items_is c.self.inside.bytes c.put_bytes.new.all
    (omega (arith, c.put_bytes.auto.all, c.as_mut_slice.ensures.len))
    ∙ rw (← c.as_mut_slice.ensures.value) c.put_bytes.ensures)
