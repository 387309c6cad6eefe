use Rattle.std.proofs.Common.{◌+◌, ◌∙◌, length, arith}
use Rattle.std.specs.Int.{w32, to_le_bytes}
use Rattle.std.proofs.lemmas.List.{with_items_is}
use Rattle.tword.specs.Touches.{Writes}
use Rattle.tword.proofs.AsCells.{bytes_put, length-as_cells}
use Rattle.tword.proofs.Open.{open_whole, place_open}
use Rattle.tword.proofs.bytes.Bytes.set_open_word.Goals as goal

pub returns-clause-free : goal.returns-clause-free
returns-clause-free c = λ _.
    let size = length-as_cells c.self.inside.bytes.items c.args.self.now c.self.view_is in
    open_whole c.args.counts.now (length c.args.self.now) c.args.marks.now Writes c.in-Some.place c.args.address
    c.requires c.in-Some.ensures.is.0 (omega arith) (omega (arith, size, c.self.invariant)) c.in-Some.ensures.is.1
    c.in-Some.ensures.is.2 (omega (arith, c.get.ensures, c.if-get-ne0.false))

pub returns-clause-set : goal.returns-clause-set
returns-clause-set c = λ _.
    let size = length-as_cells c.self.inside.bytes.items c.args.self.now c.self.view_is in
    let here = place_open c.args.counts.now (length c.args.self.now) c.args.marks.now c.in-Some.place
    c.args.address 1 c.requires c.in-Some.ensures.is.0 (omega arith) (omega (arith, size, c.self.invariant))
    c.in-Some.ensures.is.1 (omega arith) in
    bytes_put _ _ c.args.address (c.in-Some.place + 72) (to_le_bytes w32 c.args.value) _ c.self.view_is
    (omega (arith, here.at))
    (with_items_is c.self.inside.bytes c.put_word.new.bytes
    (omega (arith, c.put_word.auto.bytes, c.as_mut_slice.ensures.len))
    ∙ rw (← c.as_mut_slice.ensures.value, ← c.get-2.ensures) c.put_word.ensures)
