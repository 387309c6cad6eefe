use Rattle.std.proofs.Common.{◌+◌, ◌∙◌, length, arith}
use Rattle.tword.specs.Touches.{Reads}
use Rattle.tword.proofs.AsCells.{length-as_cells, word_read}
use Rattle.tword.proofs.Open.{open_whole, place_open}
use Rattle.tword.proofs.bytes.Bytes.open_word.Goals as goal

pub returns-clause-free : goal.returns-clause-free
returns-clause-free c =
    let size = length-as_cells c.self.inside.bytes.items c.args.self.now c.self.view_is in
    open_whole c.args.counts.now (length c.args.self.now) c.args.marks.now Reads c.in_ok-place.place c.args.address
    c.requires c.in_ok-place.ensures.is.0 (omega arith) (omega (arith, size, c.self.invariant))
    c.in_ok-place.ensures.is.1 c.in_ok-place.ensures.is.2 (omega (arith, c.get.ensures, c.if-get-ne0.false))

pub returns-clause-is : goal.returns-clause-is
returns-clause-is c =
    let size = length-as_cells c.self.inside.bytes.items c.args.self.now c.self.view_is in
    let here = place_open c.args.counts.now (length c.args.self.now) c.args.marks.now c.in_ok-place.place
    c.args.address 1 c.requires c.in_ok-place.ensures.is.0 (omega arith) (omega (arith, size, c.self.invariant))
    c.in_ok-place.ensures.is.1 (omega arith) in
    word_read _ _ c.args.address (c.in_ok-place.place + 72) _ c.self.view_is (omega (arith, here.at))
    (c.new.ensures ∙ rw (← c.as_slice.ensures.value) c.word_in.ensures)
