use Rattle.std.proofs.Common.{◌+◌, length, arith}
use Rattle.tword.specs.Touches.{Reads}
use Rattle.tword.proofs.AsCells.{length-as_cells}
use Rattle.tword.proofs.Open.{open_one, place_open, byte_shown}
use Rattle.tword.proofs.bytes.Bytes.open_byte.Goals as goal

pub returns-clause-free : goal.returns-clause-free
returns-clause-free c =
    let size = length-as_cells c.self.inside.bytes.items c.args.self.now c.self.view_is in
    open_one c.args.counts.now (length c.args.self.now) c.args.marks.now Reads c.in_ok-place.place c.args.address
    c.requires c.in_ok-place.ensures.is.0 (omega arith) (omega (arith, size, c.self.invariant))
    c.in_ok-place.ensures.is.1 c.in_ok-place.ensures.is.2

pub returns-clause-is : goal.returns-clause-is
returns-clause-is c =
    let size = length-as_cells c.self.inside.bytes.items c.args.self.now c.self.view_is in
    let here = place_open c.args.counts.now (length c.args.self.now) c.args.marks.now c.in_ok-place.place
    c.args.address 1 c.requires c.in_ok-place.ensures.is.0 (omega arith) (omega (arith, size, c.self.invariant))
    c.in_ok-place.ensures.is.1 (omega arith) in
    byte_shown c.self.inside.bytes.items c.args.self.now c.args.address (c.in_ok-place.place + 72) c.index.result.now
    c.self.view_is (omega (arith, here.at)) (omega (arith, size, here.behind)) c.index.ensures
