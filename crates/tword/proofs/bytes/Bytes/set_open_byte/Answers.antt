use Rattle.std.proofs.Common.{◌+◌, length, arith}
use Rattle.tword.specs.Touches.{Writes}
use Rattle.tword.proofs.AsCells.{byte_put, length-as_cells}
use Rattle.tword.proofs.Open.{open_one, place_open}
use Rattle.tword.proofs.bytes.Bytes.set_open_byte.Goals as goal

pub returns-clause-free : goal.returns-clause-free
returns-clause-free c = λ _.
    let size = length-as_cells c.self.inside.bytes.items c.args.self.now c.self.view_is in
    open_one c.args.counts.now (length c.args.self.now) c.args.marks.now Writes c.in-Some.place c.args.address
    c.requires c.in-Some.ensures.is.0 (omega arith) (omega (arith, size, c.self.invariant)) c.in-Some.ensures.is.1
    c.in-Some.ensures.is.2

pub returns-clause-set : goal.returns-clause-set
returns-clause-set c = λ _.
    let size = length-as_cells c.self.inside.bytes.items c.args.self.now c.self.view_is in
    let here = place_open c.args.counts.now (length c.args.self.now) c.args.marks.now c.in-Some.place
    c.args.address 1 c.requires c.in-Some.ensures.is.0 (omega arith) (omega (arith, size, c.self.invariant))
    c.in-Some.ensures.is.1 (omega arith) in
    byte_put _ _ c.args.address (c.in-Some.place + 72) c.args.value c.self.view_is (omega (arith, here.at))
    (omega (arith, size, here.behind))
