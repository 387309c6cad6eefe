use Rattle.std.proofs.Common.{flat_map}
use Rattle.tnames.specs.Escapes.{escaped_byte}
use Rattle.tfiles.proofs.LeftText.{flat_map-next, flat_map-end}
use Rattle.tfiles.proofs.Told.{goes_on-start, goes_on-next, goes_on-end, tells_then}
use Rattle.tnames.proofs.escapes.put_bytes.Goals as goal

pub loop-byte-init : goal.loop-byte-init
loop-byte-init g c = goes_on-start c.args.out.now (flat_map escaped_byte c.args.bytes.now)

pub loop-byte-preserved : goal.loop-byte-preserved
loop-byte-preserved g c =
    goes_on-next _ _ c.loop-byte.invariant
    (flat_map-next escaped_byte c.args.bytes.now c.loop-byte.byte-index 0 c.loop-byte-test.true)
    (tells_then c.put.ensures c.put_byte.ensures)

pub returns : goal.returns
returns g c =
    goes_on-end c.loop-byte.invariant
    (flat_map-end escaped_byte c.args.bytes.now c.loop-byte.byte-index c.loop-byte-test.false)
