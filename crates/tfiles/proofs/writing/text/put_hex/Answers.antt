use Rattle.hex.specs.Hex.{encode_lower}
use Rattle.tfiles.proofs.LeftText.{encode-next, encode-end}
use Rattle.tfiles.proofs.Told.{goes_on-start, goes_on-next, goes_on-end}
use Rattle.tfiles.proofs.writing.text.put_hex.Goals as goal

pub loop-byte-init : goal.loop-byte-init
loop-byte-init g c = goes_on-start c.args.out.now (encode_lower c.args.bytes.now)

pub loop-byte-preserved : goal.loop-byte-preserved
loop-byte-preserved g c =
    goes_on-next _ _ c.loop-byte.invariant (encode-next c.args.bytes.now c.loop-byte.byte-index c.loop-byte-test.true)
    c.put_byte.ensures

pub returns : goal.returns
returns g c =
    goes_on-end c.loop-byte.invariant (encode-end c.args.bytes.now c.loop-byte.byte-index c.loop-byte-test.false)
