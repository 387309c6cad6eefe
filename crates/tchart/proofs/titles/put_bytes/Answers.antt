use Rattle.std.proofs.Common.{ap, decimal}
use Rattle.hex.specs.Hex.{encode_lower}
use Rattle.tfiles.proofs.Told.{tells_as, tells_then}
use Rattle.tchart.proofs.titles.put_bytes.Goals as goal

pub returns : goal.returns
returns g c =
    tells_then (tells_as c.put_decimal.ensures (ap decimal c.from.ensures))
    (tells_then c.put.ensures
    (tells_then (tells_as c.put_hex.ensures (ap encode_lower c.as_slice.ensures)) c.put_more.ensures))
