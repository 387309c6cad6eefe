use Rattle.std.proofs.Common.{ap, decimal}
use Rattle.tfiles.proofs.Told.{tells_as, tells_then}
use Rattle.twhere.proofs.wait_text.put_wait.Goals as goal

pub returns : goal.returns
returns g c =
    tells_then c.put_want.ensures
    (tells_then c.put.ensures
    (tells_then (tells_as c.put_decimal.ensures (ap decimal c.from.ensures)) c.put_wire.ensures))
