use Rattle.std.proofs.Common.{ap, decimal}
use Rattle.tfiles.proofs.Told.{tells_then, tells_as}
use Rattle.tjson.proofs.values.put_end.Goals as goal

pub returns : goal.returns
returns g c =
    tells_then c.put.ensures
    (tells_then
    (tells_then (tells_as c.put_decimal.ensures (ap decimal c.from.ensures))
    (tells_then c.put-2.ensures (tells_as c.put_decimal-2.ensures (ap decimal c.from-2.ensures)))) c.put-3.ensures)
