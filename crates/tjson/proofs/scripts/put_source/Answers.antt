use Rattle.std.proofs.Common.{ap, decimal}
use Rattle.tfiles.proofs.Told.{tells_then, tells_as}
use Rattle.tjson.proofs.scripts.put_source.Goals as goal

pub returns : goal.returns
returns g c =
    tells_then c.put.ensures
    (tells_then
    (tells_then c.put_decimal.ensures
    (tells_then c.put-2.ensures
    (tells_then (tells_as c.put_decimal-2.ensures (ap decimal c.done.ensures))
    (tells_then c.put-3.ensures (tells_as c.put_decimal-3.ensures (ap decimal c.count.ensures)))))) c.put-4.ensures)
