use Rattle.std.proofs.Common.{ap, decimal}
use Rattle.tfiles.proofs.Told.{tells_then, tells_as}
use Rattle.tjson.specs.Json.{quoted}
use Rattle.tjson.proofs.trace.put_freeze.Goals as goal

pub returns : goal.returns
returns g c =
    tells_then c.put.ensures
    (tells_then
    (tells_then (tells_as c.put_decimal.ensures (ap decimal c.from.ensures))
    (tells_then c.put-2.ensures (tells_as c.put_string.ensures (ap quoted c.break_name.ensures)))) c.put-3.ensures)
