use Rattle.std.proofs.Common.{ap, decimal}
use Rattle.tfiles.proofs.Told.{tells_then, tells_as}
use Rattle.tjson.proofs.Lines.{ends_line}
use Rattle.tjson.proofs.end.put_json_rounds_end.Goals as goal

pub returns : goal.returns
returns g c =
    tells_then c.put.ensures
    (ends_line
    (tells_then c.put_how.ensures
    (tells_then c.put-2.ensures (tells_as c.put_decimal.ensures (ap decimal c.from.ensures)))) c.put-3.ensures)
