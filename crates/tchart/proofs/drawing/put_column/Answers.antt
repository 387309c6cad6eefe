use Rattle.std.proofs.Common.{ap, decimal}
use Rattle.tfiles.proofs.Told.{tells_as, tells_then}
use Rattle.tchart.proofs.drawing.put_column.Goals as goal

pub returns : goal.returns
returns g c =
    let name = rw (c.x_of-x.ensures, c.from.ensures) at c.put_text.ensures in
    let bar = rw (c.x_of-x.ensures, c.from.ensures, c.y_of.ensures) at c.put_line.ensures in
    tells_then
    (tells_then name
    (tells_then (tells_then c.put_kind.ensures (tells_as c.put_decimal.ensures (ap decimal c.from-2.ensures)))
    c.put.ensures))
    (tells_then bar c.put-2.ensures)
