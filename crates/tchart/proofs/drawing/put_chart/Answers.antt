use Rattle.tfiles.proofs.Told.{tells_then}
use Rattle.tchart.proofs.drawing.put_chart.Goals as goal

pub returns : goal.returns
returns g c =
    let head = rw (c.width_of.ensures.is, c.height_of.ensures, c.min-rows.ensures) at c.put_head.ensures in
    let columns = rw (c.min-rows.ensures, c.as_slice.ensures) at c.put_columns.ensures in
    let marks = rw c.as_slice-2.ensures at c.put_marks.ensures in
    let lack = rw (c.y_of.ensures, c.min-rows.ensures) at c.put_lack-2.ensures in
    tells_then head
    (tells_then c.put_style.ensures
    (tells_then c.put_key.ensures
    (tells_then c.put_lack.ensures
    (tells_then columns (tells_then marks (tells_then lack c.put.ensures))))))
