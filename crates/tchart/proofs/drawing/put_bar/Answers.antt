use Rattle.tfiles.proofs.Told.{tells_then}
use Rattle.tchart.proofs.drawing.put_bar.Goals as goal

pub returns : goal.returns
returns g c =
    let box = rw (c.x_of-x.ensures, c.y_of-y.ensures) at c.put_rectangle.ensures in
    let text = rw (c.x_of-x.ensures, c.y_of-y.ensures) at c.put_text.ensures in
    tells_then box (tells_then text (tells_then c.put_decimal.ensures c.put.ensures))
