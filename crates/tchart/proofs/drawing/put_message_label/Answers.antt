use Rattle.tfiles.proofs.Told.{tells_then}
use Rattle.tchart.proofs.drawing.put_message_label.Goals as goal

pub returns : goal.returns
returns g c =
    let head = rw (c.x_of.ensures, c.y_of.ensures) at c.put_text.ensures in
    tells_then head (tells_then c.put_bytes.ensures c.put.ensures)
