use Rattle.tfiles.proofs.Told.{tells_as, tells_then}
use Rattle.tchart.proofs.drawing.put_key_line.Goals as goal

pub returns : goal.returns
returns g c =
    let box = rw c.class_of.ensures at c.put_rectangle.ensures in
    tells_then box
    (tells_then c.put_text.ensures (tells_then (tells_as c.put.ensures c.awaited_text.ensures) c.put-2.ensures))
