use Rattle.tfiles.proofs.Told.{tells_then}
use Rattle.tchart.proofs.drawing.put_mark.Goals as goal

pub returns : goal.returns
returns g c =
    tells_then c.put.ensures
    (tells_then c.put_title.ensures
    (tells_then c.put-2.ensures
    (tells_then c.put_shape.ensures c.put-3.ensures)))
