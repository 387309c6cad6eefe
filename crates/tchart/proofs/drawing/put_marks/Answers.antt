use Rattle.tfiles.proofs.Told.{tells_then}
use Rattle.tchart.proofs.drawing.put_marks.Goals as goal

pub returns : goal.returns
returns g c =
    tells_then c.put_layer.ensures
    (tells_then c.put_layer-2.ensures (tells_then c.put_layer-3.ensures c.put_labels.ensures))
