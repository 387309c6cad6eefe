use Rattle.tfiles.proofs.Told.{tells_then}
use Rattle.tchart.proofs.drawing.put_halt.Goals as goal

pub returns : goal.returns
returns g c =
    tells_then c.put_stop.ensures (tells_then c.put.ensures c.put-2.ensures)
