use Rattle.tfiles.proofs.Told.{tells_as, tells_then}
use Rattle.tchart.proofs.drawing.put_freeze.Goals as goal

pub returns : goal.returns
returns g c =
    tells_then c.put_stop.ensures
    (tells_then c.put.ensures (tells_then (tells_as c.put-2.ensures c.break_name.ensures) c.put-3.ensures))
