use Rattle.tfiles.proofs.Told.{tells_then}
use Rattle.tchart.proofs.parts.put_line.Goals as goal

pub returns : goal.returns
returns g c =
    tells_then c.put_class.ensures
    (tells_then c.put_number.ensures
    (tells_then c.put_number-2.ensures
    (tells_then c.put_number-3.ensures
    (tells_then c.put_number-4.ensures c.put.ensures))))
