use Rattle.tfiles.proofs.Told.{tells_then}
use Rattle.tchart.proofs.parts.put_text.Goals as goal

pub returns : goal.returns
returns g c =
    tells_then c.put_class.ensures
    (tells_then c.put_number.ensures
    (tells_then c.put_number-2.ensures c.put.ensures))
