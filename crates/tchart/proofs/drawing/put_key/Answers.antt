use Rattle.tfiles.proofs.Told.{tells_then}
use Rattle.tchart.proofs.drawing.put_key.Goals as goal

pub returns : goal.returns
returns g c =
    tells_then c.put_key_line.ensures
    (tells_then c.put_key_line-2.ensures (tells_then c.put_key_line-3.ensures c.put_key_line-4.ensures))
