use Rattle.tfiles.proofs.Told.{tells_then}
use Rattle.tchart.proofs.style.put_arrow_head.Goals as goal

pub returns : goal.returns
returns g c =
    tells_then c.put.ensures
    (tells_then c.put-2.ensures
    (c.put-3.ensures))
