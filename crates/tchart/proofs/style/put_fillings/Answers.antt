use Rattle.tfiles.proofs.Told.{tells_then}
use Rattle.tchart.proofs.style.put_fillings.Goals as goal

pub returns : goal.returns
returns g c =
    tells_then c.put.ensures
    (tells_then c.put-2.ensures
    (tells_then c.put-3.ensures
    (tells_then c.put-4.ensures
    (c.put-5.ensures))))
