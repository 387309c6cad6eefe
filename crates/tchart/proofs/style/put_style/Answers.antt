use Rattle.tfiles.proofs.Told.{tells_then}
use Rattle.tchart.proofs.style.put_style.Goals as goal

pub returns : goal.returns
returns g c =
    tells_then c.put.ensures
    (tells_then c.put_light.ensures
    (tells_then c.put-2.ensures
    (tells_then c.put_dark.ensures
    (tells_then c.put-3.ensures
    (tells_then c.put-4.ensures
    (tells_then c.put_arrow_head.ensures (tells_then c.put_fillings.ensures c.put-5.ensures)))))))
