use Rattle.tfiles.proofs.Told.{tells_then}
use Rattle.tchart.proofs.style.put_light.Goals as goal

pub returns : goal.returns
returns g c =
    tells_then c.put.ensures
    (tells_then c.put-2.ensures
    (tells_then c.put-3.ensures
    (tells_then c.put-4.ensures
    (tells_then c.put-5.ensures
    (tells_then c.put-6.ensures
    (tells_then c.put-7.ensures
    (tells_then c.put-8.ensures
    (tells_then c.put-9.ensures
    (tells_then c.put-10.ensures
    (tells_then c.put-11.ensures
    (tells_then c.put-12.ensures
    (tells_then c.put-13.ensures
    (tells_then c.put-14.ensures
    (tells_then c.put-15.ensures
    (tells_then c.put-16.ensures
    (c.put-17.ensures))))))))))))))))
