use Rattle.tfiles.proofs.Told.{tells_then, tells_as}
use Rattle.tfindings.proofs.telling.put_stopped.Goals as goal

pub returns : goal.returns
returns g c =
    tells_then
    (tells_then c.put.ensures
    (tells_then (tells_as c.put-2.ensures c.stop_name.ensures) (tells_then c.put-3.ensures c.put_made.ensures)))
    c.put-4.ensures
