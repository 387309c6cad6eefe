use Rattle.tfiles.proofs.Told.{tells_then, tells_as}
use Rattle.tfindings.proofs.places.put_access.Goals as goal

pub returns : goal.returns
returns g c = tells_then (tells_as c.put.ensures c.verb.ensures) (tells_then c.put-2.ensures c.put_place.ensures)
