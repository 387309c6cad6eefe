use Rattle.tfiles.proofs.Told.{tells_then}
use Rattle.tfindings.proofs.places.put_flag.Goals as goal

pub returns : goal.returns
returns g c = tells_then c.put_node.ensures c.put.ensures
