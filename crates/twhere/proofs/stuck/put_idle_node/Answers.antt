use Rattle.tfiles.proofs.Told.{tells_then}
use Rattle.twhere.proofs.stuck.put_idle_node.Goals as goal

pub returns : goal.returns
returns g c = tells_then c.put_numbered.ensures c.put.ensures
