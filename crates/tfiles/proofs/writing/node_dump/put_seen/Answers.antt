use Rattle.tfiles.proofs.Told.{tells_then}
use Rattle.tfiles.proofs.writing.node_dump.put_seen.Goals as goal

pub returns : goal.returns
returns g c = tells_then c.put.ensures c.put_byte.ensures
