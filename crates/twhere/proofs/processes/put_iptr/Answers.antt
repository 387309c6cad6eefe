use Rattle.tfiles.proofs.Told.{tells_then}
use Rattle.twhere.proofs.processes.put_iptr.Goals as goal

pub returns : goal.returns
returns g c = tells_then (tells_then c.put.ensures c.put_code.ensures) c.put-2.ensures
