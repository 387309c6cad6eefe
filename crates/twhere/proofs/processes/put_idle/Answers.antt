use Rattle.tfiles.proofs.Told.{tells_then}
use Rattle.twhere.proofs.processes.put_idle.Goals as goal

pub returns : goal.returns
returns g c = tells_then c.put.ensures c.put_flags.ensures
