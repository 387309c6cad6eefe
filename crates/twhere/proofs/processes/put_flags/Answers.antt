use Rattle.tfiles.proofs.Told.{tells_then}
use Rattle.twhere.proofs.processes.put_flags.Goals as goal

pub returns : goal.returns
returns g c = tells_then c.put_if.ensures c.put_if-2.ensures
