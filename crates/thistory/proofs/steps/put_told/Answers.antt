use Rattle.tfiles.proofs.Told.{tells_then}
use Rattle.thistory.proofs.steps.put_told.Goals as goal

pub returns : goal.returns
returns g c = tells_then c.put.ensures c.put_byte.ensures
