use Rattle.tfiles.proofs.Told.{tells_then}
use Rattle.topening.proofs.fault_line.put_numbered.Goals as goal

pub returns : goal.returns
returns g c = tells_then c.put.ensures c.put_decimal.ensures
