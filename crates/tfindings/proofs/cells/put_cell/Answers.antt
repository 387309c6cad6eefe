use Rattle.tfiles.proofs.Told.{tells_then}
use Rattle.tfindings.proofs.cells.put_cell.Goals as goal

pub returns : goal.returns
returns g c = tells_then c.put.ensures c.put_known.ensures
