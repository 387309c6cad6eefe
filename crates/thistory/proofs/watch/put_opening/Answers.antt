use Rattle.tfiles.proofs.Told.{tells_then}
use Rattle.thistory.proofs.watch.put_opening.Goals as goal

pub returns : goal.returns
returns g c = tells_then c.put.ensures (tells_then c.put_cells.ensures c.put-2.ensures)
