use Rattle.tfiles.proofs.Told.{tells_then}
use Rattle.tfindings.proofs.telling.put_certified.Goals as goal

pub returns : goal.returns
returns g c = tells_then c.put.ensures (tells_then c.put_end.ensures c.put_last.ensures)
