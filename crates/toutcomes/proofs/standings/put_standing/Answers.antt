use Rattle.tfiles.proofs.Told.{tells_then}
use Rattle.toutcomes.proofs.standings.put_standing.Goals as goal

pub returns : goal.returns
returns g c = tells_then c.put_heading.ensures c.put.ensures
