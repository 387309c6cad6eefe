use Rattle.tfiles.proofs.Told.{tells_then}
use Rattle.twhere.proofs.standing.put_where.Goals as goal

pub returns : goal.returns
returns g c = tells_then c.put_nodes.ensures c.put_stuck.ensures
