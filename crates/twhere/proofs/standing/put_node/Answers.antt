use Rattle.tfiles.proofs.Told.{tells_then}
use Rattle.twhere.proofs.standing.put_node.Goals as goal

pub returns : goal.returns
returns g c = tells_then c.put_role.ensures c.put_links.ensures
