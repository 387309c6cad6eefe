use Rattle.tfiles.proofs.Told.{tells_then}
use Rattle.thistory.proofs.lines.put_head.Goals as goal

pub returns : goal.returns
returns g c = tells_then c.put_at_right.ensures c.put_who.ensures
