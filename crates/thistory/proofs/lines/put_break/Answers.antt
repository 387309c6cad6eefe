use Rattle.tfiles.proofs.Told.{tells_as, tells_then}
use Rattle.thistory.proofs.lines.put_break.Goals as goal

pub returns : goal.returns
returns g c = tells_then c.put.ensures (tells_as c.put-2.ensures c.break_name.ensures)
