use Rattle.tfiles.proofs.Told.{tells_then, tells_as}
use Rattle.tfiles.proofs.writing.node_dump.put_frozen.Goals as goal

pub returns : goal.returns
returns g c = tells_then c.put.ensures (tells_as c.put-2.ensures c.break_name.ensures)
