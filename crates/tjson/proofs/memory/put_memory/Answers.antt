use Rattle.tfiles.proofs.Told.{tells_then}
use Rattle.tjson.proofs.memory.put_memory.Goals as goal

pub returns : goal.returns
returns g c = tells_then c.put.ensures (tells_then c.put_lines.ensures c.put-2.ensures)
