use Rattle.tfiles.proofs.Told.{tells_then}
use Rattle.tfiles.proofs.writing.node_dump.put_node_dump.Goals as goal

pub returns : goal.returns
returns g c = tells_then c.put_node_line.ensures c.put_lines.ensures
