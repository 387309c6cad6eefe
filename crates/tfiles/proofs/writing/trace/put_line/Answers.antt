use Rattle.tfiles.proofs.Told.{tells_then}
use Rattle.tfiles.proofs.writing.trace.put_line.Goals as goal

pub returns : goal.returns
returns g c = tells_then c.put_note.ensures c.put.ensures
