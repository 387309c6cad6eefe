use Rattle.tfiles.proofs.Told.{tells_then}
use Rattle.tfiles.proofs.writing.scripts.put_message.Goals as goal

pub returns : goal.returns
returns g c = tells_then c.put.ensures (tells_then c.put_hex.ensures c.put-2.ensures)
