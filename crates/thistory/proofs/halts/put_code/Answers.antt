use Rattle.tfiles.proofs.Told.{tells_then}
use Rattle.thistory.proofs.halts.put_code.Goals as goal

pub returns : goal.returns
returns g c = tells_then c.put_word.ensures (tells_then c.put.ensures c.put_fetched.ensures)
