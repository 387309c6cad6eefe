use Rattle.tfiles.proofs.Told.{tells_then}
use Rattle.tcheck.proofs.sentences.put_behind.Goals as goal

pub returns : goal.returns
returns g c =
    tells_then c.put.ensures c.put_end.ensures
