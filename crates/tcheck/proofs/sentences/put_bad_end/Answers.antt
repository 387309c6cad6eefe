use Rattle.tfiles.proofs.Told.{tells_then}
use Rattle.tcheck.proofs.sentences.put_bad_end.Goals as goal

pub returns : goal.returns
returns g c =
    tells_then c.put_end.ensures c.put.ensures
