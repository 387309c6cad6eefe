use Rattle.tfiles.proofs.Told.{tells_then}
use Rattle.tcheck.proofs.sentences.put_shared.Goals as goal

pub returns : goal.returns
returns g c =
    tells_then c.put_end.ensures
    (tells_then c.put.ensures
    (tells_then c.put_place.ensures c.put-2.ensures))
