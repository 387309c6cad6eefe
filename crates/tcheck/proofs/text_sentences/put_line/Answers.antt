use Rattle.tfiles.proofs.Told.{tells_then}
use Rattle.tcheck.proofs.text_sentences.put_line.Goals as goal

pub returns : goal.returns
returns g c =
    tells_then (tells_then c.put_place.ensures (tells_then c.put_flaw.ensures c.put_advice.ensures)) c.put.ensures
