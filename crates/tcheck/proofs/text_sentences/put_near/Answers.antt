use Rattle.tfiles.proofs.Told.{tells_as, tells_then}
use Rattle.tcheck.proofs.text_sentences.put_near.Goals as goal

pub returns : goal.returns
returns g c =
    tells_then c.put.ensures (tells_then (tells_as c.put-2.ensures c.as_bytes.ensures.value) c.put-3.ensures)
