use Rattle.tfiles.proofs.Told.{tells_then}
use Rattle.tcheck.proofs.text_sentences.put_unknown.Goals as goal

pub returns : goal.returns
returns g c =
    tells_then c.put_part.ensures
    (tells_then c.put.ensures (tells_then c.put_escaped.ensures c.put-2.ensures))
