use Rattle.tfiles.proofs.Told.{tells_then}
use Rattle.tcheck.proofs.text_sentences.put_no_table.Goals as goal

pub returns : goal.returns
returns g c =
    tells_then c.put_part.ensures c.put.ensures
