use Rattle.tfiles.proofs.Told.{tells_then}
use Rattle.tcheck.proofs.summaries.put_process_line.Goals as goal

pub returns : goal.returns
returns g c =
    tells_then c.put_numbered.ensures
    (tells_then c.put_numbered-2.ensures
    (tells_then c.put.ensures
    (tells_then c.put_word.ensures
    (tells_then c.put-2.ensures
    (tells_then c.put_word-2.ensures c.put-3.ensures)))))
