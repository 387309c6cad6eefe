use Rattle.tfiles.proofs.Told.{tells_as, tells_then}
use Rattle.tcheck.proofs.sentences.put_process.Goals as goal

pub returns : goal.returns
returns g c =
    tells_then c.put_numbered.ensures
    (tells_then c.put.ensures
    (tells_then c.put_word.ensures
    (tells_then c.put-2.ensures
    (tells_then (tells_as c.put-3.ensures c.break_name.ensures) (tells_as c.put-4.ensures c.refusal_text.ensures)))))
