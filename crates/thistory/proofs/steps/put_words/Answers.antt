use Rattle.tfiles.proofs.Told.{tells_then}
use Rattle.thistory.proofs.steps.put_words.Goals as goal

pub returns : goal.returns
returns g c =
    tells_then c.put.ensures
    (tells_then c.put_word.ensures
    (tells_then c.put-2.ensures
    (tells_then c.put_word-2.ensures
    (tells_then c.put-3.ensures
    (tells_then c.put_word-3.ensures
    (tells_then c.put-4.ensures
    (tells_then c.put_word-4.ensures (tells_then c.put-5.ensures c.put_word-5.ensures))))))))
