use Rattle.tfiles.proofs.Told.{tells_then}
use Rattle.thistory.proofs.lines.put_done.Goals as goal

pub returns : goal.returns
returns g c =
    tells_then c.put.ensures
    (tells_then c.put_word.ensures
    (tells_then c.put-2.ensures (tells_then c.put_fetched.ensures c.put_rest.ensures)))
