use Rattle.tfiles.proofs.Told.{tells_then}
use Rattle.tfiles.proofs.writing.trace.put_message.Goals as goal

pub returns : goal.returns
returns g c =
    tells_then c.put.ensures
    (tells_then c.put_end.ensures
    (tells_then c.put-2.ensures
    (tells_then c.put_end-2.ensures
    (tells_then c.put-3.ensures (tells_then c.put_decimal.ensures (tells_then c.put-4.ensures c.put_hex.ensures))))))
