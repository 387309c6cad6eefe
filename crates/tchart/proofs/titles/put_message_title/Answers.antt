use Rattle.tfiles.proofs.Told.{tells_then}
use Rattle.tchart.proofs.titles.put_message_title.Goals as goal

pub returns : goal.returns
returns g c =
    tells_then c.put.ensures
    (tells_then c.put_end.ensures
    (tells_then c.put-2.ensures
    (tells_then c.put_end-2.ensures
    (tells_then c.put-3.ensures
    (tells_then c.put_events.ensures
    (tells_then c.put-4.ensures
    (tells_then c.put_bytes.ensures c.put_process.ensures)))))))
