use Rattle.tfiles.proofs.Told.{tells_as, tells_then}
use Rattle.tchart.proofs.titles.put_freeze_title.Goals as goal

pub returns : goal.returns
returns g c =
    tells_then c.put_node.ensures
    (tells_then c.put_event.ensures (tells_then c.put.ensures (tells_as c.put-2.ensures c.break_name.ensures)))
