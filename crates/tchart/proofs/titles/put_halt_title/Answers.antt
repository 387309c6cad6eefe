use Rattle.tfiles.proofs.Told.{tells_then}
use Rattle.tchart.proofs.titles.put_halt_title.Goals as goal

pub returns : goal.returns
returns g c =
    tells_then c.put_node.ensures
    (tells_then c.put_event.ensures c.put.ensures)
