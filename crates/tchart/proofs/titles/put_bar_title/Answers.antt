use Rattle.tfiles.proofs.Told.{tells_then}
use Rattle.tchart.proofs.titles.put_bar_title.Goals as goal

pub returns : goal.returns
returns g c =
    tells_then c.put_node.ensures
    (tells_then c.put_events.ensures
    (tells_then c.put.ensures (tells_then c.put_steps.ensures c.put_process.ensures)))
