use Rattle.tfiles.proofs.Told.{tells_then}
use Rattle.tchart.proofs.titles.put_pause_title.Goals as goal

pub returns : goal.returns
returns g c =
    tells_then c.put_node.ensures
    (tells_then c.put_since.ensures
    (tells_then c.put.ensures (tells_then c.put_need.ensures c.put_process.ensures)))
