use Rattle.std.proofs.Common.{ap, decimal}
use Rattle.tfiles.proofs.Told.{tells_as, tells_then}
use Rattle.tchart.proofs.titles.put_begin_title.Goals as goal

pub returns : goal.returns
returns g c =
    tells_then c.put_node.ensures
    (tells_then c.put_event.ensures
    (tells_then c.put.ensures
    (tells_then (tells_as c.put_decimal.ensures (ap decimal c.from.ensures)) c.put_process.ensures)))
