use Rattle.std.proofs.Common.{ap, decimal}
use Rattle.tfiles.proofs.Told.{tells_as, tells_then}
use Rattle.tcheck.proofs.summaries.put_node_line.Goals as goal

pub returns : goal.returns
returns g c =
    tells_then c.put_numbered.ensures
    (tells_then (tells_as c.put.ensures c.kind_text.ensures)
    (tells_then (tells_as c.put_decimal.ensures (ap decimal c.from.ensures))
    (tells_then c.put-2.ensures
    (tells_then c.put_escaped.ensures c.put-3.ensures))))
