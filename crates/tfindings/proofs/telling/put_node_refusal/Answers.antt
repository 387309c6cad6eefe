use Rattle.tfiles.proofs.Told.{tells_then}
use Rattle.tfindings.proofs.telling.put_node_refusal.Goals as goal

pub returns : goal.returns
returns g c =
    tells_then
    (tells_then
    (tells_then c.put.ensures (tells_then c.put-2.ensures (tells_then c.put-3.ensures c.put_decimal.ensures)))
    c.put-4.ensures)
    c.put_last.ensures
