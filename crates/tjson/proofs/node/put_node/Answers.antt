use Rattle.tfiles.proofs.Told.{tells_then}
use Rattle.tjson.proofs.node.put_node.Goals as goal

pub returns : goal.returns
returns g c =
    tells_then c.put.ensures
    (tells_then
    (tells_then c.put_decimal.ensures
    (tells_then c.put-2.ensures
    (tells_then c.put_standing.ensures (tells_then c.put-3.ensures c.put_memory.ensures)))) c.put-4.ensures)
