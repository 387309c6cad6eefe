use Rattle.std.proofs.Common.{ap}
use Rattle.tfiles.proofs.Told.{tells_as, tells_then}
use Rattle.tjson.specs.Runs.{bytes_value}
use Rattle.tjson.proofs.memory.put_line.Goals as goal

pub returns : goal.returns
returns g c =
    tells_then c.put.ensures
    (tells_then
    (tells_then (tells_as c.put_bytes.ensures (ap bytes_value c.to_be_bytes.ensures))
    (tells_then c.put-2.ensures c.put_cells.ensures)) c.put-3.ensures)
