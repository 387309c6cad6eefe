use Rattle.std.proofs.Common.{ℕ, List, ap, map}
use Rattle.tfiles.proofs.Told.{tells_then, tells_as}
use Rattle.tjson.specs.Json.{array}
use Rattle.tjson.specs.Runs.{bytes_value}
use Rattle.tjson.proofs.scripts.put_sink.Goals as goal

pub returns : goal.returns
returns g c =
    tells_then c.put.ensures
    (tells_then
    (tells_then c.put_decimal.ensures
    (tells_then c.put-2.ensures
    (tells_as c.put_kept.ensures (ap (λ (kept : List (List ℕ)). array (map bytes_value kept)) c.kept.ensures))))
    c.put-3.ensures)
