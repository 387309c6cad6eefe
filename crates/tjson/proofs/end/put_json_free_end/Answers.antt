use Rattle.std.proofs.Common.{Bool, ap, sym}
use Rattle.tfiles.proofs.Told.{tells_as}
use Rattle.tjson.specs.Runs.{json_free_end}
use Rattle.tjson.proofs.end.put_json_free_end.Goals as goal

pub returns-then-quiet : goal.returns-then-quiet
returns-then-quiet g c = tells_as c.put.ensures (ap (λ (quiet : Bool). json_free_end quiet) (sym c.if-quiet.true))

pub returns-else-quiet : goal.returns-else-quiet
returns-else-quiet g c =
    tells_as c.put-else-quiet.ensures (ap (λ (quiet : Bool). json_free_end quiet) (sym c.if-quiet.false))
