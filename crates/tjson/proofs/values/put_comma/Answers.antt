use Rattle.std.proofs.Common.{Bool, ap, sym}
use Rattle.tfiles.proofs.Told.{tells_as, tells_none}
use Rattle.tjson.proofs.Commas.{comma}
use Rattle.tjson.proofs.values.put_comma.Goals as goal

pub returns-else-not-is_first : goal.returns-else-not-is_first
returns-else-not-is_first g c =
    tells_as (tells_none c.args.out.now) (ap (λ (is_first : Bool). comma is_first) (sym c.if-not-is_first.false))
