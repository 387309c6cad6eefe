use Rattle.std.proofs.Common.{Bool, [], ap, sym, codes}
use Rattle.std.specs.Prelude.{if◌then◌else◌}
use Rattle.tfiles.proofs.Told.{tells_none, tells_as}
use Rattle.tfiles.proofs.writing.text.put_sign.Goals as goal

pub returns-else-negative : goal.returns-else-negative
returns-else-negative g c =
    tells_as (tells_none c.args.out.now) (ap (λ (b : Bool). if b then codes "-" else []) (sym c.if-negative.false))
