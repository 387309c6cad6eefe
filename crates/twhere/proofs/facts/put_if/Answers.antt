use Rattle.std.proofs.Common.{sym, ap, Bool, []}
use Rattle.std.specs.Prelude.{if◌then◌else◌}
use Rattle.tfiles.proofs.Told.{tells_none, tells_as}
use Rattle.twhere.proofs.facts.put_if.Goals as goal

pub returns-else-condition : goal.returns-else-condition
returns-else-condition g c =
    tells_as (tells_none c.args.out.now)
    (ap (λ (b : Bool). if b then c.args.text.now else []) (sym c.if-condition.false))
