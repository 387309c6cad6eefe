use Rattle.std.proofs.Common.{◌∙◌, Bool, [], ◌++◌, ap, sym}
use Rattle.std.specs.Prelude.{if◌then◌else◌}
use Rattle.tfiles.proofs.Told.{tells_as, tells_none, tells_then}
use Rattle.tendings.proofs.differing.put_change.Goals as goal

pub returns-then-is_changed : goal.returns-then-is_changed
returns-then-is_changed g c =
    tells_as (tells_then c.put.ensures c.put-then-is_changed.ensures)
    (ap (λ (b : Bool). if b then c.args.heading.now ++ c.args.other.now else [])
    (sym c.if-is_changed.true ∙ c.is_changed.ensures))

pub returns-else-is_changed : goal.returns-else-is_changed
returns-else-is_changed g c =
    tells_as (tells_none c.args.out.now)
    (ap (λ (b : Bool). if b then c.args.heading.now ++ c.args.other.now else [])
    (sym c.if-is_changed.false ∙ c.is_changed.ensures))
