use Rattle.std.proofs.Common.{ℕ, sym, ap, ◌∙◌, length, Option}
use Rattle.std.specs.Prelude.{option_map}
use Rattle.tfiles.proofs.Told.{tells_as, tells_none, tells_then}
use Rattle.twhere.specs.Circles.{way}
use Rattle.twhere.specs.NodeSets.{set_waits}
use Rattle.twhere.specs.Standing.{circle_fact}
use Rattle.twhere.proofs.circles.put_circle.Goals as goal

pub returns-in-Some : goal.returns-in-Some
returns-in-Some g c =
    tells_as
    (tells_then (tells_then (tells_then c.put.ensures c.put_decimal.ensures) c.put_way.ensures) c.put-in-Some.ensures)
    (ap (λ (size : Option ℕ). circle_fact c.args.lowest (option_map
    (λ k. way (length c.args.waits.now) (set_waits c.args.waits.now) c.args.lowest k c.args.lowest) size))
    (sym c.in-Some.is ∙ c.circle_size.ensures))

pub returns-in_default : goal.returns-in_default
returns-in_default g c =
    tells_as (tells_none c.args.out.now)
    (ap (λ (size : Option ℕ). circle_fact c.args.lowest (option_map
    (λ k. way (length c.args.waits.now) (set_waits c.args.waits.now) c.args.lowest k c.args.lowest) size))
    (sym c.in_default.is ∙ c.circle_size.ensures))
