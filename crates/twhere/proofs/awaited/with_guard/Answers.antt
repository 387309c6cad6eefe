use Rattle.std.proofs.Common.{sym, ap, ◌∙◌, [], ◌∷◌, Bool}
use Rattle.std.specs.Prelude.{if◌then◌else◌}
use Rattle.twhere.specs.declared.waits.Want.TheVariants.{Alternative}
use Rattle.twhere.specs.Waits.{is_enabled_by, wait_at}
use Rattle.twhere.proofs.AwaitedNodes.{adds_as, adds_none}
use Rattle.twhere.proofs.awaited.with_guard.Goals as goal

pub returns-then-is_enabled_by : goal.returns-then-is_enabled_by
returns-then-is_enabled_by c =
    adds_as (c.with_far_node.ensures Alternative)
    (ap (λ (b : Bool). if b then wait_at Alternative c.args.link ∷ [] else [])
    (sym c.if-is_enabled_by.true ∙ c.is_enabled_by.ensures
    ∙ ap (is_enabled_by c.args.process) c.remembered.ensures))

pub returns-else-is_enabled_by : goal.returns-else-is_enabled_by
returns-else-is_enabled_by c =
    adds_as (adds_none c.args.set)
    (ap (λ (b : Bool). if b then wait_at Alternative c.args.link ∷ [] else [])
    (sym c.if-is_enabled_by.false ∙ c.is_enabled_by.ensures
    ∙ ap (is_enabled_by c.args.process) c.remembered.ensures))
