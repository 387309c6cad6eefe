use Rattle.std.proofs.Common.{sym, ap, ◌∙◌, [], ◌∷◌, Bool}
use Rattle.std.specs.Prelude.{if◌then◌else◌}
use Rattle.twhere.specs.declared.waits.Want.TheVariants.{Output}
use Rattle.twhere.specs.Waits.{wait_at}
use Rattle.twhere.proofs.AwaitedNodes.{adds_as, adds_none}
use Rattle.twhere.proofs.awaited.with_source.Goals as goal

pub returns-then-has_output : goal.returns-then-has_output
returns-then-has_output c =
    adds_as (c.with_far_node.ensures Output)
    (ap (λ (b : Bool). if b then wait_at Output 0 ∷ [] else []) (sym c.if-has_output.true ∙ c.has_output.ensures))

pub returns-else-has_output : goal.returns-else-has_output
returns-else-has_output c =
    adds_as (adds_none c.args.set)
    (ap (λ (b : Bool). if b then wait_at Output 0 ∷ [] else []) (sym c.if-has_output.false ∙ c.has_output.ensures))
