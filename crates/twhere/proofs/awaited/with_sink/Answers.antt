use Rattle.std.proofs.Common.{sym, ap, [], ◌∷◌, Bool}
use Rattle.std.specs.Prelude.{if◌then◌else◌}
use Rattle.twhere.specs.declared.waits.Want.TheVariants.{Input}
use Rattle.twhere.specs.Waits.{wait_at}
use Rattle.twhere.proofs.AwaitedNodes.{adds_as, adds_none}
use Rattle.twhere.proofs.StuckFacts.{has_none, has_some}
use Rattle.twhere.proofs.awaited.with_sink.Goals as goal

pub returns-then-counts-ne0 : goal.returns-then-counts-ne0
returns-then-counts-ne0 c =
    adds_as (c.with_far_node.ensures Input)
    (ap (λ (b : Bool). if b then [] else wait_at Input 0 ∷ [])
    (sym (has_some _ _ c.counts.ensures c.if-counts-ne0.true)))

pub returns-else-counts-ne0 : goal.returns-else-counts-ne0
returns-else-counts-ne0 c =
    adds_as (adds_none c.args.set)
    (ap (λ (b : Bool). if b then [] else wait_at Input 0 ∷ [])
    (sym (has_none _ _ c.counts.ensures c.if-counts-ne0.false)))
