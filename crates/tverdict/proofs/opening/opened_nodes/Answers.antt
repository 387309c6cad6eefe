use Rattle.std.proofs.Common.{ap, length, refl, subst, ◌∙◌, ℕ}
use Rattle.std.proofs.lemmas.Option.{slice_get_read}
use Rattle.tcertify.specs.NodeOpened.{IsOpen}
use Rattle.tverdict.specs.Opening.{fresh_after}
use Rattle.tverdict.proofs.Starting.{node_opened}
use Rattle.tverdict.proofs.opening.opened_nodes.Goals as goal

pub loop-number-preserved : goal.loop-number-preserved
loop-number-preserved c =
    let plans = c.args.plans.now in let k = c.loop-number.number in let plan = c.index-plans-number.result in
    node_opened plans c.loop-number.nodes.items c.push.new.self.items k plan c.in_ok-node.node
    (slice_get_read plans (length plans) k plan refl c.loop-number-test.true c.index-plans-number.is)
    c.loop-number.invariant
    (subst (λ (f : ℕ). IsOpen plan k f c.in_ok-node.node)
    (c.next_place-first_place.ensures ∙ ap fresh_after c.as_slice.ensures.value) c.in_ok-node.ensures)
    c.in_ok-push.ensures.items
