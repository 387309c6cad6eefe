use Rattle.std.proofs.Common.{◌≡◌, List, length, refl, ap, ◌∙◌, arith}
use Rattle.std.proofs.lemmas.Iterator.Adapters.{YieldsList-from_vec}
use Rattle.std.proofs.lemmas.Iterator.Consumers.{YieldsList-turn, YieldsList-end}
use Rattle.std.proofs.lemmas.List.{length_push}
use Rattle.std.proofs.lemmas.Result.{err_from_is_err_and}
use Rattle.tplan.specs.declared.plan.NodePlan.{NodePlan}
use Rattle.tnet.proofs.StartingNodes.{as_many, good_node, node_fails, one_more_node, all_built}
use Rattle.tnet.proofs.opening.build_nodes.Goals as goal

pub build_node-requires-clause-few : goal.build_node-requires-clause-few
build_node-requires-clause-few c =
    let gives = c.into_iter-plan-iterator.ensures.into_iter_gives in
    let same = c.into_vec-plans.ensures in
    let all = YieldsList-from_vec {s = c.into_iter-plan-iterator.result} c.args.plans (gives.0 ∙ same)
    (omega (arith, gives.1, ap (λ (ps : List NodePlan). length ps) same)) in
    let t = YieldsList-turn all c.loop-plan.yielded c.loop-plan.plan-iterator c.loop-plan.yielded_by c.next.result
    c.next.new.self c.in-Some.plan c.in-Some.is c.next.ensures.steps in
    let count = as_many _ _ _ (length c.loop-plan.yielded) _ (omega (arith, t.0)) c.loop-plan.invariant in
    omega (arith, t.0, count, c.len-in-loop-plan.ensures, c.requires.few)

pub build_node-requires-clause-size : goal.build_node-requires-clause-size
build_node-requires-clause-size c =
    let gives = c.into_iter-plan-iterator.ensures.into_iter_gives in
    let same = c.into_vec-plans.ensures in
    let all = YieldsList-from_vec {s = c.into_iter-plan-iterator.result} c.args.plans (gives.0 ∙ same)
    (omega (arith, gives.1, ap (λ (ps : List NodePlan). length ps) same)) in
    let t = YieldsList-turn all c.loop-plan.yielded c.loop-plan.plan-iterator c.loop-plan.yielded_by c.next.result
    c.next.new.self c.in-Some.plan c.in-Some.is c.next.ensures.steps in
    (good_node c.args.timeslice c.args.plans (length c.loop-plan.yielded) _ c.requires t.0 t.1).0

pub build_node-requires-clause-segments : goal.build_node-requires-clause-segments
build_node-requires-clause-segments c =
    let gives = c.into_iter-plan-iterator.ensures.into_iter_gives in
    let same = c.into_vec-plans.ensures in
    let all = YieldsList-from_vec {s = c.into_iter-plan-iterator.result} c.args.plans (gives.0 ∙ same)
    (omega (arith, gives.1, ap (λ (ps : List NodePlan). length ps) same)) in
    let t = YieldsList-turn all c.loop-plan.yielded c.loop-plan.plan-iterator c.loop-plan.yielded_by c.next.result
    c.next.new.self c.in-Some.plan c.in-Some.is c.next.ensures.steps in
    (good_node c.args.timeslice c.args.plans (length c.loop-plan.yielded) _ c.requires t.0 t.1).1

pub returns-in_err-built : goal.returns-in_err-built
returns-in_err-built c =
    let gives = c.into_iter-plan-iterator.ensures.into_iter_gives in
    let same = c.into_vec-plans.ensures in
    let all = YieldsList-from_vec {s = c.into_iter-plan-iterator.result} c.args.plans (gives.0 ∙ same)
    (omega (arith, gives.1, ap (λ (ps : List NodePlan). length ps) same)) in
    let t = YieldsList-turn all c.loop-plan.yielded c.loop-plan.plan-iterator c.loop-plan.yielded_by c.next.result
    c.next.new.self c.in-Some.plan c.in-Some.is c.next.ensures.steps in
    let count = as_many _ _ _ (length c.loop-plan.yielded) _ (omega (arith, t.0)) c.loop-plan.invariant in
    let number : c.len-in-loop-plan.result ≡ length c.loop-plan.yielded =
    omega (arith, c.len-in-loop-plan.ensures, count) in
    let p = err_from_is_err_and c.from_residual-in_err-built.result c.from_residual-in_err-built.ensures.1 in
    rw (p.1, p.2)
    (node_fails c.args.timeslice c.args.wires.now c.args.plans c.args.plans (length c.loop-plan.yielded) _
    c.loop-plan.nodes.items _ refl t.0 t.1 c.loop-plan.invariant (rw number at c.in_err-built.ensures))

pub loop-plan-preserved : goal.loop-plan-preserved
loop-plan-preserved c =
    let gives = c.into_iter-plan-iterator.ensures.into_iter_gives in
    let same = c.into_vec-plans.ensures in
    let all = YieldsList-from_vec {s = c.into_iter-plan-iterator.result} c.args.plans (gives.0 ∙ same)
    (omega (arith, gives.1, ap (λ (ps : List NodePlan). length ps) same)) in
    let t = YieldsList-turn all c.loop-plan.yielded c.loop-plan.plan-iterator c.loop-plan.yielded_by c.next.result
    c.next.new.self c.in-Some.plan c.in-Some.is c.next.ensures.steps in
    let count = as_many _ _ _ (length c.loop-plan.yielded) _ (omega (arith, t.0)) c.loop-plan.invariant in
    let number : c.len-in-loop-plan.result ≡ length c.loop-plan.yielded =
    omega (arith, c.len-in-loop-plan.ensures, count) in
    rw (length_push c.loop-plan.yielded c.in-Some.plan)
    (one_more_node c.args.timeslice c.args.wires.now c.args.wires.now c.args.plans (length c.loop-plan.yielded) _
    c.loop-plan.nodes.items _ _ t.0 t.1 c.loop-plan.invariant refl (rw number at c.in_ok-built.ensures)
    c.in_ok-push.ensures.items)

pub returns : goal.returns
returns c =
    let gives = c.into_iter-plan-iterator.ensures.into_iter_gives in
    let same = c.into_vec-plans.ensures in
    let all = YieldsList-from_vec {s = c.into_iter-plan-iterator.result} c.args.plans (gives.0 ∙ same)
    (omega (arith, gives.1, ap (λ (ps : List NodePlan). length ps) same)) in
    let t = YieldsList-end all c.loop-plan.yielded c.loop-plan.plan-iterator c.loop-plan.yielded_by c.next.result
    c.next.new.self c.in-None.is c.next.ensures.steps in
    all_built c.args.timeslice c.args.wires.now c.args.plans (length c.loop-plan.yielded) c.loop-plan.nodes.items
    (omega (arith, t)) c.loop-plan.invariant
