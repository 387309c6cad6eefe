use Rattle.std.proofs.Common.{◌≡◌, ◌++◌, ◌∷◌, [], ℕ, List, length, get_or, subst, sym, ap, ◌∙◌, arith}
use Rattle.std.proofs.lemmas.Iterator.Adapters.{YieldsList-from_vec}
use Rattle.std.proofs.lemmas.Iterator.Consumers.{YieldsList-turn, YieldsList-end}
use Rattle.std.proofs.lemmas.List.{length_push}
use Rattle.std.proofs.lemmas.Result.{err_from_is_err_and}
use Rattle.tplan.specs.declared.wiring.WiringNode.{WiringNode}
use Rattle.tfiles.specs.Images.{image_of}
use Rattle.topening.specs.Openings.{as_image}
use Rattle.topening.specs.Faults.{IsFaultOf}
use Rattle.topening.specs.Plans.{node_of}
use Rattle.topening.proofs.OpenedFiles.{all_planned, as_many_planned, none_planned, not_planned, one_planned}
use Rattle.topening.proofs.opening.node_plans.Goals as goal

pub loop-file-init : goal.loop-file-init
loop-file-init c = none_planned c.args.nodes.now c.args.files c.new-plans.result.items c.new-plans.ensures.items

pub offset_bounds-nodes-node : goal.offset_bounds-nodes-node
offset_bounds-nodes-node c =
    let gives = c.into_iter-file-iterator.ensures.into_iter_gives in
    let same = c.into_vec-file-items.ensures in
    let all = YieldsList-from_vec {s = c.into_iter-file-iterator.result} c.args.files (gives.0 ∙ same)
    (omega (arith, gives.1, ap (λ (fs : List (List ℕ)). length fs) same)) in
    let t = YieldsList-turn all c.loop-file.yielded c.loop-file.file-iterator c.loop-file.yielded_by c.next.result
    c.next.new.self c.in-Some.file c.in-Some.is c.next.ensures.steps in
    let count = as_many_planned _ _ (length c.loop-file.yielded) _ c.requires (omega (arith, t.0))
    c.loop-file.invariant in
    let node : c.len-node.result ≡ length c.loop-file.yielded = omega (arith, c.len-node.ensures, count) in
    omega (arith, node, t.0)

pub bounds-nodes-node : goal.bounds-nodes-node
bounds-nodes-node c =
    let gives = c.into_iter-file-iterator.ensures.into_iter_gives in
    let same = c.into_vec-file-items.ensures in
    let all = YieldsList-from_vec {s = c.into_iter-file-iterator.result} c.args.files (gives.0 ∙ same)
    (omega (arith, gives.1, ap (λ (fs : List (List ℕ)). length fs) same)) in
    let t = YieldsList-turn all c.loop-file.yielded c.loop-file.file-iterator c.loop-file.yielded_by c.next.result
    c.next.new.self c.in-Some.file c.in-Some.is c.next.ensures.steps in
    let count = as_many_planned _ _ (length c.loop-file.yielded) _ c.requires (omega (arith, t.0))
    c.loop-file.invariant in
    let node : c.len-node.result ≡ length c.loop-file.yielded = omega (arith, c.len-node.ensures, count) in
    omega (arith, node, t.0)

pub returns-in_err-image : goal.returns-in_err-image
returns-in_err-image c =
    let gives = c.into_iter-file-iterator.ensures.into_iter_gives in
    let same = c.into_vec-file-items.ensures in
    let all = YieldsList-from_vec {s = c.into_iter-file-iterator.result} c.args.files (gives.0 ∙ same)
    (omega (arith, gives.1, ap (λ (fs : List (List ℕ)). length fs) same)) in
    let t = YieldsList-turn all c.loop-file.yielded c.loop-file.file-iterator c.loop-file.yielded_by c.next.result
    c.next.new.self c.in-Some.file c.in-Some.is c.next.ensures.steps in
    let count = as_many_planned _ _ (length c.loop-file.yielded) _ c.requires (omega (arith, t.0))
    c.loop-file.invariant in
    let node : c.len-node.result ≡ length c.loop-file.yielded = omega (arith, c.len-node.ensures, count) in
    let p = err_from_is_err_and c.from_residual.result c.from_residual.ensures.1 in
    let place = length c.loop-file.yielded in
    rw (p.1, p.2)
    (not_planned c.args.nodes.now c.args.files place c.loop-file.plans.items _ c.in-Some.file c.loop-file.invariant t.0
    (subst (λ (bytes : List ℕ). IsFaultOf (as_image place (image_of bytes)) c.in_err-image.field-0.0)
    (c.as_slice.ensures ∙ t.1) (rw node at c.in_err-image.ensures.answer)))

pub loop-file-preserved : goal.loop-file-preserved
loop-file-preserved c =
    let gives = c.into_iter-file-iterator.ensures.into_iter_gives in
    let same = c.into_vec-file-items.ensures in
    let all = YieldsList-from_vec {s = c.into_iter-file-iterator.result} c.args.files (gives.0 ∙ same)
    (omega (arith, gives.1, ap (λ (fs : List (List ℕ)). length fs) same)) in
    let t = YieldsList-turn all c.loop-file.yielded c.loop-file.file-iterator c.loop-file.yielded_by c.next.result
    c.next.new.self c.in-Some.file c.in-Some.is c.next.ensures.steps in
    let count = as_many_planned _ _ (length c.loop-file.yielded) _ c.requires (omega (arith, t.0))
    c.loop-file.invariant in
    let node : c.len-node.result ≡ length c.loop-file.yielded = omega (arith, c.len-node.ensures, count) in
    rw (length_push c.loop-file.yielded c.in-Some.file)
    (one_planned c.args.nodes.now c.args.files (length c.loop-file.yielded) c.loop-file.plans.items
    c.push.new.self.items c.in_ok-image.image c.index-nodes-node.result c.in-Some.file c.loop-file.invariant c.requires
    t.0 (ap image_of (sym (c.as_slice.ensures ∙ t.1)) ∙ c.in_ok-image.ensures.answer)
    (c.in_ok-push.ensures.items
    ∙ ap (λ (n : WiringNode). c.loop-file.plans.items ++ node_of (n, c.in_ok-image.image) ∷ [])
    (c.index-nodes-node.is ∙ ap (λ (k : ℕ). get_or c.args.nodes.now k c.index-nodes-node.result) node)))

pub returns : goal.returns
returns c =
    let gives = c.into_iter-file-iterator.ensures.into_iter_gives in
    let same = c.into_vec-file-items.ensures in
    let all = YieldsList-from_vec {s = c.into_iter-file-iterator.result} c.args.files (gives.0 ∙ same)
    (omega (arith, gives.1, ap (λ (fs : List (List ℕ)). length fs) same)) in
    let t = YieldsList-end all c.loop-file.yielded c.loop-file.file-iterator c.loop-file.yielded_by c.next.result
    c.next.new.self c.in-None.is c.next.ensures.steps in
    rw c.new.ensures
    (all_planned c.args.nodes.now c.args.files (length c.loop-file.yielded) c.loop-file.plans.items
    c.loop-file.invariant (omega (arith, t)))
