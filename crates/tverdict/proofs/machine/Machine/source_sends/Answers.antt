use Rattle.std.proofs.Common.{◌≡◌, ◌<◌, ◌≤◌, ◌+◌, ◌-◌, ◌∙◌, ℕ, refl, sym, ap, subst, arith, length, List, Some}
use Rattle.std.specs.Prelude.{slice_get, slice_index, slice_set}
use Rattle.std.proofs.lemmas.Bool.{ltb-false, ltb-true}
use Rattle.std.proofs.lemmas.List.{get_or_read}
use Rattle.std.proofs.lemmas.Option.{slice_get_read}
use Rattle.std.specs.Vec.{with_item}
use Rattle.tplan.specs.declared.plan.NodePlan.{NodePlan}
use Rattle.tword.specs.Stores.{as_cells}
use Rattle.tverdict.specs.declared.machine.Machine.{Machine}
use Rattle.tverdict.specs.Wires.{messages_at}
use Rattle.tverdict.proofs.Scripted.{nothing_sent, one_sent, source_lies}
use Rattle.tverdict.proofs.machine.Machine.source_sends.Goals as goal

pub returns-in_default-get : goal.returns-in_default-get
returns-in_default-get c =
    let plan = c.args.plan.now in let m = c.args.self.now in let e = c.args.from in let fits = c.requires.fits in
    let k = c.index-sent.result.now in let n = length c.as_slice.result.now in
    let nodes : n ≡ length plan.nodes = ap (λ (xs : List NodePlan). length xs) c.as_slice.ensures in
    let lies = source_lies plan e.node c.requires.role in
    let low : e.node - n < length m.sent.items = omega (arith, nodes, lies.0, lies.1, fits.sent) in
    let sent : k ≡ slice_index m.sent.items (e.node - n) =
    get_or_read m.sent.items (e.node - n) k low c.index-sent.ensures 0 in
    let far : length c.messages_at.result.now ≤ k =
    ltb-false k (length c.messages_at.result.now) (sym c.in_default-get.ensures.lookup.0) in
    let none : length (messages_at plan (e.node - n) e.link) ≤ slice_index m.sent.items (e.node - n) =
    omega (arith, far, sent, ap (λ (xs : List (List ℕ)). length xs) c.messages_at.ensures) in
    nothing_sent plan m fits e c.requires.role c.in-Some.place c.in-Some.ensures.1 c.args.notes.now c.add.new.self
    c.add.ensures.keeps c.add.ensures.tells
    (subst (λ (j : ℕ). length (messages_at plan (e.node - j) e.link) ≤ slice_index m.sent.items (e.node - j)) nodes
    none)

pub returns : goal.returns
returns c =
    let plan = c.args.plan.now in let m = c.args.self.now in let e = c.args.from in let fits = c.requires.fits in
    let k = c.index-sent.result.now in let n = length c.as_slice.result.now in let ms = c.messages_at.result.now in
    let nodes : n ≡ length plan.nodes = ap (λ (xs : List NodePlan). length xs) c.as_slice.ensures in
    let lies = source_lies plan e.node c.requires.role in
    let low : e.node - n < length m.sent.items = omega (arith, nodes, lies.0, lies.1, fits.sent) in
    let sent : k ≡ slice_index m.sent.items (e.node - n) =
    get_or_read m.sent.items (e.node - n) k low c.index-sent.ensures 0 in
    let first : slice_get ms k ≡ Some c.in-Some-get.message.now =
    slice_get_read ms (length ms) k c.in-Some-get.message.now refl
    (ltb-true k (length ms) (sym c.in-Some-get.ensures.lookup.0)) c.in-Some-get.ensures.lookup.1 in
    let there : slice_get (messages_at plan (e.node - n) e.link) (slice_index m.sent.items (e.node - n))
    ≡ Some c.in-Some-get.message.now =
    subst (λ (j : ℕ). slice_get (messages_at plan (e.node - n) e.link) j ≡ Some c.in-Some-get.message.now) sent
    (subst (λ (xs : List (List ℕ)). slice_get xs k ≡ Some c.in-Some-get.message.now) c.messages_at.ensures first) in
    let new : Machine = record m {
      sent = with_item m.sent (e.node - n) c.in-Some-checked_add.more;
    } in
    let set : new.sent.items ≡ slice_set m.sent.items (e.node - n) (slice_index m.sent.items (e.node - n) + 1) =
    ap (λ (j : ℕ). slice_set m.sent.items (e.node - n) j)
    (c.in-Some-checked_add.ensures.1 ∙ ap (λ (j : ℕ). j + 1) sent) in
    one_sent plan m fits e c.requires.role c.in-Some.place c.in-Some.ensures.1 c.args.notes.now c.add.new.self
    c.add.ensures.keeps c.add.ensures.tells c.in-Some-get.message.now
    (subst (λ (j : ℕ). slice_get (messages_at plan (e.node - j) e.link) (slice_index m.sent.items (e.node - j))
    ≡ Some c.in-Some-get.message.now) nodes there)
    c.in_ok-bytes.bytes.items (c.in_ok-bytes.ensures ∙ ap as_cells c.as_slice-2.ensures) new refl
    (subst (λ (j : ℕ). new.sent.items ≡ slice_set m.sent.items (e.node - j) (slice_index m.sent.items (e.node - j) + 1))
    nodes set)
