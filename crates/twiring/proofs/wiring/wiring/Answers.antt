use Rattle.std.proofs.Common.{◌≡◌, Bool, List, codes, sym, ap, ap₂, ◌∙◌, refl, subst, rules}
use Rattle.toml.specs.Data.{Members}
use Rattle.toml.specs.View.{table_view}
use Rattle.tplan.specs.declared.plan.Wire.{Wire}
use Rattle.tplan.specs.declared.plan.SourcePlan.{SourcePlan}
use Rattle.tplan.specs.declared.plan.SinkPlan.{SinkPlan}
use Rattle.tplan.specs.declared.event.Hold.{Hold}
use Rattle.tplan.specs.declared.wiring.Wiring.{Wiring}
use Rattle.tplan.specs.declared.wiring.WiringNode.{WiringNode}
use Rattle.twiring.specs.Wirings.{is_first_in, root_keys, IsWiringAnswer}
use Rattle.twiring.specs.WiringParts.{Reading, both, made, known, node_in, wire_in, source_in, sink_in, hold_in}
use Rattle.twiring.specs.WiringParts.{array_at, head_in, ends_in, arrays_in, wiring_in}
use Rattle.twiring.proofs.WiringAnswers.{done, answer-known, answer-told, answer-both}
use Rattle.twiring.proofs.WiringValues.{wiring_from}
use Rattle.twiring.proofs.wiring.wiring.Goals as goal

-- the whole, from what may be answered of its parts
answer-wiring : (t : Members) (first : Bool) (n : Reading (List WiringNode)) (w : Reading (List Wire))
    (s : Reading (List SourcePlan))
    (k : Reading (List SinkPlan)) (h : Reading (List Hold)) (answer : Reading Wiring)
    → first ≡ is_first_in t
    → known (root_keys t) t done ≡ done → IsWiringAnswer (array_at (node_in first) (codes "node") t) n
    → IsWiringAnswer (array_at wire_in (codes "wire") t) w → IsWiringAnswer (array_at source_in (codes "source") t) s
    → IsWiringAnswer (array_at sink_in (codes "sink") t) k → IsWiringAnswer (array_at hold_in (codes "hold") t) h
    → made wiring_from (both (head_in t) (both (both n w) (both (both s k) h))) ≡ answer
    → IsWiringAnswer (wiring_in t) answer
answer-wiring t first n w s k h answer own keys ns ws ss ks hs e =
    let ns' : IsWiringAnswer (array_at (node_in (is_first_in t)) (codes "node") t) n =
    subst (λ b. IsWiringAnswer (array_at (node_in b) (codes "node") t) n) own ns in
    let net : IsWiringAnswer
    (both (array_at (node_in (is_first_in t)) (codes "node") t) (array_at wire_in (codes "wire") t))
    (both n w) =
    answer-both _ n _ w _ ns' ws refl in
    let ends : IsWiringAnswer (ends_in t) (both s k) = answer-both _ s _ k _ ss ks refl in
    let rest : IsWiringAnswer (both (ends_in t) (array_at hold_in (codes "hold") t)) (both (both s k) h) =
    answer-both _ (both s k) _ h _ ends hs refl in
    let arrays : IsWiringAnswer (arrays_in t) (both (both n w) (both (both s k) h)) =
    answer-both _ (both n w) _ (both (both s k) h) _ net rest refl in
    let told : IsWiringAnswer (both (head_in t) (arrays_in t))
    (both (head_in t) (both (both n w) (both (both s k) h))) =
    answer-both _ (head_in t) _ (both (both n w) (both (both s k) h)) _ (answer-told _ (head_in t) refl) arrays refl in
    answer-known wiring_from (root_keys t) t (both (head_in t) (arrays_in t)) _ answer keys told e

pub returns : goal.returns
returns c =
    let rest = c.both.ensures ∙ ap (λ ends. both ends c.array_at-holds.result) c.both-ends.ensures in
    let arrays = c.both-arrays.ensures ∙ ap₂ both c.both-net.ensures rest in
    let parts = c.both-2.ensures ∙ ap₂ both c.head.ensures arrays in
    answer-wiring (table_view c.args.root.now) c.is_first-first.result c.array_at-nodes.result c.array_at-wires.result
    c.array_at-sources.result c.array_at-sinks.result c.array_at-holds.result _ c.is_first-first.ensures
    (search rules) c.array_at-nodes.ensures
    c.array_at-wires.ensures c.array_at-sources.ensures c.array_at-sinks.ensures c.array_at-holds.ensures
    (ap (made wiring_from) (sym parts) ∙ ap (made wiring_from) c.in_ok-timeslice.was)

pub returns-in_err-timeslice : goal.returns-in_err-timeslice
returns-in_err-timeslice c =
    let rest = c.both.ensures ∙ ap (λ ends. both ends c.array_at-holds.result) c.both-ends.ensures in
    let arrays = c.both-arrays.ensures ∙ ap₂ both c.both-net.ensures rest in
    let parts = c.both-2.ensures ∙ ap₂ both c.head.ensures arrays in
    let same : made wiring_from c.both-2.result ≡ c.from_residual-in_err-timeslice.result = search rules in
    answer-wiring (table_view c.args.root.now) c.is_first-first.result c.array_at-nodes.result c.array_at-wires.result
    c.array_at-sources.result c.array_at-sinks.result c.array_at-holds.result _ c.is_first-first.ensures
    (search rules) c.array_at-nodes.ensures
    c.array_at-wires.ensures c.array_at-sources.ensures c.array_at-sinks.ensures c.array_at-holds.ensures
    (ap (made wiring_from) (sym parts) ∙ same)
