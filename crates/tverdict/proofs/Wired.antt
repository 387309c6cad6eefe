-- Which wires have a step, by what stands at their ends.
use Rattle.std.proofs.Common.{◌≡◌, ◌<◌, ◌≤◌, ◌+◌, ◌-◌, ℕ, zero, suc, refl, sym, ap, ◌∙◌, subst, Bool, true, false}
use Rattle.std.proofs.Common.{List, [], ◌∷◌, Option, Some, None, length, ◌⊎◌, inl, inr, arith}
use Rattle.std.proofs.Math.ListN.{drop}
use Rattle.std.specs.Prelude.{◌==◌, ◌&&◌, nat_lt, slice_get, slice_index, if◌then◌else◌}
use Rattle.std.proofs.lemmas.Bool.{le-ltb, le-leb, lt-ltb, ltb-true, ltb-false}
use Rattle.std.proofs.lemmas.Bool.Decides.{nat_tests}
use Rattle.std.proofs.lemmas.Option.{slice_get_past}
use Rattle.tplan.specs.declared.plan.End.{End}
use Rattle.tplan.specs.declared.plan.Plan.{Plan}
use Rattle.tplan.specs.declared.plan.SourcePlan.{SourcePlan}
use Rattle.tproc.specs.declared.channels.Side.{Side}
use Rattle.tproc.specs.declared.channels.Side.TheVariants.{Input, Output}
use Rattle.tprocesses.specs.Machine.{Role, Processor, Source, Sink, Nothing, role_at, offer_place}
use Rattle.tprocesses.specs.Machine.{has_messages, is_due_at, is_passable}
use Rattle.tprocesses.specs.Opening.{messages_of, opening_state, source_at}
use Rattle.tprocesses.specs.Places.{LinkHalf, Messages}
use Rattle.tprocesses.specs.Values.{Empty}
use Rattle.tcertify.specs.declared.node.Node.{Node}
use Rattle.tcertify.specs.Running.{State}
use Rattle.tverdict.specs.declared.machine.Machine.{Machine}
use Rattle.tverdict.specs.Machines.{AreNodesOf, at_node, machine_at}
use Rattle.tverdict.specs.Wires.{has_message, messages_at, messages_by}
use Rattle.tverdict.proofs.Frames.{chosen}

one_more : (k n : ℕ) → nat_lt k n ≡ nat_lt (suc k) (suc n)
one_more k n = grind (arith, nat_tests)

-- messages are left, as long as fewer have gone over than there were
left : (gone : ℕ) (ms : List (List ℕ)) → has_messages (drop gone ms) ≡ nat_lt gone (length ms)
left zero [] = refl
left (suc k) [] = sym (le-ltb (suc k) 0 (omega arith))
left zero (m ∷ ms) = sym (lt-ltb 0 (length (m ∷ ms)) (omega arith))
left (suc k) (m ∷ ms) = left k ms ∙ one_more k (length ms)

-- whoever has no fewer than n before is behind
nobody_below : (n : ℕ) → nat_lt n 0 ≡ false
nobody_below n = le-ltb n 0 (omega arith)

test : (b : Bool) → (b ≡ true) ⊎ (b ≡ false)
test true = inl refl
test false = inr refl

module _ (plan : Plan) where
  abbrev nodes : ℕ
  nodes = length plan.nodes

  -- roles behind the nodes
  abbrev role_behind : Bool → Bool → Bool → Role
  role_behind node source sink =
      if node then Processor else if source then Source else if sink then Sink else Nothing

  no_node : (source sink : Bool) → role_behind false source sink ≡ Processor → ⊥
  no_node true sink e = cc
  no_node false true e = cc
  no_node false false e = cc

  role_past : (n : ℕ) → nodes ≤ n → role_at plan n ≡ Processor → ⊥
  role_past n past e =
      no_node (nat_lt n (nodes + length plan.sources)) (nat_lt n (nodes + length plan.sources + length plan.sinks))
      (sym (ap (λ (t : Bool). role_behind t (nat_lt n (nodes + length plan.sources))
      (nat_lt n (nodes + length plan.sources + length plan.sinks))) (le-ltb n nodes past)) ∙ e)

  role_of_source : (n : ℕ) → nodes ≤ n → n < nodes + length plan.sources → role_at plan n ≡ Source
  role_of_source n past low =
      ap (λ (t : Bool). role_behind t (nat_lt n (nodes + length plan.sources))
      (nat_lt n (nodes + length plan.sources + length plan.sinks))) (le-ltb n nodes past)
      ∙ ap (λ (t : Bool). role_behind false t (nat_lt n (nodes + length plan.sources + length plan.sinks)))
      (lt-ltb n (nodes + length plan.sources) low)

  -- the messages of a source, by the number and the link of its end
  messages_if : (link : ℕ) (at : Option SourcePlan) (t : Bool) → (link == 0) ≡ t
      → messages_of (if t && true then at else None) ≡ messages_by link at
  messages_if link (Some s) true e = sym (chosen (link == 0) s.messages [] e)
  messages_if link (Some s) false e = sym (ap (λ (t : Bool). if t then s.messages else []) e)
  messages_if link None true e = refl
  messages_if link None false e = refl

  pub source_messages : (e : End) → nodes ≤ e.node
      → messages_of (source_at plan e) ≡ messages_at plan (e.node - nodes) e.link
  source_messages e past =
      ap (λ (t : Bool). messages_of (if (e.link == 0) && t then slice_get plan.sources (e.node - nodes) else None))
      (le-leb nodes e.node past)
      ∙ messages_if e.link (slice_get plan.sources (e.node - nodes)) (e.link == 0) refl

-- no wire may go on where nothing is pending
not_due : (side : Side) → is_due_at side Empty ≡ false
not_due Input = refl
not_due Output = refl

module _ (plan : Plan) (m : Machine) (are : AreNodesOf plan m.nodes.items) (e : End) where
  abbrev now : State
  now = machine_at plan m

  module _ (gone : slice_get m.nodes.items e.node ≡ None) (past : length m.nodes.items ≤ e.node) where
    past_plan : length plan.nodes ≤ e.node
    past_plan = subst (λ (k : ℕ). k ≤ e.node) are.many past

    no_half : (side : Side) → is_passable (LinkHalf e side) (now (LinkHalf e side)) ≡ false
    no_half side =
        ap (λ (o : Option Node). is_passable (LinkHalf e side) (at_node o (opening_state plan) (LinkHalf e side))) gone
        ∙ not_due side

    left_there : is_passable (Messages e) (now (Messages e))
        ≡ nat_lt (slice_index m.sent.items (e.node - length plan.nodes))
        (length (messages_at plan (e.node - length plan.nodes) e.link))
    left_there =
        left (slice_index m.sent.items (e.node - length plan.nodes)) (messages_of (source_at plan e))
        ∙ ap (λ (ms : List (List ℕ)). nat_lt (slice_index m.sent.items (e.node - length plan.nodes)) (length ms))
        (source_messages plan e past_plan)

    no_source : (role_at plan e.node ≡ Source → ⊥)
        → nat_lt (slice_index m.sent.items (e.node - length plan.nodes))
        (length (messages_at plan (e.node - length plan.nodes) e.link)) ≡ false
    no_source other =
        elim (test (nat_lt e.node (length plan.nodes + length plan.sources))) as
        (λ _. nat_lt (slice_index m.sent.items (e.node - length plan.nodes))
        (length (messages_at plan (e.node - length plan.nodes) e.link)) ≡ false) [
          | inl below ↦ absurd (other (role_of_source plan e.node past_plan
              (ltb-true e.node (length plan.nodes + length plan.sources) below)))
          | inr behind ↦
              let far : length plan.nodes + length plan.sources ≤ e.node =
              ltb-false e.node (length plan.nodes + length plan.sources) behind in
              ap (λ (o : Option SourcePlan).
              nat_lt (slice_index m.sent.items (e.node - length plan.nodes)) (length (messages_by e.link o)))
              (slice_get_past plan.sources (e.node - length plan.nodes) (omega (arith, far)))
              ∙ nobody_below (slice_index m.sent.items (e.node - length plan.nodes))
        ]

    sends_by : (r : Role) → role_at plan e.node ≡ r → is_passable (offer_place r e) (now (offer_place r e))
        ≡ nat_lt (slice_index m.sent.items (e.node - length plan.nodes))
        (length (messages_at plan (e.node - length plan.nodes) e.link))
    sends_by Processor is = absurd (role_past plan e.node past_plan is)
    sends_by Source is = left_there
    sends_by Sink is = no_half Output ∙ sym (no_source (λ other. let no : Sink ≡ Source = sym is ∙ other in cc))
    sends_by Nothing is = no_half Output ∙ sym (no_source (λ other. let no : Nothing ≡ Source = sym is ∙ other in cc))

    pub sends_there : has_message plan m e
        ≡ nat_lt (slice_index m.sent.items (e.node - length m.nodes.items))
        (length (messages_at plan (e.node - length m.nodes.items) e.link))
    sends_there =
        sends_by (role_at plan e.node) refl
        ∙ ap (λ (k : ℕ). nat_lt (slice_index m.sent.items (e.node - k)) (length (messages_at plan (e.node - k) e.link)))
        (sym are.many)
