-- Who stands at an end of a wire: a processor, a source or a sink.
use Rattle.std.proofs.Common.{◌≡◌, ℕ, zero, suc, ◌+◌, ◌-◌, ◌<◌, ◌≤◌, refl, sym, ap, subst, ◌∙◌, List, [], ◌∷◌, length}
use Rattle.std.proofs.Common.{true, false, cond, Bool, Option, Some, None, arith, ◌⊎◌, inl, inr}
use Rattle.std.specs.Prelude.{is_some, slice_get, if◌then◌else◌}
use Rattle.std.proofs.lemmas.Bool.{eq-eqb, cases_lt, lt-ltb, le-ltb, and_from}
use Rattle.tplan.specs.declared.plan.End.{End}
use Rattle.tplan.specs.declared.plan.NodePlan.{NodePlan}
use Rattle.tplan.specs.declared.plan.SourcePlan.{SourcePlan}
use Rattle.tplan.specs.declared.plan.SinkPlan.{SinkPlan}
use Rattle.tplan.specs.declared.plan.Plan.{Plan}
use Rattle.tplan.specs.Wires.{all_wires}
use Rattle.tnet.specs.Building.{fault_of, node_count}
use Rattle.tnet.specs.Sound.{AreWires}
use Rattle.tplan.specs.Wires.{far_end, same_end}
use Rattle.tnet.proofs.OpenedPlans.{faultless}
use Rattle.tnet.proofs.OpenedWires.{wired_ends}
use Rattle.tnet.proofs.ScriptWires.{all_are_wires}
use Rattle.tprocesses.specs.Places.{Place}
use Rattle.tprocesses.specs.Values.{Value}
use Rattle.tprocesses.specs.Machine.{Wire, Role, Processor, Source, Sink, role_at, sender_to, joined_to, if_joined}
use Rattle.tprocesses.specs.Machine.{is_open, is_passable}
use Rattle.tseen.proofs.WireEnds.{AreJoined, wire_joins}

-- what a list has at a number
pub found_at : {X : Type 0} (xs : List X) (i : ℕ) → i < length xs → (x : X) × (slice_get xs i ≡ Some x)
found_at [] i h = absurd (omega arith)
found_at (x ∷ xs) zero h = (x, refl)
found_at (x ∷ xs) (suc i) h = found_at xs i (omega arith)

-- the sender of a wire is the far end of its receiver
pub sender_is_far : (p : Plan) (e f : End) → sender_to p e ≡ Some f → far_end (all_wires p) e ≡ Some f
sender_is_far p e f h = by (far_end (all_wires p) e) h
  where
    joined : (g : End) (o : Option End) → if_joined e g o ≡ Some f → Some g ≡ Some f
    joined g None k = cc
    joined g (Some back) k = of (same_end back e) k
      where
        of : (b : Bool) → (if b then Some g else None) ≡ Some f → Some g ≡ Some f
        of true k = k
        of false k = cc

    by : (o : Option End) → joined_to p e o ≡ Some f → o ≡ Some f
    by None k = cc
    by (Some g) k = joined g (far_end (all_wires p) g) k

-- by the number of a node
pub node_role : (p : Plan) (n : ℕ) → n < length p.nodes → role_at p n ≡ Processor
node_role p n h = rw (lt-ltb n (length p.nodes) h) refl

pub source_role : (p : Plan) (n : ℕ) → length p.nodes ≤ n → n < length p.nodes + length p.sources
    → role_at p n ≡ Source
source_role p n h k = rw (le-ltb n (length p.nodes) h, lt-ltb n (length p.nodes + length p.sources) k) refl

pub sink_role : (p : Plan) (n : ℕ) → length p.nodes + length p.sources ≤ n
    → n < length p.nodes + length p.sources + length p.sinks → role_at p n ≡ Sink
sink_role p n h k =
    rw (
      le-ltb n (length p.nodes) (omega (arith, h)),
      le-ltb n (length p.nodes + length p.sources) h,
      lt-ltb n (length p.nodes + length p.sources + length p.sinks) k,
    ) refl

module _ (p : Plan) (none : fault_of p ≡ None) (e f : End) (wired : far_end (all_wires p) e ≡ Some f) where
  are : AreWires (node_count p) (all_wires p)
  are = all_are_wires p (faultless p none).wires

  -- the other end leads back
  pub back : far_end (all_wires p) f ≡ Some e
  back = are.back e f wired

  -- the ends are links of nodes of the net
  pub small_link : e.link < 4
  small_link = (wired_ends (node_count p) (all_wires p) e f are.ends wired).0.1

  -- the other end is the sender
  pub sender_found : sender_to p e ≡ Some f
  sender_found =
      ap (joined_to p e) wired ∙ ap (if_joined e f) back
      ∙ ap (λ t. cond t (Some f) None) (and_from _ _ (eq-eqb e.node e.node refl) (eq-eqb e.link e.link refl))

  -- so a half that may pass opens the wire
  pub opens : (q : Place) (v : Value) → is_passable q v ≡ true → is_open p (Wire e) q v ≡ true
  opens q v h = and_from _ _ (ap is_some sender_found) h

  -- what holds at an end, if it does at a link of a processor, at a source, and at a sink
  pub by_role : (X : Role → Type 0)
      → ((plan : NodePlan) → slice_get p.nodes e.node ≡ Some plan → X Processor)
      → ((j : ℕ) (source : SourcePlan) → slice_get p.sources j ≡ Some source → e.node ≡ length p.nodes + j
      → e.link ≡ 0 → X Source)
      → ((j : ℕ) (sink : SinkPlan) → slice_get p.sinks j ≡ Some sink
      → e.node ≡ length p.nodes + length p.sources + j → e.link ≡ 0 → f.node < length p.nodes → X Sink)
      → X (role_at p e.node)
  by_role X processor source sink =
      by (wire_joins p none e f wired) (cases_lt e.node (length p.nodes + length p.sources))
    where
      by : AreJoined p e f
          → (e.node < length p.nodes + length p.sources) ⊎ (length p.nodes + length p.sources ≤ e.node)
          → X (role_at p e.node)
      by (inl (a, b)) k =
          let plan = found_at p.nodes e.node a.0 in
          subst X (sym (node_role p e.node a.0)) (processor plan.0 plan.1)
      by (inr (a, b)) (inl k) =
          let there = found_at p.sources (e.node - length p.nodes) (omega (arith, a.0, k)) in
          subst X (sym (source_role p e.node a.0 k))
          (source (e.node - length p.nodes) there.0 there.1 (omega (arith, a.0)) a.2)
      by (inr (a, b)) (inr k) =
          let there = found_at p.sinks (e.node - (length p.nodes + length p.sources)) (omega (arith, k, a.1)) in
          subst X (sym (sink_role p e.node k (omega (arith, a.1))))
          (sink (e.node - (length p.nodes + length p.sources)) there.0 there.1 (omega (arith, k)) a.2 b.0)
