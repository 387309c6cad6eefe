-- A wire of a plan without a fault joins two links of nodes, or one of a node and a source or a sink.
use Rattle.std.proofs.Common.{◌≡◌, ℕ, suc, ◌+◌, ◌-◌, ◌<◌, ◌≤◌, refl, sym, ap, subst, ◌∙◌, List, [], ◌∷◌, length}
use Rattle.std.proofs.Common.{Bool, true, false, Option, Some, None, cond, get_or, ◌⊎◌, inl, inr, arith}
use Rattle.std.specs.Prelude.{slice_get}
use Rattle.std.specs.List.{list_any}
use Rattle.std.proofs.lemmas.Bool.{cases_lt, or_parts, leb-false}
use Rattle.std.proofs.lemmas.Option.{slice_get_within}
use Rattle.tplan.specs.declared.plan.End.{End}
use Rattle.tplan.specs.declared.plan.Wire.{Wire}
use Rattle.tplan.specs.declared.plan.Plan.{Plan}
use Rattle.tplan.specs.Wires.{all_wires, script_wires, script_ends}
use Rattle.tnet.specs.Building.{named_ends, fault_of, is_bad_end}
use Rattle.tplan.specs.Wires.{far_end, same_end}
use Rattle.tplan.proofs.Ends.{same_end-true}
use Rattle.tnet.proofs.OpenedPlans.{HasGoodWires, faultless}
use Rattle.tnet.proofs.PlannedWires.{slice_past, of_script_wires, bad_end_of_wire, bad_end_of_script}
use Rattle.tnet.proofs.PlannedWires.{length-named_ends}
use Rattle.tnet.proofs.PlannedWires.{length-all_wires}

-- a link of a node, and that of a source or a sink
abbrev pub IsNodeEnd : Plan → End → Type 0
IsNodeEnd p e = (e.node < length p.nodes) × (e.link < 4)

abbrev pub IsScriptEnd : Plan → End → Type 0
IsScriptEnd p e =
    (length p.nodes ≤ e.node) × (e.node < length p.nodes + (length p.sources + length p.sinks)) × (e.link ≡ 0)

-- the two ends of a wire
abbrev pub AreJoined : Plan → End → End → Type 0
AreJoined p e f =
    (IsNodeEnd p e × (IsNodeEnd p f ⊎ IsScriptEnd p f)) ⊎ (IsScriptEnd p e × IsNodeEnd p f)

-- each wire of some has its second end at a node
abbrev AreGood : Plan → List Wire → Type 0
AreGood p ws =
    (place : ℕ) (w : Wire) → slice_get ws place ≡ Some w
    → IsNodeEnd p w.b × (IsNodeEnd p w.a ⊎ IsScriptEnd p w.a)

one_end : {e f : End} → Some e ≡ Some f → e ≡ f
one_end e = cc

ends_joined : (p : Plan) (ws : List Wire) (e f : End) → AreGood p ws → far_end ws e ≡ Some f → AreJoined p e f
ends_joined p [] e f all h = absurd (differ h)
  where
    differ : ◌≡◌ {A = Option End} None (Some f) → ⊥
    differ e = cc
ends_joined p (w ∷ ws) e f all h =
    by (same_end w.a e) (same_end w.b e) refl refl (ends_joined p ws e f (λ place v i. all (suc place) v i)) h
  where
    good : IsNodeEnd p w.b × (IsNodeEnd p w.a ⊎ IsScriptEnd p w.a)
    good = all 0 w refl

    turned : IsNodeEnd p w.a ⊎ IsScriptEnd p w.a → AreJoined p w.a w.b
    turned (inl a) = inl (a, inl good.0)
    turned (inr a) = inr (a, good.0)

    by : (s t : Bool) → same_end w.a e ≡ s → same_end w.b e ≡ t → (far_end ws e ≡ Some f → AreJoined p e f)
        → cond s (Some w.b) (cond t (Some w.a) (far_end ws e)) ≡ Some f → AreJoined p e f
    by true t g k rest h =
        subst (λ z. AreJoined p z f) (same_end-true w.a e g)
        (subst (λ z. AreJoined p w.a z) (one_end h) (turned good.1))
    by false true g k rest h =
        subst (λ z. AreJoined p z f) (same_end-true w.b e k)
        (subst (λ z. AreJoined p w.b z) (one_end h) (inl good))
    by false false g k rest h = rest h

module _ (p : Plan) (none : fault_of p ≡ None) where
  wires : HasGoodWires p
  wires = (faultless p none).wires

  of_node : (e : End) → is_bad_end (length p.nodes) e ≡ false → IsNodeEnd p e
  of_node e h =
      let parts = or_parts _ _ h in
      (leb-false _ _ parts.0, leb-false _ _ parts.1)

  no_bad : (place : ℕ) (w : Wire) → slice_get (all_wires p) place ≡ Some w
      → list_any (is_bad_end (length p.nodes)) (get_or (named_ends p) place []) ≡ false
  no_bad place w h =
      wires.ends place []
      (subst (λ z. place < z) (sym (length-named_ends p)) (slice_get_within (all_wires p) place w h))

  all_good : AreGood p (all_wires p)
  all_good place w h = by (cases_lt place (length p.wires))
    where
      by : (place < length p.wires) ⊎ (length p.wires ≤ place)
          → IsNodeEnd p w.b × (IsNodeEnd p w.a ⊎ IsScriptEnd p w.a)
      by (inl b) =
          let bad : (is_bad_end (length p.nodes) w.a ≡ false) × (is_bad_end (length p.nodes) w.b ≡ false) =
          or_parts _ _ (bad_end_of_wire p place w b h ∙ no_bad place w h) in
          (of_node w.b bad.1, inl (of_node w.a bad.0))
      by (inr past) = (
        of_node w.b (bad_end_of_script p place w past h ∙ no_bad place w h),
        inr (script (of_script_wires (length p.nodes) (place - length p.wires) (script_ends p) w
            (sym (slice_past p.wires (script_wires (length p.nodes) (script_ends p)) place past) ∙ h)).0),
      )
        where
          within : place < length p.wires + (length p.sources + length p.sinks)
          within = subst (λ z. place < z) (length-all_wires p) (slice_get_within (all_wires p) place w h)

          script : w.a ≡ record { node = length p.nodes + (place - length p.wires); link = 0 } → IsScriptEnd p w.a
          script e =
              let node : w.a.node ≡ length p.nodes + (place - length p.wires) = ap (λ (z : End). z.node) e in
              (omega (arith, node), omega (arith, node, past, within), ap (λ (z : End). z.link) e)

  -- the same holds for an end that has a wire, and its far end
  pub wire_joins : (e f : End) → far_end (all_wires p) e ≡ Some f → AreJoined p e f
  wire_joins e f h = ends_joined p (all_wires p) e f all_good h

  -- an end that has a wire is one of a node, or link 0
  pub wire_proper : (e f : End) → far_end (all_wires p) e ≡ Some f → (e.node < length p.nodes) ⊎ (e.link ≡ 0)
  wire_proper e f h = by (wire_joins e f h)
    where
      by : AreJoined p e f → (e.node < length p.nodes) ⊎ (e.link ≡ 0)
      by (inl (a, b)) = inl a.0
      by (inr (a, b)) = inr a.2
