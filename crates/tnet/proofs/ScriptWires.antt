-- The wires of sources and sinks, each at link 0 of its own.
use Rattle.std.proofs.Common.{◌≡◌, ◌≢◌, ℕ, zero, suc, ◌+◌, ◌≤◌, refl, sym, ap, ◌∙◌, List, [], ◌∷◌, ◌++◌}
use Rattle.std.proofs.Common.{length}
use Rattle.std.proofs.Common.{map, Bool, true, false, Option, Some, None, All, arith, add-zero}
use Rattle.std.specs.Prelude.{slice_get}
use Rattle.std.specs.List.{list_any}
use Rattle.std.proofs.lemmas.Bool.{or_parts}
use Rattle.std.proofs.lemmas.List.Elements.{All-nil, All-cons, All-head, All-tail, All-append, All-weaker}
use Rattle.std.proofs.lemmas.Option.{same_Some}
use Rattle.tplan.specs.declared.plan.End.{End}
use Rattle.tplan.specs.declared.plan.Wire.{Wire}
use Rattle.tplan.specs.declared.plan.Plan.{Plan}
use Rattle.tplan.specs.Wires.{end_at, same_end, far_end}
use Rattle.tplan.specs.Wires.{script_wires, script_ends, all_wires}
use Rattle.tnet.specs.Building.{is_bad_end, node_count}
use Rattle.tnet.specs.Sound.{IsEnd, AreWires}
use Rattle.tplan.proofs.Ends.{same_end-true, same_end-self}
use Rattle.tnet.proofs.OpenedPlans.{HasGoodWires}
use Rattle.tnet.proofs.OpenedWires.{good_end, far_end-none, wired_ends, are_wires}
use Rattle.tnet.proofs.PlannedWires.{script_wire, length-script_ends}

-- the parts of what holds of each element
all_mapped : {X Y : Type 0} (P : Y → Type 0) (f : X → Y) (xs : List X) → All P (map f xs) → All (λ x. P (f x)) xs
all_mapped P f [] h = All-nil (λ x. P (f x))
all_mapped P f (x ∷ xs) h =
    All-cons (λ x. P (f x)) x xs (All-head P (f x) (map f xs) h)
    (all_mapped P f xs (All-tail P (f x) (map f xs) h))

all_left : {X : Type 0} (P : X → Type 0) (xs ys : List X) → All P (xs ++ ys) → All P xs
all_left P [] ys h = All-nil P
all_left P (x ∷ xs) ys h =
    All-cons P x xs (All-head P x (xs ++ ys) h) (all_left P xs ys (All-tail P x (xs ++ ys) h))

all_right : {X : Type 0} (P : X → Type 0) (xs ys : List X) → All P (xs ++ ys) → All P ys
all_right P [] ys h = h
all_right P (x ∷ xs) ys h = all_right P xs ys (All-tail P x (xs ++ ys) h)

-- ends of other nodes, or of other links, are not one
other_node : (e f : End) → e.node ≢ f.node → same_end e f ≡ false
other_node e f h = by (same_end e f) refl
  where
    by : (b : Bool) → same_end e f ≡ b → same_end e f ≡ false
    by false k = k
    by true k = absurd (h (ap (λ (x : End). x.node) (same_end-true e f k)))

other_link : (e f : End) → e.link ≢ f.link → same_end e f ≡ false
other_link e f h = by (same_end e f) refl
  where
    by : (b : Bool) → same_end e f ≡ b → same_end e f ≡ false
    by false k = k
    by true k = absurd (h (ap (λ (x : End). x.link) (same_end-true e f k)))

-- an end without a wire among the first ones
far_end-past : (ws vs : List Wire) (e : End) → far_end ws e ≡ None → far_end (ws ++ vs) e ≡ far_end vs e
far_end-past [] vs e h = refl
far_end-past (w ∷ ws) vs e h =
    let k : (same_end w.a e ≡ false) × (same_end w.b e ≡ false) × (far_end ws e ≡ None) = far_end-none w ws e h in
    rw (k.0, k.1) (far_end-past ws vs e k.2)

-- the wires of scripts from a number on, each of them past the nodes
script_ends_good : (nodes total k : ℕ) (es : List End) → All (IsEnd nodes) es → nodes ≤ total → k + length es ≤ total
    → All (λ w. IsEnd total w.a × IsEnd total w.b) (script_wires k es)
script_ends_good nodes total k [] good fit room = All-nil (λ w. IsEnd total w.a × IsEnd total w.b)
script_ends_good nodes total k (e ∷ es) good fit room =
    let here : IsEnd nodes e = All-head (IsEnd nodes) e es good in
    All-cons (λ w. IsEnd total w.a × IsEnd total w.b) (script_wire k e) (script_wires (suc k) es)
    ((omega (arith, room), omega arith), (omega (arith, here.0, fit), here.1))
    (script_ends_good nodes total (suc k) es (All-tail (IsEnd nodes) e es good) fit (omega (arith, room)))

script_wires_apart : (nodes k : ℕ) (es : List End) → All (IsEnd nodes) es → nodes ≤ k
    → All (λ w. same_end w.a w.b ≡ false) (script_wires k es)
script_wires_apart nodes k [] good past = All-nil (λ w. same_end w.a w.b ≡ false)
script_wires_apart nodes k (e ∷ es) good past =
    let here : IsEnd nodes e = All-head (IsEnd nodes) e es good in
    All-cons (λ w. same_end w.a w.b ≡ false) (script_wire k e) (script_wires (suc k) es)
    (other_node (end_at k 0) e (λ q. absurd (omega (arith, q, here.0, past))))
    (script_wires_apart nodes (suc k) es (All-tail (IsEnd nodes) e es good) (omega (arith, past)))

-- link 0 of each has its wire
script_far : (nodes k n : ℕ) (es : List End) (e : End) → All (IsEnd nodes) es → nodes ≤ k → slice_get es n ≡ Some e
    → far_end (script_wires k es) (end_at (k + n) 0) ≡ Some e
script_far nodes k n [] e good past h = cc
script_far nodes k zero (x ∷ es) e good past h =
    let q : x ≡ e = same_Some _ _ h in
    rw (add-zero, same_end-self (end_at k 0), q) refl
script_far nodes k (suc n) (x ∷ es) e good past h =
    let here : IsEnd nodes x = All-head (IsEnd nodes) x es good in
    let not_first : same_end (end_at k 0) (end_at (k + suc n) 0) ≡ false =
    other_node (end_at k 0) (end_at (k + suc n) 0) (λ q. absurd (omega (arith, q))) in
    let not_second : same_end x (end_at (k + suc n) 0) ≡ false =
    other_node x (end_at (k + suc n) 0) (λ q. absurd (omega (arith, q, here.0, past))) in
    let next : k + suc n ≡ suc k + n = omega arith in
    rw (not_first, not_second, next)
    (script_far nodes (suc k) n es e (All-tail (IsEnd nodes) x es good) (omega (arith, past)) h)

-- no other link of one has a wire
script_bare : (nodes k : ℕ) (es : List End) (e : End) → All (IsEnd nodes) es → nodes ≤ e.node → e.link ≢ 0
    → far_end (script_wires k es) e ≡ None
script_bare nodes k [] e good past other = refl
script_bare nodes k (x ∷ es) e good past other =
    let here : IsEnd nodes x = All-head (IsEnd nodes) x es good in
    let not_first : same_end (end_at k 0) e ≡ false = other_link (end_at k 0) e (λ q. other (sym q)) in
    let not_second : same_end x e ≡ false = other_node x e (λ q. absurd (omega (arith, q, here.0, past))) in
    rw (not_first, not_second) (script_bare nodes (suc k) es e (All-tail (IsEnd nodes) x es good) past other)

module _ (p : Plan) (good : HasGoodWires p) where
  -- ends of wires and scripts are links of nodes
  wires_good : All (λ w. IsEnd (length p.nodes) w.a × IsEnd (length p.nodes) w.b) p.wires
  wires_good =
      All-weaker (λ w. list_any (is_bad_end (length p.nodes)) (w.a ∷ w.b ∷ []) ≡ false)
      (λ w. IsEnd (length p.nodes) w.a × IsEnd (length p.nodes) w.b)
      (λ w h. (let a : (is_bad_end (length p.nodes) w.a ≡ false) × (_ ≡ false) = or_parts _ _ h in
      let b : (is_bad_end (length p.nodes) w.b ≡ false) × (_ ≡ false) = or_parts _ _ a.1 in
      (good_end (length p.nodes) w.a a.0, good_end (length p.nodes) w.b b.0))) p.wires
      (all_mapped (λ es. list_any (is_bad_end (length p.nodes)) es ≡ false) (λ (w : Wire). w.a ∷ w.b ∷ []) p.wires
      (all_left (λ es. list_any (is_bad_end (length p.nodes)) es ≡ false) (map (λ w. w.a ∷ w.b ∷ []) p.wires)
      (map (λ e. e ∷ []) (script_ends p)) good.ends))

  pub scripts_good : All (IsEnd (length p.nodes)) (script_ends p)
  scripts_good =
      All-weaker (λ e. list_any (is_bad_end (length p.nodes)) (e ∷ []) ≡ false) (IsEnd (length p.nodes))
      (λ e h. good_end (length p.nodes) e (or_parts _ _ h).0) (script_ends p)
      (all_mapped (λ es. list_any (is_bad_end (length p.nodes)) es ≡ false) (λ (e : End). e ∷ []) (script_ends p)
      (all_right (λ es. list_any (is_bad_end (length p.nodes)) es ≡ false) (map (λ w. w.a ∷ w.b ∷ []) p.wires)
      (map (λ e. e ∷ []) (script_ends p)) good.ends))

  more : (e : End) → IsEnd (length p.nodes) e → IsEnd (node_count p) e
  more e h = (omega (arith, h.0), h.1)

  -- all wires are wires of the nodes and the scripts
  pub all_are_wires : AreWires (node_count p) (all_wires p)
  all_are_wires =
      are_wires (node_count p) (all_wires p)
      (All-append (λ w. IsEnd (node_count p) w.a × IsEnd (node_count p) w.b) p.wires
      (script_wires (length p.nodes) (script_ends p))
      (All-weaker (λ w. IsEnd (length p.nodes) w.a × IsEnd (length p.nodes) w.b)
      (λ w. IsEnd (node_count p) w.a × IsEnd (node_count p) w.b) (λ w h. (more w.a h.0, more w.b h.1)) p.wires
      wires_good)
      (script_ends_good (length p.nodes) (node_count p) (length p.nodes) (script_ends p) scripts_good
      (omega arith) (omega (arith, length-script_ends p))))
      (All-append (λ w. same_end w.a w.b ≡ false) p.wires (script_wires (length p.nodes) (script_ends p)) good.apart
      (script_wires_apart (length p.nodes) (length p.nodes) (script_ends p) scripts_good (omega arith))) good.once

  -- none of the plan's own wires ends at a script
  not_own : (e : End) → length p.nodes ≤ e.node → far_end p.wires e ≡ None
  not_own e past = by (far_end p.wires e) refl
    where
      by : (o : Option End) → far_end p.wires e ≡ o → far_end p.wires e ≡ None
      by None h = h
      by (Some f) h =
          let both : IsEnd (length p.nodes) e × IsEnd (length p.nodes) f =
          wired_ends (length p.nodes) p.wires e f wires_good h in absurd (omega (arith, both.0.0, past))

  -- a script has a wire at link 0, and at no other
  pub script_wired : (n : ℕ) (e : End) → slice_get (script_ends p) n ≡ Some e
      → far_end (all_wires p) (end_at (length p.nodes + n) 0) ≡ Some e
  script_wired n e h =
      far_end-past p.wires (script_wires (length p.nodes) (script_ends p)) (end_at (length p.nodes + n) 0)
      (not_own (end_at (length p.nodes + n) 0) (omega arith))
      ∙ script_far (length p.nodes) (length p.nodes) n (script_ends p) e scripts_good (omega arith) h

  pub script_unwired : (n l : ℕ) → length p.nodes ≤ n → far_end (all_wires p) (end_at n (suc l)) ≡ None
  script_unwired n l past =
      far_end-past p.wires (script_wires (length p.nodes) (script_ends p)) (end_at n (suc l))
      (not_own (end_at n (suc l)) past)
      ∙ script_bare (length p.nodes) (length p.nodes) (script_ends p) (end_at n (suc l)) scripts_good past
      (λ q. absurd (omega (arith, q)))
