-- The agents that there are before the first step: each is there, none stands twice, and none is missing.
use Rattle.std.proofs.Common.{◌≡◌, ◌<◌, ◌≤◌, ◌+◌, ◌-◌, ℕ, zero, suc, refl, sym, ap, ◌∙◌, subst, Bool, true, false, List}
use Rattle.std.proofs.Common.{[], ◌∷◌, ◌++◌, All, Contains, arith, get_or, length, map, take, ◌⊎◌, inl, inr}
use Rattle.std.proofs.Common.{Option, Some}
use Rattle.std.proofs.Common.{None, cond}
use Rattle.std.specs.Prelude.{slice_get}
use Rattle.std.specs.List.{range_with_len}
use Rattle.std.proofs.lemmas.Bool.{cases_eq}
use Rattle.std.proofs.lemmas.List.{append-nil, append_assoc}
use Rattle.std.proofs.lemmas.List.Elements.{All-contains, All-push, Contains-append_left, Contains-append_right}
use Rattle.std.proofs.lemmas.List.Elements.{Contains-append_cases, Contains-push_cases}
use Rattle.std.proofs.lemmas.List.FromFn.{get_or-map-range_with_len, length-map-range_with_len, map-range_with_len_more}
use Rattle.std.proofs.lemmas.Option.{get_or_from_slice_get, same_Some, slice_get_within, slice_get-get_or}
use Rattle.tplan.specs.declared.plan.End.{End}
use Rattle.tplan.specs.declared.plan.Plan.{Plan}
use Rattle.tplan.specs.declared.plan.Wire.{Wire}
use Rattle.tplan.specs.Wires.{all_wires}
use Rattle.tplan.specs.Wires.{far_end, same_end}
use Rattle.tplan.proofs.Ends.{same_end-true}
use Rattle.tprocesses.specs.Machine.{joined_to}
use Rattle.tcertify.specs.declared.node.Node.{Node}
use Rattle.tcertify.specs.Finding.{AreApart}
use Rattle.tverdict.specs.declared.agent.Agent.{Agent}
use Rattle.tverdict.specs.declared.agent.Agent.TheVariants as agent
use Rattle.tverdict.specs.Agents.{HasChannel, HasProcess, IsThere}
use Rattle.tverdict.specs.Machines.{AreFound}
use Rattle.tverdict.specs.Opening.{AddsEnd, AreAgents, AreEnds, IsWire, agents_at, agents_from}

-- what is found at a place is contained
contains_at : {X : Type 0} (xs : List X) (k : ℕ) (x : X) → slice_get xs k ≡ Some x → Contains xs x
contains_at xs k x e = (k, slice_get_within xs k x e, get_or_from_slice_get xs k x x e)

-- what is found in two lists, one after the other
get_append : {X : Type 0} (xs ys : List X) (i : ℕ) (x : X) → slice_get (xs ++ ys) i ≡ Some x
    → (slice_get xs i ≡ Some x) ⊎ ((k : ℕ) × (i ≡ length xs + k) × (slice_get ys k ≡ Some x))
get_append [] ys i x e = inr (i, omega arith, e)
get_append (z ∷ xs) ys zero x e = inl e
get_append (z ∷ xs) ys (suc i) x e = elim (get_append xs ys i x e) [
  | inl h ↦ inl h
  | inr (k, is, h) ↦ inr (k, omega (arith, is), h)
]

-- two lists without repeats and without a common element
apart_append : (xs ys : List Agent) → AreApart (λ (a : Agent). a) xs → AreApart (λ (a : Agent). a) ys
    → ((a : Agent) → Contains xs a → Contains ys a → ⊥) → AreApart (λ (a : Agent). a) (xs ++ ys)
apart_append xs ys left right disjoint i j x y at there same =
    by (get_append xs ys i x at) (get_append xs ys j y there)
  where
    by : (slice_get xs i ≡ Some x) ⊎ ((k : ℕ) × (i ≡ length xs + k) × (slice_get ys k ≡ Some x))
        → (slice_get xs j ≡ Some y) ⊎ ((k : ℕ) × (j ≡ length xs + k) × (slice_get ys k ≡ Some y)) → i ≡ j
    by (inl e) (inl f) = left i j x y e f same
    by (inl e) (inr (k, is, f)) =
        absurd (disjoint x (contains_at xs i x e) (subst (Contains ys) (sym same) (contains_at ys k y f)))
    by (inr (k, is, e)) (inl f) =
        absurd (disjoint y (contains_at xs j y f) (subst (Contains ys) same (contains_at ys k x e)))
    by (inr (k, is, e)) (inr (l, alike, f)) =
        let both : k ≡ l = right k l x y e f same in omega (arith, is, alike, both)

-- things of one kind, by their numbers from 0 on
module _ (f : ℕ → Agent) (n : ℕ) where
  range_has : (i : ℕ) → i < n → Contains (map f (range_with_len 0 n)) (f i)
  range_has i low = (
    i,
    omega (arith, low, length-map-range_with_len f 0 n),
    get_or-map-range_with_len f 0 n i i (f i) low (omega arith),
  )

  range_at : (i : ℕ) (a : Agent) → slice_get (map f (range_with_len 0 n)) i ≡ Some a → (i < n) × (a ≡ f i)
  range_at i a e =
      let low : i < n = omega (
        arith,
        slice_get_within (map f (range_with_len 0 n)) i a e,
        length-map-range_with_len f 0 n,
      ) in (
        low,
        sym (get_or_from_slice_get (map f (range_with_len 0 n)) i a a e)
            ∙ get_or-map-range_with_len f 0 n i i a low (omega arith),
      )

  range_only : (a : Agent) → Contains (map f (range_with_len 0 n)) a → (i : ℕ) × (i < n) × (a ≡ f i)
  range_only a (i, low, e) =
      let below : i < n = omega (arith, low, length-map-range_with_len f 0 n) in
      (i, below, sym e ∙ get_or-map-range_with_len f 0 n i i a below (omega arith))

  range_apart : ((i j : ℕ) → f i ≡ f j → i ≡ j) → AreApart (λ (a : Agent). a) (map f (range_with_len 0 n))
  range_apart one i j x y at there same =
      one i j (sym ((range_at i x at).1) ∙ same ∙ (range_at j y there).1)

-- one more of them
pub one_found : (f : ℕ → Agent) (old found : List Agent) (k : ℕ) → found ≡ old ++ map f (range_with_len 0 k)
    → found ++ f k ∷ [] ≡ old ++ map f (range_with_len 0 (k + 1))
one_found f old found k e =
    ap (λ (xs : List Agent). xs ++ f k ∷ []) e ∙ append_assoc old (map f (range_with_len 0 k)) (f k ∷ [])
    ∙ ap (λ (xs : List Agent). old ++ xs) (sym (map-range_with_len_more f 0 k k (omega arith)))

-- those of one more node
from_more : (n k : ℕ) (ns : List Node) (node : Node) → slice_get ns k ≡ Some node
    → agents_from n (take (suc k) ns) ≡ agents_from n (take k ns) ++ agents_at (n + k) node
from_more n k [] node e = cc
from_more n zero (x ∷ ns) node e =
    let is : n ≡ n + 0 = omega arith in
    append-nil (agents_at n x) ∙ ap (agents_at n) (same_Some x node e) ∙ ap (λ (m : ℕ). agents_at m node) is
from_more n (suc k) (x ∷ ns) node e =
    let is : suc n + k ≡ n + suc k = omega arith in
    ap (λ (xs : List Agent). agents_at n x ++ xs)
    (from_more (suc n) k ns node e ∙ ap (λ (m : ℕ). agents_from (suc n) (take k ns) ++ agents_at m node) is)
    ∙ sym (append_assoc (agents_at n x) (agents_from (suc n) (take k ns)) (agents_at (n + suc k) node))

pub node_found : (old before ps cs : List Agent) (ns : List Node) (k : ℕ) (node : Node) → slice_get ns k ≡ Some node
    → before ≡ old ++ agents_from 0 (take k ns)
    → ps ≡ before ++ map (agent.Process k) (range_with_len 0 (length node.processes.items.items))
    → cs ≡ ps ++ map (agent.Channel k) (range_with_len 0 (length node.channels.items.items))
    → cs ≡ old ++ agents_from 0 (take (k + 1) ns)
node_found old before ps cs ns k node there first second third =
    let p = map (agent.Process k) (range_with_len 0 (length node.processes.items.items)) in
    let c = map (agent.Channel k) (range_with_len 0 (length node.channels.items.items)) in
    let is : suc k ≡ k + 1 = omega arith in let at : 0 + k ≡ k = omega arith in
    third ∙ ap (λ (xs : List Agent). xs ++ c) (second ∙ ap (λ (xs : List Agent). xs ++ p) first)
    ∙ append_assoc (old ++ agents_from 0 (take k ns)) p c
    ∙ append_assoc old (agents_from 0 (take k ns)) (p ++ c)
    ∙ ap (λ (xs : List Agent). old ++ xs) (sym (from_more 0 k ns node there
    ∙ ap (λ (m : ℕ). agents_from 0 (take k ns) ++ agents_at m node) at))
    ∙ ap (λ (m : ℕ). old ++ agents_from 0 (take m ns)) is

-- the two ends of one more wire
adds_wire : (wires : List Wire) (old : List Agent) (e : End) (new : List Agent) → AddsEnd old e new
    → All IsWire old → AreApart (λ (a : Agent). a) old
    → All IsWire new × AreApart (λ (a : Agent). a) new × ((a : Agent) → Contains old a → Contains new a)
adds_wire wires old e new h only apart = by h.same
  where
    by : (new ≡ old) ⊎ ((Contains old (agent.Wire e) → ⊥) × (new ≡ old ++ agent.Wire e ∷ []))
        → All IsWire new × AreApart (λ (a : Agent). a) new × ((a : Agent) → Contains old a → Contains new a)
    by (inl is) = (
      subst (All IsWire) (sym is) only,
      subst (AreApart (λ (a : Agent). a)) (sym is) apart,
      λ a c. subst (λ (xs : List Agent). Contains xs a) (sym is) c,
    )
    by (inr (none, is)) = (
      subst (All IsWire) (sym is) (All-push IsWire old (agent.Wire e) only (e, refl)),
      subst (AreApart (λ (a : Agent). a)) (sym is)
          (apart_append old (agent.Wire e ∷ []) apart alone (λ a c d. none (subst (Contains old) (the_one a d) c))),
      λ a c. subst (λ (xs : List Agent). Contains xs a) (sym is) (Contains-append_left old (agent.Wire e ∷ []) a c),
    )
      where
        alone : AreApart (λ (a : Agent). a) (agent.Wire e ∷ [])
        alone zero zero x y at there same = refl
        alone zero (suc j) x y at there same = cc
        alone (suc i) j x y at there same = cc

        the_one : (a : Agent) → Contains (agent.Wire e ∷ []) a → a ≡ agent.Wire e
        the_one a (zero, low, is) = sym is
        the_one a (suc k, low, is) = absurd (omega (arith, low))

pub wire_found : (ws : List Wire) (w : Wire) (old middle new : List Agent) → AreEnds ws old → AddsEnd old w.a middle
    → AddsEnd middle w.b new → AreEnds (ws ++ w ∷ []) new
wire_found ws w old middle new h first second =
    let (only, apart, stay) = adds_wire ws old w.a middle first h.only h.apart in
    let (all, alone, still) = adds_wire ws middle w.b new second only apart in
    record { only = all; apart = alone; ends = λ v c. by stay still v (Contains-push_cases ws w v c) }
  where
    by : ((a : Agent) → Contains old a → Contains middle a) → ((a : Agent) → Contains middle a → Contains new a)
        → (v : Wire) → Contains ws v ⊎ (w ≡ v) → Contains new (agent.Wire v.a) × Contains new (agent.Wire v.b)
    by f g v (inl c) = let (a, b) = h.ends v c in (g _ (f _ a), g _ (f _ b))
    by f g v (inr is) =
        subst (λ (x : Wire). Contains new (agent.Wire x.a) × Contains new (agent.Wire x.b)) is
        (g _ first.there, second.there)

-- the node of an agent that is no wire
abbrev node_of : Agent → ℕ
node_of (agent.Process n k) = n
node_of (agent.Channel n k) = n
node_of (agent.Wire e) = 0
node_of (agent.Successor n k) = n

-- the agents of one node
module _ (nodes : List Node) (n : ℕ) (node : Node) (there : slice_get nodes n ≡ Some node) where
  -- what is known of one of them
  record IsOf (a : Agent) : Type 0 where
    is_there : IsThere nodes a
    at : node_of a ≡ n
    no_wire : IsWire a → ⊥

  of_process : (a : Agent) (k : ℕ) → k < length node.processes.items.items → a ≡ agent.Process n k → IsOf a
  of_process a k low e =
      subst IsOf (sym e) (record { is_there = (node, there, low); at = refl; no_wire = λ w. let f = w.1 in cc })

  of_channel : (a : Agent) (k : ℕ) → k < length node.channels.items.items → a ≡ agent.Channel n k → IsOf a
  of_channel a k low e =
      subst IsOf (sym e) (record { is_there = (node, there, low); at = refl; no_wire = λ w. let f = w.1 in cc })

  all_of : (a : Agent) → Contains (agents_at n node) a → IsOf a
  all_of a c = by (Contains-append_cases _ _ a c)
    where
      by : Contains (map (agent.Process n) (range_with_len 0 (length node.processes.items.items))) a
          ⊎ Contains (map (agent.Channel n) (range_with_len 0 (length node.channels.items.items))) a → IsOf a
      by (inl h) =
          let (k, low, e) = range_only (agent.Process n) (length node.processes.items.items) a h in of_process a k low e
      by (inr h) =
          let (k, low, e) = range_only (agent.Channel n) (length node.channels.items.items) a h in of_channel a k low e

  apart_of : AreApart (λ (a : Agent). a) (agents_at n node)
  apart_of =
      apart_append _ _
      (range_apart (agent.Process n) (length node.processes.items.items) (λ i j e. cc))
      (range_apart (agent.Channel n) (length node.channels.items.items) (λ i j e. cc))
      (λ a p c.
      let (k, low, e) = range_only (agent.Process n) (length node.processes.items.items) a p in
      let (l, high, f) = range_only (agent.Channel n) (length node.channels.items.items) a c in
      let g : agent.Process n k ≡ agent.Channel n l = sym e ∙ f in cc)

-- those of nodes from a number on
record AreOf (nodes : List Node) (n : ℕ) (found : List Agent) : Type 0 where
  all : (a : Agent) → Contains found a → IsThere nodes a × (n ≤ node_of a) × (IsWire a → ⊥)
  apart : AreApart (λ (a : Agent). a) found
  processes : (m k : ℕ) → n ≤ m → HasProcess nodes m k → Contains found (agent.Process m k)
  channels : (m k : ℕ) → n ≤ m → HasChannel nodes m k → Contains found (agent.Channel m k)

none_left : (nodes : List Node) (n m : ℕ) (node : Node)
    → ((k : ℕ) → slice_get nodes (n + k) ≡ slice_get {X = Node} [] k) → n ≤ m → slice_get nodes m ≡ Some node → ⊥
none_left nodes n m node rest low at =
    let is : n + (m - n) ≡ m = omega (arith, low) in
    let none : ◌≡◌ {A = Option Node} None (Some node) =
    sym (rest (m - n)) ∙ ap (λ (k : ℕ). slice_get nodes k) is ∙ at in cc

of_nodes : (nodes : List Node) (n : ℕ) (ns : List Node)
    → ((k : ℕ) → slice_get nodes (n + k) ≡ slice_get ns k) → AreOf nodes n (agents_from n ns)
of_nodes nodes n [] rest =
    record {
      all = λ a (k, low, e). absurd (omega (arith, low));
      apart = λ i j x y at there same. cc;
      processes = λ m k low (node, at, high). absurd (none_left nodes n m node rest low at);
      channels = λ m k low (node, at, high). absurd (none_left nodes n m node rest low at);
    }
of_nodes nodes n (node ∷ ns) rest = by (of_nodes nodes (suc n) ns more)
  where
    more : (k : ℕ) → slice_get nodes (suc n + k) ≡ slice_get ns k
    more k = let is : suc n + k ≡ n + suc k = omega arith in ap (λ (j : ℕ). slice_get nodes j) is ∙ rest (suc k)

    there : slice_get nodes n ≡ Some node
    there = let is : n ≡ n + 0 = omega arith in ap (λ (j : ℕ). slice_get nodes j) is ∙ rest 0

    own : List Agent
    own = agents_at n node

    by : AreOf nodes (suc n) (agents_from (suc n) ns) → AreOf nodes n (own ++ agents_from (suc n) ns)
    by h =
        record {
          all = λ a c. among a (Contains-append_cases (agents_at n node) (agents_from (suc n) ns) a c);
          apart = apart_append (agents_at n node) (agents_from (suc n) ns) (apart_of nodes n node there) h.apart
              (λ a p q.
              let o = all_of nodes n node there a p in let l = (h.all a q).1 in
              absurd (omega (arith, o.at, l)));
          processes = λ m k low x. process m k x (cases m low);
          channels = λ m k low x. channel m k x (cases m low);
        }
      where
        among : (a : Agent) → Contains (agents_at n node) a ⊎ Contains (agents_from (suc n) ns) a
            → IsThere nodes a × (n ≤ node_of a) × (IsWire a → ⊥)
        among a (inl c) =
            let o = all_of nodes n node there a c in (o.is_there, omega (arith, o.at), o.no_wire)
        among a (inr c) = let (is, low, other) = h.all a c in (is, omega (arith, low), other)

        cases : (m : ℕ) → n ≤ m → (n ≡ m) ⊎ (suc n ≤ m)
        cases m low = elim (cases_eq n m) [ inl e ↦ inl e | inr ne ↦ inr (omega arith) ]

        process : (m k : ℕ) → HasProcess nodes m k → (n ≡ m) ⊎ (suc n ≤ m)
            → Contains (agents_at n node ++ agents_from (suc n) ns) (agent.Process m k)
        process m k (x, at, high) (inl e) =
            let same : x ≡ node = same_Some x node (sym at ∙ ap (λ (j : ℕ). slice_get nodes j) (sym e) ∙ there) in
            subst (λ (j : ℕ). Contains (agents_at n node ++ agents_from (suc n) ns) (agent.Process j k)) e
            (Contains-append_left own (agents_from (suc n) ns) (agent.Process n k) (Contains-append_left
            (map (agent.Process n) (range_with_len 0 (length node.processes.items.items)))
            (map (agent.Channel n) (range_with_len 0 (length node.channels.items.items))) (agent.Process n k)
            (range_has (agent.Process n) (length node.processes.items.items) k
            (subst (λ (y : Node). k < length y.processes.items.items) same high))))
        process m k x (inr low) =
            Contains-append_right own (agents_from (suc n) ns) (agent.Process m k) (h.processes m k low x)

        channel : (m k : ℕ) → HasChannel nodes m k → (n ≡ m) ⊎ (suc n ≤ m)
            → Contains (agents_at n node ++ agents_from (suc n) ns) (agent.Channel m k)
        channel m k (x, at, high) (inl e) =
            let same : x ≡ node = same_Some x node (sym at ∙ ap (λ (j : ℕ). slice_get nodes j) (sym e) ∙ there) in
            subst (λ (j : ℕ). Contains (agents_at n node ++ agents_from (suc n) ns) (agent.Channel j k)) e
            (Contains-append_left own (agents_from (suc n) ns) (agent.Channel n k) (Contains-append_right
            (map (agent.Process n) (range_with_len 0 (length node.processes.items.items)))
            (map (agent.Channel n) (range_with_len 0 (length node.channels.items.items))) (agent.Channel n k)
            (range_has (agent.Channel n) (length node.channels.items.items) k
            (subst (λ (y : Node). k < length y.channels.items.items) same high))))
        channel m k x (inr low) =
            Contains-append_right own (agents_from (suc n) ns) (agent.Channel m k) (h.channels m k low x)

-- an end that has a far end is one of a wire
far_known : (ws : List Wire) (e f : End) → far_end ws e ≡ Some f
    → (w : Wire) × Contains ws w × ((w.a ≡ e) ⊎ (w.b ≡ e))
far_known [] e f h = cc
far_known (w ∷ ws) e f h = by (same_end w.a e) (same_end w.b e) refl refl (far_known ws e f)
  where
    by : (s t : Bool) → same_end w.a e ≡ s → same_end w.b e ≡ t
        → (far_end ws e ≡ Some f → (v : Wire) × Contains ws v × ((v.a ≡ e) ⊎ (v.b ≡ e)))
        → (v : Wire) × Contains (w ∷ ws) v × ((v.a ≡ e) ⊎ (v.b ≡ e))
    by true t is other rest = (w, (0, omega arith, refl), inl (same_end-true w.a e is))
    by false true is other rest = (w, (0, omega arith, refl), inr (same_end-true w.b e other))
    by false false is other rest =
        let (v, (k, low, at), one) =
        rest (sym (ap (λ (b : Bool). cond b (Some w.b) (cond (same_end w.b e) (Some w.a) (far_end ws e))) is
        ∙ ap (λ (b : Bool). cond b (Some w.a) (far_end ws e)) other) ∙ h) in
        (v, (suc k, omega (arith, low), at), one)

sent_known : (plan : Plan) (e f : End) (o : Option End) → far_end (all_wires plan) e ≡ o → joined_to plan e o ≡ Some f
    → (w : Wire) × Contains (all_wires plan) w × ((w.a ≡ e) ⊎ (w.b ≡ e))
sent_known plan e f None is h = cc
sent_known plan e f (Some g) is h = far_known (all_wires plan) e g is

-- all agents
module _ (plan : Plan) (nodes : List Node) (found : List Agent) (h : AreAgents (all_wires plan) nodes found) where
  of_all : AreOf nodes 0 (agents_from 0 nodes)
  of_all = of_nodes nodes 0 nodes (λ k. let is : 0 + k ≡ k = omega arith in ap (λ (j : ℕ). slice_get nodes j) is)

  in_ends : (a : Agent) → Contains h.ends a → Contains found a
  in_ends a c = subst (λ (xs : List Agent). Contains xs a) (sym h.all) (Contains-append_left _ _ a c)

  in_nodes : (a : Agent) → Contains (agents_from 0 nodes) a → Contains found a
  in_nodes a c = subst (λ (xs : List Agent). Contains xs a) (sym h.all) (Contains-append_right _ _ a c)

  wire_there : (a : Agent) → IsWire a → IsThere nodes a
  wire_there a (e, is) = subst (IsThere nodes) (sym is) tt

  agent_there : (a : Agent) → Contains found a → IsThere nodes a
  agent_there a c = by (Contains-append_cases _ _ a (subst (λ (xs : List Agent). Contains xs a) h.all c))
    where
      by : Contains h.ends a ⊎ Contains (agents_from 0 nodes) a → IsThere nodes a
      by (inl e) = wire_there a (All-contains IsWire h.ends a h.known.only e)
      by (inr e) = (of_all.all a e).0

  pub found_there : All (IsThere nodes) found
  found_there = λ k d low. agent_there _ (k, low, same_there k d low)
    where
      same_there : (k : ℕ) (d : Agent) → (low : k < length found) → get_or found k (get_or found k d) ≡ get_or found k d
      same_there k d low =
          get_or_from_slice_get found k (get_or found k d) (get_or found k d) (slice_get-get_or found k d low)

  pub found_apart : AreApart (λ (a : Agent). a) found
  found_apart =
      subst (AreApart (λ (a : Agent). a)) (sym h.all)
      (apart_append h.ends (agents_from 0 nodes) h.known.apart of_all.apart
      (λ a p q. (of_all.all a q).2 (All-contains IsWire h.ends a h.known.only p)))

  by_end : (e : End) (w : Wire) → Contains (all_wires plan) w → (w.a ≡ e) ⊎ (w.b ≡ e) → Contains found (agent.Wire e)
  by_end e w c (inl is) = in_ends _ (subst (λ (f : End). Contains h.ends (agent.Wire f)) is ((h.known.ends w c).0))
  by_end e w c (inr is) = in_ends _ (subst (λ (f : End). Contains h.ends (agent.Wire f)) is ((h.known.ends w c).1))

  pub all_found : AreFound plan nodes found
  all_found =
      record {
        processes = λ n k x. inl (in_nodes _ (of_all.processes n k (omega arith) x));
        channels = λ n k x. in_nodes _ (of_all.channels n k (omega arith) x);
        wires = λ e f is.
            let (w, c, one) = sent_known plan e f (far_end (all_wires plan) e) refl is in by_end e w c one;
      }
