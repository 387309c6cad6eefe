-- The nodes that the waits of a node lead to, wait by wait.
use Rattle.std.proofs.Common.{◌≡◌, ℕ, ◌+◌, ◌<◌, ◌≤◌, ◌⊎◌, inl, inr, refl, sym, ap, ap₂, ◌∙◌, subst, arith, List, []}
use Rattle.std.proofs.Common.{◌∷◌, ◌++◌, length, get_or, drop, take, append_assoc, append-nil, add-one, drop-cons}
use Rattle.std.proofs.Common.{Bool, true, false, Option, Some, None}
use Rattle.std.specs.Prelude.{◌==◌, ◌||◌, fold, nat_le, replicate, slice_get}
use Rattle.std.specs.List.{flat_map, list_any, position_or_len}
use Rattle.std.proofs.Math.ListN.{set}
use Rattle.std.proofs.lemmas.Bool.{cases_eq, cases_lt}
use Rattle.std.proofs.lemmas.List.{get_or-replicate, get_or-set_other, get_or-set_same, get_or-take, get_or_past}
use Rattle.std.proofs.lemmas.List.{length-replicate, length-take-le, take-append-drop}
use Rattle.std.proofs.lemmas.List.Folds.{list_any-append}
use Rattle.std.proofs.lemmas.Option.{slice_get-get_or, slice_get_past}
use mathlib.Core.Bool.{or_assoc, or-false}
use mathlib.Core.Path.{fun_ext}
use Rattle.tproc.specs.declared.waiter.Waiter.{Waiter}
use Rattle.tlink.specs.Roles.{Role, Processor, Source, Sink}
use Rattle.tlink.specs.Node.{NodeState}
use Rattle.tplan.specs.declared.plan.End.{End}
use Rattle.tplan.specs.declared.plan.Wire.{Wire}
use Rattle.tnet.specs.Net.{NetState}
use Rattle.tplan.specs.Wires.{far_ends}
use Rattle.twhere.specs.declared.node_set.NodeSet.{NodeSet}
use Rattle.twhere.specs.declared.waits.Wait.{Wait}
use Rattle.twhere.specs.declared.waits.Want.{Want}
use Rattle.twhere.specs.NodeSets.{Adds, has_node, no_nodes, set_waits}
use Rattle.twhere.specs.Standing.{by_descriptor, circle_facts, circles_text, inserted}
use Rattle.twhere.specs.Waits.{is_at, leads_to, node_waits_for, role_waits, wait_at, waiter_waits, waits_for}
use Rattle.twhere.proofs.NodeBits.{none_set}

-- a part was added, and this is left of the whole
pub record AddsOn (net : NetState) (k : ℕ) (old now : NodeSet) (left whole : List Wait) : Type 0 where
  pub before : List Wait
  pub adds : Adds net k old now before
  pub is_whole : before ++ left ≡ whole

module _ {net : NetState} {k : ℕ} where
  -- nothing is added
  pub adds_none : (s : NodeSet) → Adds net k s s []
  adds_none s = record { each = λ n. sym (or-false (has_node s n)) }

  -- some, and then others
  pub adds_then : {a b c : NodeSet} {u v : List Wait} → Adds net k a b u → Adds net k b c v → Adds net k a c (u ++ v)
  adds_then {a} {b} {c} {u} {v} f g =
      record {
        each = λ n.
            g.each n
            ∙ ap (λ (x : Bool). x || leads_to net.wires k n v) (f.each n)
            ∙ or_assoc (has_node a n) (leads_to net.wires k n u) (leads_to net.wires k n v)
            ∙ ap (λ (x : Bool). has_node a n || x)
            (sym (list_any-append (λ (w : Wait). is_at n (far_ends net.wires k w.link)) u v));
      }

  -- the same
  pub adds_as : {a b : NodeSet} {u v : List Wait} → Adds net k a b u → u ≡ v → Adds net k a b v
  adds_as {a} {b} f e = subst (λ (w : List Wait). Adds net k a b w) e f

  -- the node at a far end, if there is one
  pub adds_far : (old new : NodeSet) (far : Option End) (e : End) (want : Want) (l : ℕ) → far ≡ far_ends net.wires k l
      → far ≡ Some e → ((n : ℕ) → has_node new n ≡ (has_node old n || (e.node == n)))
      → Adds net k old new (wait_at want l ∷ [])
  adds_far old new far e want l at is more =
      record {
        each = λ n.
            more n
            ∙ ap (λ (x : Bool). has_node old n || x)
            (sym (ap (λ (f : Option End). is_at n f || false) (sym at ∙ is) ∙ or-false (e.node == n)));
      }

  pub adds_no_far : (s : NodeSet) (far : Option End) (want : Want) (l : ℕ) → far ≡ far_ends net.wires k l
      → far ≡ None → Adds net k s s (wait_at want l ∷ [])
  adds_no_far s far want l at is =
      record {
        each = λ n.
            sym
            (ap (λ (f : Option End). has_node s n || (is_at n f || false)) (sym at ∙ is) ∙ or-false (has_node s n));
      }

  -- a loop that adds
  pub adds_on-start : (a : NodeSet) (whole : List Wait) → AddsOn net k a a whole whole
  adds_on-start a whole = record { before = []; adds = adds_none a; is_whole = refl }

  pub adds_on-next : {a b c : NodeSet} {left whole : List Wait} (piece rest : List Wait)
      → AddsOn net k a b left whole → left ≡ piece ++ rest → Adds net k b c piece → AddsOn net k a c rest whole
  adds_on-next piece rest g e t =
      record {
        before = g.before ++ piece;
        adds = adds_then g.adds t;
        is_whole = append_assoc g.before piece rest ∙ ap (λ (xs : List Wait). g.before ++ xs) (sym e) ∙ g.is_whole;
      }

  pub adds_on-end : {a b : NodeSet} {left whole : List Wait} → AddsOn net k a b left whole → left ≡ []
      → Adds net k a b whole
  adds_on-end g e =
      adds_as g.adds (sym (append-nil g.before) ∙ ap (λ (xs : List Wait). g.before ++ xs) (sym e) ∙ g.is_whole)

-- the waits of those from one of a list on
pub waits_next : (f : Waiter → List Wait) (xs : List Waiter) (i : ℕ) (d : Waiter) → i < length xs
    → flat_map f (drop i xs) ≡ f (get_or xs i d) ++ flat_map f (drop (i + 1) xs)
waits_next f xs i d l = rw (add-one, drop-cons xs i d) refl

-- of all lists of all
any_of_all : (q : Wait → Bool) (f : Waiter → List Wait) (xs : List Waiter)
    → list_any q (flat_map f xs) ≡ list_any (λ x. list_any q (f x)) xs
any_of_all q f [] = refl
any_of_all q f (x ∷ xs) =
    list_any-append q (f x) (flat_map f xs) ∙ ap (λ (b : Bool). list_any q (f x) || b) (any_of_all q f xs)

-- a list tells the same of whom it has, in whatever order they are put
swapped : (x w y : Bool) → (x || (w || y)) ≡ ((x || y) || w)
swapped true w y = refl
swapped false true true = refl
swapped false true false = refl
swapped false false true = refl
swapped false false false = refl

any_inserted : (p : Waiter → Bool) (sorted : List Waiter) (w : Waiter)
    → list_any p (inserted sorted w) ≡ (list_any p sorted || p w)
any_inserted p sorted w = by (position_or_len (λ (v : Waiter). nat_le w.process v.process) sorted)
  where
    by : (at : ℕ) → list_any p (take at sorted ++ w ∷ drop at sorted) ≡ (list_any p sorted || p w)
    by at =
        list_any-append p (take at sorted) (w ∷ drop at sorted)
        ∙ swapped (list_any p (take at sorted)) (p w) (list_any p (drop at sorted))
        ∙ ap (λ (b : Bool). b || p w)
        (sym (list_any-append p (take at sorted) (drop at sorted)) ∙ ap (list_any p) (take-append-drop at sorted))

any_folded : (p : Waiter → Bool) (sorted ws : List Waiter)
    → list_any p (fold inserted sorted ws) ≡ (list_any p sorted || list_any p ws)
any_folded p sorted [] = sym (or-false (list_any p sorted))
any_folded p sorted (w ∷ ws) =
    any_folded p (inserted sorted w) ws
    ∙ ap (λ (b : Bool). b || list_any p ws) (any_inserted p sorted w)
    ∙ or_assoc (list_any p sorted) (p w) (list_any p ws)

-- so a node waits for the same nodes
pub same_waits : (wires : List Wire) (a b : ℕ) (role : Role) (n : NodeState) (ws : List Waiter)
    → leads_to wires a b (role_waits role n (by_descriptor ws)) ≡ leads_to wires a b (role_waits role n ws)
same_waits wires a b Processor n ws =
    any_of_all test each (by_descriptor ws) ∙ any_folded (λ x. list_any test (each x)) [] ws
    ∙ sym (any_of_all test each ws)
  where
    test : Wait → Bool
    test w = is_at b (far_ends wires a w.link)

    each : Waiter → List Wait
    each w = waiter_waits n.machine.control w
same_waits wires a b (Source over rest) n ws = refl
same_waits wires a b (Sink kept) n ws = refl

-- ---- of all nodes

-- no sets tell of nobody
pub none_awaited : (s : NodeSet) → s ≡ no_nodes → (count a b : ℕ) → set_waits (replicate count s) a b ≡ false
none_awaited s none count a b =
    ap (λ (t : NodeSet). has_node t b) (by (cases_lt a count)) ∙ none_set b
  where
    by : (a < count) ⊎ (count ≤ a) → get_or (replicate count s) a no_nodes ≡ no_nodes
    by (inl l) = get_or-replicate count a s no_nodes l ∙ none
    by (inr l) =
        get_or_past (replicate count s) a no_nodes (omega (arith, l, length-replicate count s))

-- a node by its number
node_there : (net : NetState) (k : ℕ) (n : NodeState) → k < length net.nodes → n ≡ get_or net.nodes k n
    → slice_get net.nodes k ≡ Some n
node_there net k n l is = slice_get-get_or net.nodes k n l ∙ ap Some (sym is)

module _ (net : NetState) (all : List NodeSet) (k : ℕ) where
  -- one more node has its set
  pub awaited_before : (n : NodeState) (none s : NodeSet) → k < length all → k < length net.nodes
      → n ≡ get_or net.nodes k n → none ≡ no_nodes
      → Adds net k none s (role_waits n.role n (by_descriptor n.machine.control.waiting))
      → ((a b : ℕ) → a < k → set_waits all a b ≡ waits_for net a b)
      → (a b : ℕ) → a < k + 1 → set_waits (set all k s) a b ≡ waits_for net a b
  awaited_before n none s there below is empty adds before a b l = by (cases_eq a k)
    where
      by : (a ≡ k) ⊎ (a ≡ k → ⊥) → set_waits (set all k s) a b ≡ waits_for net a b
      by (inr other) =
          ap (λ (t : NodeSet). has_node t b) (get_or-set_other all k a s no_nodes other)
          ∙ before a b (omega (arith, l, other))
      by (inl e) =
          ap (λ (t : NodeSet). has_node t b)
          (ap (λ (i : ℕ). get_or (set all k s) i no_nodes) e ∙ get_or-set_same all k s no_nodes there)
          ∙ adds.each b
          ∙ ap (λ (x : Bool). x
          || leads_to net.wires k b (role_waits n.role n (by_descriptor n.machine.control.waiting)))
          (ap (λ (t : NodeSet). has_node t b) empty ∙ none_set b)
          ∙ same_waits net.wires k b n.role n n.machine.control.waiting
          ∙ ap (λ (o : Option NodeState). node_waits_for net.wires k b o) (sym (node_there net k n below is))
          ∙ ap (λ (i : ℕ). waits_for net i b) (sym e)

-- the others have none yet
pub awaited_behind : (all : List NodeSet) (k : ℕ) (s : NodeSet)
    → ((a b : ℕ) → k ≤ a → set_waits all a b ≡ false)
    → (a b : ℕ) → k + 1 ≤ a → set_waits (set all k s) a b ≡ false
awaited_behind all k s none a b l =
    ap (λ (t : NodeSet). has_node t b) (get_or-set_other all k a s no_nodes (λ e. absurd (omega (arith, l, e))))
    ∙ none a b (omega (arith, l))

-- behind the last node there is none
pub whole_awaited : (net : NetState) (all : List NodeSet) (k : ℕ) → length net.nodes ≤ k
    → ((a b : ℕ) → a < k → set_waits all a b ≡ waits_for net a b)
    → ((a b : ℕ) → k ≤ a → set_waits all a b ≡ false)
    → (a b : ℕ) → set_waits all a b ≡ waits_for net a b
whole_awaited net all k end before behind a b = by (cases_lt a k)
  where
    by : (a < k) ⊎ (k ≤ a) → set_waits all a b ≡ waits_for net a b
    by (inl l) = before a b l
    by (inr l) =
        behind a b l
        ∙ sym (ap (λ (o : Option NodeState). node_waits_for net.wires a b o)
        (slice_get_past net.nodes a (omega (arith, l, end))))

-- the sets of the nodes alone
pub first_awaited : (net : NetState) (all : List NodeSet) (count : ℕ) → count ≡ length net.nodes → count ≤ length all
    → ((a b : ℕ) → set_waits all a b ≡ waits_for net a b)
    → circle_facts (length (take count all)) (set_waits (take count all)) ≡ circles_text net
first_awaited net all count is within same =
    ap₂ (λ (n : ℕ) (waits : ℕ → ℕ → Bool). circle_facts n waits) (length-take-le count all within ∙ is)
    (fun_ext (λ a. fun_ext (λ b. by a b (cases_lt a count))))
  where
    by : (a b : ℕ) → (a < count) ⊎ (count ≤ a) → set_waits (take count all) a b ≡ waits_for net a b
    by a b (inl l) = ap (λ (t : NodeSet). has_node t b) (get_or-take count all a no_nodes l) ∙ same a b
    by a b (inr l) =
        ap (λ (t : NodeSet). has_node t b)
        (get_or_past (take count all) a no_nodes (omega (arith, l, length-take-le count all within)))
        ∙ none_set b
        ∙ sym (ap (λ (o : Option NodeState). node_waits_for net.wires a b o)
        (slice_get_past net.nodes a (omega (arith, l, is))))
