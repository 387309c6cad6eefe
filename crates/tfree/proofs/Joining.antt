-- The rings of a net that is opened, one by one.
use Rattle.std.proofs.Common.{◌≡◌, ◌≢◌, ℕ, zero, suc, ◌+◌, ◌<◌, ◌∷◌, refl, sym, ap, ◌∙◌, subst, arith, List, [], length}
use Rattle.std.proofs.Common.{Option, Some, None, ◌⊎◌, inl, inr}
use Rattle.std.specs.Prelude.{is_some, replicate}
use Rattle.std.proofs.lemmas.Bool.{cases_eq}
use Rattle.std.proofs.lemmas.List.{append-nil}
use Rattle.std.proofs.lemmas.Option.{same_Some}
use Rattle.tplan.specs.declared.plan.End.{End}
use Rattle.tplan.specs.Wires.{end_at, far_end}
use Rattle.tnet.specs.Net.{NetState, inbox_at}
use Rattle.tnet.specs.Sound.{AreWires, IsEnd}
use Rattle.tnet.proofs.OpenedWires.{wired_ends}
use Rattle.tfree.specs.Kept.{put_to}
use Rattle.tfree.specs.Lists.{lying}
use Rattle.tfree.specs.Rings.{ComesBefore, IsNewRing, AreJoined, AreRings}
use Rattle.tfree.specs.Slots.{slot_of_end, with_slot, map_slots, AreRowsOfFour}
use Rattle.tfree.specs.Views.{InView, OutView, got_of, put_of}
use Rattle.tfree.proofs.LinkSlots.{slot-set_same, slot-set_other, row_length, four-set, four-none, none-held}

-- two ends are the same, or differ by node or by link
same_end_or_not : (x y : End) → (x ≡ y) ⊎ ((x.node ≢ y.node) ⊎ (x.link ≢ y.link))
same_end_or_not x y = by (cases_eq x.node y.node) (cases_eq x.link y.link)
  where
    by : (x.node ≡ y.node) ⊎ (x.node ≢ y.node) → (x.link ≡ y.link) ⊎ (x.link ≢ y.link)
        → (x ≡ y) ⊎ ((x.node ≢ y.node) ⊎ (x.link ≢ y.link))
    by (inl p) (inl q) = inl (ap (λ (n : ℕ). end_at n x.link) p ∙ ap (end_at y.node) q)
    by (inl p) (inr q) = inr (inr q)
    by (inr p) q = inr (inl p)

differs : (x y : End) → x ≢ y → (x.node ≢ y.node) ⊎ (x.link ≢ y.link)
differs x y d = by (same_end_or_not x y)
  where
    by : (x ≡ y) ⊎ ((x.node ≢ y.node) ⊎ (x.link ≢ y.link)) → (x.node ≢ y.node) ⊎ (x.link ≢ y.link)
    by (inl e) = absurd (d e)
    by (inr h) = h

-- the ends before the next link
before_self : (e : End) → ComesBefore e.node (e.link + 1) e
before_self e = inr (refl, omega arith)

not_before : (e : End) → ComesBefore e.node e.link e → ⊥
not_before e (inl h) = omega (arith, h)
not_before e (inr h) = omega (arith, h.1)

before_more : (n l : ℕ) (x : End) → ComesBefore n l x → ComesBefore n (l + 1) x
before_more n l x (inl h) = inl h
before_more n l x (inr h) = inr (h.0, omega (arith, h.1))

before_next : (e x : End) → ComesBefore e.node (e.link + 1) x → (x ≡ e) ⊎ ComesBefore e.node e.link x
before_next e x (inl h) = inr (inl h)
before_next e x (inr h) = by (cases_eq x.link e.link)
  where
    by : (x.link ≡ e.link) ⊎ (x.link ≢ e.link) → (x ≡ e) ⊎ ComesBefore e.node e.link x
    by (inl q) = inl (ap (λ (n : ℕ). end_at n x.link) h.0 ∙ ap (end_at e.node) q)
    by (inr d) = inr (inr (h.0, omega (arith, h.1, d)))

before_differs : (e x : End) → ComesBefore e.node e.link x → x ≢ e
before_differs e x b q = not_before e (subst (ComesBefore e.node e.link) q b)

module _ (opened : NetState) (e f : End) (ins : List (List (Option InView))) (outs : List (List (Option OutView)))
    (wires : AreWires (length opened.nodes) opened.wires) (j : AreJoined opened e.node e.link ins outs)
    (here : IsEnd (length opened.nodes) e) (leads : far_end opened.wires e ≡ Some f)
    (v : InView) (o : OutView) (same : o.id ≡ v.id) (no_got : v.got ≡ []) (put_is : o.put ≡ put_to opened e []) where
  abbrev ins' : List (List (Option InView))
  ins' = with_slot f.node f.link (Some v) ins

  abbrev outs' : List (List (Option OutView))
  outs' = with_slot e.node e.link (Some o) outs

  far_there : IsEnd (length opened.nodes) f
  far_there = (wired_ends (length opened.nodes) opened.wires e f wires.ends leads).1

  in_row : f.node < length ins
  in_row = omega (arith, far_there.0, j.ins_are.count)

  out_row : e.node < length outs
  out_row = omega (arith, here.0, j.outs_are.count)

  in_here : slot_of_end ins' f ≡ Some v
  in_here =
      slot-set_same ins f.node f.link (Some v) in_row
      (omega (arith, far_there.1, row_length (length opened.nodes) ins j.ins_are f.node far_there.0))

  out_here : slot_of_end outs' e ≡ Some o
  out_here =
      slot-set_same outs e.node e.link (Some o) out_row
      (omega (arith, here.1, row_length (length opened.nodes) outs j.outs_are e.node here.0))

  in_else : (x : End) → x ≢ f → slot_of_end ins' x ≡ slot_of_end ins x
  in_else x d = slot-set_other ins f.node f.link (Some v) x.node x.link in_row (differs x f d)

  out_else : (x : End) → x ≢ e → slot_of_end outs' x ≡ slot_of_end outs x
  out_else x d = slot-set_other outs e.node e.link (Some o) x.node x.link out_row (differs x e d)

  -- no end before leads there
  only : (x : End) → ComesBefore e.node e.link x → far_end opened.wires x ≡ Some f → ⊥
  only x b h = before_differs e x b (same_Some x e (sym (wires.back x f h) ∙ wires.back e f leads))

  new_ring : IsNewRing opened e (slot_of_end ins' f) (slot_of_end outs' e)
  new_ring =
      record { v = v; o = o; taker_is = in_here; putter_is = out_here; one = same; got = no_got; put = put_is }

  pub joined_more : AreJoined opened e.node (e.link + 1) ins' outs'
  joined_more =
      record {
        ins_are = four-set (length opened.nodes) ins f.node f.link (Some v) far_there.0 j.ins_are;
        outs_are = four-set (length opened.nodes) outs e.node e.link (Some o) here.0 j.outs_are;
        rings = λ x y h b. rings x y h (before_next e x b);
        no_out = λ x h. no_out x h;
        no_in = λ y h. in_else y (λ q. h e (leads ∙ ap (λ (z : End). Some z) (sym q)) (before_self e))
            ∙ j.no_in y (λ x w b. h x w (before_more e.node e.link x b));
      }
    where
      rings : (x y : End) → far_end opened.wires x ≡ Some y → (x ≡ e) ⊎ ComesBefore e.node e.link x
          → IsNewRing opened x (slot_of_end ins' y) (slot_of_end outs' x)
      rings x y h (inl q) =
          let to : y ≡ f = same_Some y f (sym h ∙ ap (far_end opened.wires) q ∙ leads) in
          rw (q, to) new_ring
      rings x y h (inr b) =
          rw (in_else y (λ q. only x b (h ∙ ap (λ (z : End). Some z) q)), out_else x (before_differs e x b))
          (j.rings x y h b)

      no_out : (x : End) → (far_end opened.wires x ≡ None) ⊎ (ComesBefore e.node (e.link + 1) x → ⊥)
          → slot_of_end outs' x ≡ None
      no_out x (inl none) =
          out_else x (λ q. let n : far_end opened.wires e ≡ None = ap (far_end opened.wires) (sym q) ∙ none in cc)
          ∙ j.no_out x (inl none)
      no_out x (inr h) =
          out_else x (λ q. h (subst (ComesBefore e.node (e.link + 1)) (sym q) (before_self e)))
          ∙ j.no_out x (inr (λ b. h (before_more e.node e.link x b)))

-- what lies at the other side of a wire is put in first
pub put_there : (opened : NetState) (e f : End) → far_end opened.wires e ≡ Some f
    → lying (inbox_at opened f) ≡ put_to opened e []
put_there opened e f h = rw h (sym (append-nil (lying (inbox_at opened f))))

-- behind the last link of a node
pub joined_node : (opened : NetState) (n : ℕ) (ins : List (List (Option InView))) (outs : List (List (Option OutView)))
    → AreWires (length opened.nodes) opened.wires → AreJoined opened n 4 ins outs → AreJoined opened (n + 1) 0 ins outs
joined_node opened n ins outs wires j =
    record {
      ins_are = j.ins_are;
      outs_are = j.outs_are;
      rings = λ x y h b. j.rings x y h
          (earlier x (wired_ends (length opened.nodes) opened.wires x y wires.ends h).0.1 b);
      no_out = λ x h. no_out x h;
      no_in = λ y h. j.no_in y (λ x w b. h x w (later x b));
    }
  where
    earlier : (x : End) → x.link < 4 → ComesBefore (n + 1) 0 x → ComesBefore n 4 x
    earlier x c (inl h) = by (cases_eq x.node n)
      where
        by : (x.node ≡ n) ⊎ (x.node ≢ n) → ComesBefore n 4 x
        by (inl q) = inr (q, c)
        by (inr d) = inl (omega (arith, h, d))
    earlier x c (inr h) = absurd (omega (arith, h.1))

    later : (x : End) → ComesBefore n 4 x → ComesBefore (n + 1) 0 x
    later x (inl h) = inl (omega (arith, h))
    later x (inr h) = inl (omega (arith, h.0))

    no_out : (x : End) → (far_end opened.wires x ≡ None) ⊎ (ComesBefore (n + 1) 0 x → ⊥) → slot_of_end outs x ≡ None
    no_out x (inl none) = j.no_out x (inl none)
    no_out x (inr h) = j.no_out x (inr (λ b. h (later x b)))

map-none : {A B : Type 0} (f : A → B) (n : ℕ)
    → map_slots f (replicate n (replicate 4 None)) ≡ replicate n (replicate 4 None)
map-none f zero = refl
map-none {A} {B} f (suc n) =
    ap (λ (rows : List (List (Option B))). (None ∷ None ∷ None ∷ None ∷ []) ∷ rows) (map-none f n)

-- before the first ring
pub joined_none : {A B : Type 0} (opened : NetState) (nodes : ℕ) (f : A → InView) (g : B → OutView)
    (ins : List (List (Option A))) (outs : List (List (Option B))) → nodes ≡ length opened.nodes
    → ins ≡ replicate nodes (replicate 4 None) → outs ≡ replicate nodes (replicate 4 None)
    → AreJoined opened 0 0 (map_slots f ins) (map_slots g outs)
joined_none {A} {B} opened nodes f g ins outs all a b =
    record {
      ins_are = subst (λ (n : ℕ). AreRowsOfFour n (map_slots f ins)) all (four-none nodes (map_slots f ins) no_ins);
      outs_are = subst (λ (n : ℕ). AreRowsOfFour n (map_slots g outs)) all (four-none nodes (map_slots g outs) no_outs);
      rings = λ x y w h. absurd (nothing x h);
      no_out = λ x h. none-held nodes (map_slots g outs) no_outs x.node x.link;
      no_in = λ y h. none-held nodes (map_slots f ins) no_ins y.node y.link;
    }
  where
    no_ins : map_slots f ins ≡ replicate nodes (replicate 4 None)
    no_ins = ap (map_slots f) a ∙ map-none f nodes

    no_outs : map_slots g outs ≡ replicate nodes (replicate 4 None)
    no_outs = ap (map_slots g) b ∙ map-none g nodes

    nothing : (x : End) → ComesBefore 0 0 x → ⊥
    nothing x (inl h) = omega (arith, h)
    nothing x (inr h) = omega (arith, h.1)

-- behind the last ring
pub joined_all : (opened : NetState) (ins : List (List (Option InView))) (outs : List (List (Option OutView)))
    → AreWires (length opened.nodes) opened.wires → AreJoined opened (length opened.nodes) 0 ins outs
    → AreRings opened ins outs
joined_all opened ins outs wires j =
    record {
      ins_are = j.ins_are;
      outs_are = j.outs_are;
      wired_in = λ x. wired_in x (far_end opened.wires x) refl;
      wired_out = λ x. wired_out x (far_end opened.wires x) refl;
      pairs = λ x y h. let t : IsNewRing opened x (slot_of_end ins y) (slot_of_end outs x) = ring x y h in
          rw (t.taker_is, t.putter_is) (ap (λ (i : _). Some i) (sym t.one));
      got = λ x. got x (far_end opened.wires x) refl;
      put = λ x. put x (far_end opened.wires x) refl;
    }
  where
    ring : (x y : End) → far_end opened.wires x ≡ Some y → IsNewRing opened x (slot_of_end ins y) (slot_of_end outs x)
    ring x y h = j.rings x y h (inl (wired_ends (length opened.nodes) opened.wires x y wires.ends h).0.0)

    no_in : (x : End) → far_end opened.wires x ≡ None → slot_of_end ins x ≡ None
    no_in x h = j.no_in x (λ y e b. let back : far_end opened.wires x ≡ Some y = wires.back y x e in cc)

    wired_in : (x : End) (o : Option End) → far_end opened.wires x ≡ o
        → is_some (slot_of_end ins x) ≡ is_some (far_end opened.wires x)
    wired_in x (Some y) h = ap is_some (ring y x (wires.back x y h)).taker_is ∙ ap is_some (sym h)
    wired_in x None h = ap is_some (no_in x h) ∙ ap is_some (sym h)

    wired_out : (x : End) (o : Option End) → far_end opened.wires x ≡ o
        → is_some (slot_of_end outs x) ≡ is_some (far_end opened.wires x)
    wired_out x (Some y) h = ap is_some (ring x y h).putter_is ∙ ap is_some (sym h)
    wired_out x None h = ap is_some (j.no_out x (inl h)) ∙ ap is_some (sym h)

    got : (x : End) (o : Option End) → far_end opened.wires x ≡ o → got_of (slot_of_end ins x) ≡ []
    got x (Some y) h = let t = ring y x (wires.back x y h) in ap got_of t.taker_is ∙ t.got
    got x None h = ap got_of (no_in x h)

    put : (x : End) (o : Option End) → far_end opened.wires x ≡ o → put_of (slot_of_end outs x) ≡ put_to opened x []
    put x (Some y) h = let t = ring x y h in ap put_of t.putter_is ∙ t.put
    put x None h = ap put_of (j.no_out x (inl h)) ∙ rw h refl
