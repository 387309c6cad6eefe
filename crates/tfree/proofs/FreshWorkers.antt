-- A worker that has done nothing keeps what a worker keeps.
use Rattle.std.proofs.Common.{◌≡◌, ℕ, ◌+◌, ◌<◌, ◌≤◌, refl, sym, ap, ◌∙◌, arith, List, [], length, get_or}
use Rattle.std.proofs.Common.{drop, ◌⊎◌, inl, inr, Option, Some, None, length-take, length-drop}
use Rattle.std.specs.Prelude.{is_some, slice_get, option_map}
use Rattle.std.proofs.lemmas.List.{get_or-drop, get_or-take}
use Rattle.std.proofs.lemmas.List.Elements.{All-nil}
use Rattle.std.proofs.lemmas.Option.{slice_get-get_or, slice_get_cases}
use Rattle.tlink.specs.Node.{NodeState}
use Rattle.tnet.specs.Net.{NetState}
use Rattle.tnet.specs.Sound.{IsSound}
use Rattle.tfree.specs.declared.stamp.OwnEvent.{OwnEvent}
use Rattle.tfree.specs.Views.{InView, OutView, got_of, put_of, Share}
use Rattle.tfree.specs.Slots.{slot_at, AreRowsOfFour}
use Rattle.tfree.specs.Kept.{own_end, IsMine, IsShare, Kept, share_with}
use Rattle.tfree.specs.Rings.{AreRings, portion_of}
use Rattle.tfree.proofs.LinkSlots.{slot-map, four-map}

pub part_length : {A : Type 0} (first count : ℕ) (xs : List A) → first + count ≤ length xs
    → length (portion_of first count xs) ≡ count
part_length first count xs b = omega (arith, b, length-take count (drop first xs), length-drop first xs)

part_at : {A : Type 0} (first count k : ℕ) (xs : List A) (d : A) → k < count
    → get_or (portion_of first count xs) k d ≡ get_or xs (first + k) d
part_at first count k xs d b = get_or-take count (drop first xs) k d b ∙ get_or-drop first xs k d

four-portion : {A : Type 0} (nodes first count : ℕ) (rows : List (List A)) → first + count ≤ nodes
    → AreRowsOfFour nodes rows → AreRowsOfFour count (portion_of first count rows)
four-portion nodes first count rows within r =
    record {
      count = part_length first count rows (omega (arith, within, r.count));
      four = λ n d b.
          let below : n < count =
          omega (arith, b, part_length first count rows (omega (arith, within, r.count))) in
          ap length (part_at first count n rows d below) ∙ r.four (first + n) d (omega (arith, below, within, r.count));
    }

module _ (number count first owned : ℕ) (opened : NetState) (ins : List (List (Option InView)))
    (outs : List (List (Option OutView)))
    (sound : IsSound opened) (few : length opened.nodes ≤ 64) (within : first + owned ≤ length opened.nodes)
    (r : AreRings opened ins outs) where
  abbrev my_ins : List (List (Option InView))
  my_ins = portion_of first owned ins

  abbrev my_outs : List (List (Option OutView))
  my_outs = portion_of first owned outs

  abbrev s : Share
  s = share_with number count first owned opened my_ins my_outs

  in_place : (i l : ℕ) → i < owned → slot_at my_ins i l ≡ slot_at ins (first + i) l
  in_place i l b =
      ap (λ (row : List (Option InView)). get_or row l None) (part_at first owned i ins [] b)

  out_place : (i l : ℕ) → i < owned → slot_at my_outs i l ≡ slot_at outs (first + i) l
  out_place i l b =
      ap (λ (row : List (Option OutView)). get_or row l None) (part_at first owned i outs [] b)

  pub in_id_at : (i l : ℕ) → i < owned
      → slot_at s.ins i l ≡ option_map (λ (v : InView). v.id) (slot_at ins (first + i) l)
  in_id_at i l b =
      slot-map (λ (v : InView). v.id) my_ins i l ∙ ap (option_map (λ (v : InView). v.id)) (in_place i l b)

  pub out_id_at : (i l : ℕ) → i < owned
      → slot_at s.outs i l ≡ option_map (λ (v : OutView). v.id) (slot_at outs (first + i) l)
  out_id_at i l b =
      slot-map (λ (v : OutView). v.id) my_outs i l ∙ ap (option_map (λ (v : OutView). v.id)) (out_place i l b)

  is_some_map : {A B : Type 0} (f : A → B) (x : Option A) → is_some (option_map f x) ≡ is_some x
  is_some_map f None = refl
  is_some_map f (Some v) = refl

  pub fresh_share : IsShare s
  fresh_share =
      record {
        sound = sound;
        few = few;
        within = within;
        ins_are = four-map (λ (v : InView). v.id) owned my_ins
            (four-portion (length opened.nodes) first owned ins within r.ins_are);
        outs_are = four-map (λ (v : OutView). v.id) owned my_outs
            (four-portion (length opened.nodes) first owned outs within r.outs_are);
        wired_in = λ i l b c. ap is_some (in_id_at i l b)
            ∙ is_some_map (λ (v : InView). v.id) (slot_at ins (first + i) l)
            ∙ r.wired_in (own_end s i l);
        wired_out = λ i l b c. ap is_some (out_id_at i l b)
            ∙ is_some_map (λ (v : OutView). v.id) (slot_at outs (first + i) l)
            ∙ r.wired_out (own_end s i l);
        own = λ i l j k b c d e h. in_id_at i l b
            ∙ r.pairs (own_end s j k) (own_end s i l) (sound.wires.back (own_end s i l) (own_end s j k) h)
            ∙ sym (out_id_at j k d);
      }

  pub fresh_kept : (nodes : List NodeState) → nodes ≡ portion_of first owned opened.nodes
      → Kept s nodes 0 my_ins my_outs [] []
  fresh_kept nodes is =
      record {
        counted = ap length is ∙ part_length first owned opened.nodes within;
        done = refl;
        left = λ i b. same_node i b;
        mine = All-nil (λ (d : OwnEvent). IsMine s d.node);
        small = All-nil _;
        got = λ i l b c. ap got_of (in_place i l b) ∙ r.got (own_end s i l);
        put = λ i l b c. ap put_of (out_place i l b) ∙ r.put (own_end s i l);
        clock_is = refl;
        stamped = tt;
        unstamped = All-nil _;
        told_is = refl;
      }
    where
      same_node : (i : ℕ) → i < owned → slice_get opened.nodes (first + i) ≡ slice_get nodes i
      same_node i b = by (slice_get_cases opened.nodes (first + i)).1
        where
          by : ((x : NodeState) × (first + i < length opened.nodes) × (slice_get opened.nodes (first + i) ≡ Some x)
              × (get_or opened.nodes (first + i) x ≡ x))
              ⊎ ((length opened.nodes ≤ first + i) × (slice_get opened.nodes (first + i) ≡ None))
              → slice_get opened.nodes (first + i) ≡ slice_get nodes i
          by (inl h) =
              h.2 ∙ ap (λ (x : NodeState). Some x) (sym h.3 ∙ sym (part_at first owned i opened.nodes h.0 b)
              ∙ ap (λ (xs : List NodeState). get_or xs i h.0) (sym is))
              ∙ sym (slice_get-get_or nodes i h.0
              (omega (arith, b, ap length is, part_length first owned opened.nodes within)))
          by (inr h) = absurd (omega (arith, h.0, b, within))
