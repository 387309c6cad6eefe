-- Steps of walkers that do not clash: neither changes what the other has seen, and their changes have the same result
-- in both orders.
use Rattle.std.proofs.Common.{◌≡◌, refl, sym, ap, ◌∙◌, Bool, true, false, ◌&&◌, ◌||◌, not, map, filter}
use Rattle.std.proofs.Common.{List, [], ◌∷◌, inl, inr, true≢false}
use Rattle.std.proofs.lemmas.Bool.{or_left, or_right, true_from_ne_false}
use Rattle.std.specs.List.{list_any}
use Rattle.tagents.specs.Walks.{Sight, Alteration, Label, Walkers, changes_at, value_after, are_at_odds, disturbs}
use Rattle.tagents.specs.Tidy.{HoldsOfEach, AreTold}
use Rattle.tagents.proofs.Fronted.{test}
use Rattle.tagents.proofs.Found.{each_fails}

module _ {Agent Place Value Change Kind Deed : Type 0} (w : Walkers Agent Place Value Change Kind Deed)
    (told : AreTold w) where
  -- a place is told to be itself
  pub same_self : (p q : Place) → p ≡ q → w.same_place p q ≡ true
  same_self p q h = true_from_ne_false (w.same_place p q) (λ k. told.not_same_place p q k h)

  -- a place was seen
  abbrev pub has_seen : Label Agent Place Value Deed → Place → Bool
  has_seen e p = list_any (λ x. w.same_place x.place p) e.seen

  -- the changes at a place, of some alterations
  abbrev pub made_at : Place → List (Alteration Place Change) → List Change
  made_at p xs = map (λ x. x.change) (filter (λ x. w.same_place x.place p) xs)

  seen_there : (p : Place) (seen : List (Sight Place Value)) → list_any (λ x. w.same_place x.place p) seen ≡ true
      → list_any (λ y. w.same_place p y.place) seen ≡ true
  seen_there p [] h = h
  seen_there p (x ∷ xs) h =
      elim (test (w.same_place x.place p))
      as (λ _. (w.same_place p x.place || list_any (λ y. w.same_place p y.place) xs) ≡ true) [
        | inl q ↦ or_left _ _ (same_self p x.place (sym (told.is_same_place x.place p q)))
        | inr n ↦ or_right _ _ (seen_there p xs (rw n at h))
      ]

  -- nothing is changed at a place that was seen, where no change is at a place that was
  none_made : (p : Place) (seen : List (Sight Place Value)) (xs : List (Alteration Place Change))
      → list_any (λ x. w.same_place x.place p) seen ≡ true
      → HoldsOfEach (λ x. list_any (λ y. w.same_place x.place y.place) seen ≡ false) xs → made_at p xs ≡ []
  none_made p seen [] h k = refl
  none_made p seen (x ∷ xs) h k =
      elim (test (w.same_place x.place p)) as (λ _. made_at p (x ∷ xs) ≡ []) [
        | inl q ↦ absurd (true≢false (sym (seen_there p seen h)
            ∙ ap (λ (z : Place). list_any (λ y. w.same_place z y.place) seen) (sym (told.is_same_place x.place p q))
            ∙ k.0))
        | inr n ↦ rw n (none_made p seen xs h k.1)
      ]

  pub leaves : (e f : Label Agent Place Value Deed) → disturbs w e f ≡ false → (p : Place) (v : Value)
      → has_seen f p ≡ true → value_after w (changes_at w e.deed p) v ≡ v
  leaves e f h p v k =
      ap (λ (cs : List Change). value_after w cs v)
      (none_made p f.seen (w.changes e.deed) k (each_fails _ (w.changes e.deed) h))

  -- two changes have the same result in both orders
  abbrev pub Commute : Change → Change → Type 0
  Commute c d = (v : Value) → w.apply c (w.apply d v) ≡ w.apply d (w.apply c v)

  past_all : (c : Change) (ds : List Change) → HoldsOfEach (Commute c) ds → (v : Value)
      → value_after w ds (w.apply c v) ≡ w.apply c (value_after w ds v)
  past_all c [] h v = refl
  past_all c (d ∷ ds) h v = ap (value_after w ds) (sym (h.0 v)) ∙ past_all c ds h.1 (w.apply d v)

  all_past : (cs ds : List Change) → HoldsOfEach (λ c. HoldsOfEach (Commute c) ds) cs → (v : Value)
      → value_after w cs (value_after w ds v) ≡ value_after w ds (value_after w cs v)
  all_past [] ds h v = refl
  all_past (c ∷ cs) ds h v =
      ap (value_after w cs) (sym (past_all c ds h.0 v)) ∙ all_past cs ds h.1 (w.apply c v)

  -- changes at one place that are not at odds commute
  module _ (commute : (c d : Change) → w.commute (w.kind_of c) (w.kind_of d) ≡ true → Commute c d) (p : Place) where
    not_at_odds : (a b : Bool) → a ≡ true → (a && not b) ≡ false → b ≡ true
    not_at_odds true true q h = refl
    not_at_odds true false q h = absurd (true≢false h)
    not_at_odds false b q h = absurd (true≢false (sym q))

    with_each : (x : Alteration Place Change) (ys : List (Alteration Place Change)) → x.place ≡ p
        → HoldsOfEach (λ y. are_at_odds w x y ≡ false) ys → HoldsOfEach (Commute x.change) (made_at p ys)
    with_each x [] q h = tt
    with_each x (y ∷ ys) q h =
        elim (test (w.same_place y.place p)) as (λ _. HoldsOfEach (Commute x.change) (made_at p (y ∷ ys))) [
          | inl k ↦ rw k (
            commute x.change y.change
                (not_at_odds (w.same_place x.place y.place) _
                (same_self x.place y.place (q ∙ sym (told.is_same_place y.place p k))) h.0),
            with_each x ys q h.1,
          )
          | inr k ↦ rw k (with_each x ys q h.1)
        ]

    each_with : (xs ys : List (Alteration Place Change))
        → HoldsOfEach (λ x. list_any (are_at_odds w x) ys ≡ false) xs
        → HoldsOfEach (λ c. HoldsOfEach (Commute c) (made_at p ys)) (made_at p xs)
    each_with [] ys h = tt
    each_with (x ∷ xs) ys h =
        elim (test (w.same_place x.place p))
        as (λ _. HoldsOfEach (λ c. HoldsOfEach (Commute c) (made_at p ys)) (made_at p (x ∷ xs))) [
          | inl k ↦ rw k (
            with_each x ys (told.is_same_place x.place p k) (each_fails (are_at_odds w x) ys h.0),
            each_with xs ys h.1,
          )
          | inr k ↦ rw k (each_with xs ys h.1)
        ]

    pub come_to_same : (e f : Label Agent Place Value Deed)
        → list_any (λ x. list_any (are_at_odds w x) (w.changes f.deed)) (w.changes e.deed) ≡ false → (v : Value)
        → value_after w (changes_at w e.deed p) (value_after w (changes_at w f.deed p) v)
        ≡ value_after w (changes_at w f.deed p) (value_after w (changes_at w e.deed p) v)
    come_to_same e f h v =
        all_past (changes_at w e.deed p) (changes_at w f.deed p)
        (each_with (w.changes e.deed) (w.changes f.deed) (each_fails _ (w.changes e.deed) h)) v
