-- Places that are taken by turns are parts, each of which has room for one.
use Rattle.std.proofs.Common.{ℕ, zero, suc, ◌+◌, ◌≡◌, ◌<◌, ◌≤◌, refl, sym, ap, subst, Bool, true, false}
use Rattle.std.proofs.Common.{List, [], ◌∷◌, ◌∙◌, inl, inr, reverse, true≢false, arith}
use Rattle.std.specs.Prelude.{◌||◌, ◌&&◌, ◌==◌, length, get_or, map, slice_index}
use Rattle.std.specs.List.{sum, count_by}
use Rattle.std.proofs.lemmas.Bool.{or_left, or_right, or_cases, and_parts, eqb-true}
use Rattle.std.proofs.lemmas.List.{reverse-append, length-map}
use Rattle.std.proofs.lemmas.List.Sums.{sum-map}
use Rattle.tagents.specs.Agents.{Agents}
use Rattle.tagents.specs.Tidy.{HoldsOfEach}
use Rattle.tagents.specs.Crowds.{HaveRoom, in_part, HaveRoomInParts}
use Rattle.tagents.specs.PlaceTurns.{is_free, IsAfterLast, HasPlaceTurnAt, TakeTurns, PlacesAreShownByEach}
use Rattle.tagents.specs.PlaceTurns.{PlacesAreEnough, PlacesMayBeGiven}
use Rattle.tagents.proofs.Fronted.{test}
use Rattle.tagents.proofs.Found.{from_parts}
use Rattle.tagents.proofs.Parts.{one_if}
use Rattle.tagents.proofs.CrowdParts.{parts_tell_of_the_whole}
use Rattle.tagents.proofs.Turned.{room}

of_reverse : {X : Type 0} (P : X → Type 0) (xs : List X) → HoldsOfEach P xs → HoldsOfEach P (reverse xs)
of_reverse P [] h = tt
of_reverse P (x ∷ xs) h =
    subst (HoldsOfEach P) (sym (reverse-append (x ∷ []) xs))
    (from_parts P (reverse xs) (x ∷ []) (of_reverse P xs h.1) (h.0, tt))

-- each free place has room for one
rooms_at : (free : List Bool) (k : ℕ) → slice_index (map one_if free) k ≡ one_if (get_or free k false)
rooms_at [] k = refl
rooms_at (b ∷ bs) zero = refl
rooms_at (b ∷ bs) (suc k) = rooms_at bs k

pub places_are_enough : (State Agent Label : Type 0) → PlacesAreEnough State Agent Label
places_are_enough State Agent Label m begins ends place free start end s steps others c places other =
    let few : count_by begins others ≤ sum (map one_if free) + count_by ends others =
    parts_tell_of_the_whole State Agent Label m begins ends place (map one_if free) start end s (reverse steps) others
    c parts other in
    let all : sum (map one_if free) ≡ count_by (λ f. f) free = sum-map one_if free in
    omega (arith, few, all)
  where
    long : length (map one_if free) ≡ length free
    long = length-map free one_if

    parts : HaveRoomInParts m begins ends place (map one_if free) (reverse steps)
    parts =
        record {
          within = of_reverse (λ f. begins f ≡ true → place f < length (map one_if free)) steps
              (subst (λ n. HoldsOfEach (λ f. begins f ≡ true → place f < n) steps) (sym long) places.within);
          room = λ k l. subst (λ n. HaveRoom m (in_part place k begins) (in_part place k ends) n (reverse steps))
              (sym (rooms_at free k))
              (room m (in_part place k begins) (in_part place k ends) (get_or free k false) steps
              (places.turns k (rw long at l)));
        }

-- at other places a step has its turn
module _ {State Agent Label : Type 0} (m : Agents State Agent Label) (begins ends : Label → Bool)
    (place : Label → ℕ) (free : List Bool) where
  elsewhere : (b c : Bool) → c ≡ false → (b && c) ≡ true → ⊥
  elsewhere b c d h = true≢false (sym (and_parts b c h).1 ∙ d)

  turn_at : (earlier : List Label) (f : Label) (k : ℕ) → HasPlaceTurnAt m begins ends place free (place f) earlier f
      → HasPlaceTurnAt m begins ends place free k earlier f
  turn_at earlier f k turn =
      elim (test (place f == k)) as (λ _. HasPlaceTurnAt m begins ends place free k earlier f) [
        | inl q ↦ subst (λ (n : ℕ). HasPlaceTurnAt m begins ends place free n earlier f) (eqb-true (place f) k q) turn
        | inr d ↦ record {
          takes = λ is. absurd (elsewhere (begins f) (place f == k) d is);
          frees = λ is. absurd (elsewhere (ends f) (place f == k) d is);
          after = λ is. elim (or_cases (in_part place k begins f) (in_part place k ends f) is)
              as (λ _. IsAfterLast m (in_part place k begins) (in_part place k ends) earlier [] f) [
                | inl b ↦ absurd (elsewhere (begins f) (place f == k) d b)
                | inr b ↦ absurd (elsewhere (ends f) (place f == k) d b)
              ];
        }
      ]

pub places_are_shown_by_each : (State Agent Label : Type 0) → PlacesAreShownByEach State Agent Label
places_are_shown_by_each State Agent Label m begins ends place free =
    record {
      none = record { within = tt; turns = λ k l. tt };
      more = λ earlier f places within turn. record {
        within = (within, places.within);
        turns = λ k l. (turn_at m begins ends place free earlier f k turn, places.turns k l);
      };
    }

-- what begins and ends by one account does so by another, as far as these steps go
module _ {State Agent Label : Type 0} (m : Agents State Agent Label) (begins ends begins' ends' : Label → Bool) where
  abbrev Agree : List Label → Type 0
  Agree steps = HoldsOfEach (λ f. (begins' f ≡ begins f) × (ends' f ≡ ends f)) steps

  free_too : (before : Bool) (steps : List Label) → Agree steps
      → is_free begins' ends' before steps ≡ is_free begins ends before steps
  free_too before [] h = refl
  free_too before (e ∷ es) h = rw (h.0.0, h.0.1, free_too before es h.1) refl

  last_too : (steps between : List Label) (f : Label) → Agree steps → IsAfterLast m begins ends steps between f
      → IsAfterLast m begins' ends' steps between f
  last_too [] between f h after = tt
  last_too (e ∷ es) between f h (inl busy) = inl (rw (h.0.0, h.0.1) busy.0, busy.1)
  last_too (e ∷ es) between f h (inr idle) =
      inr (rw (h.0.0, h.0.1) idle.0, last_too es (e ∷ between) f h.1 idle.1)

  turns_too : (before : Bool) (steps : List Label) → Agree steps → TakeTurns m begins ends before steps
      → TakeTurns m begins' ends' before steps
  turns_too before [] h turns = tt
  turns_too before (f ∷ earlier) h turns = (
    record {
      takes = λ is. free_too before earlier h.1 ∙ turns.0.takes (rw h.0.0 at is);
      frees = λ is. free_too before earlier h.1 ∙ turns.0.frees (rw h.0.1 at is);
      after = λ is. last_too earlier [] f h.1 (turns.0.after (rw (h.0.0, h.0.1) at is));
    },
    turns_too before earlier h.1 turns.1,
  )

module _ {Label : Type 0} (begins ends : Label → Bool) (place more : Label → ℕ) where
  -- the same places, for what begins and ends in these steps
  abbrev AreSame : List Label → Type 0
  AreSame steps = HoldsOfEach (λ f. (begins f || ends f) ≡ true → more f ≡ place f) steps

  within_too : (n : ℕ) (steps : List Label) → AreSame steps
      → HoldsOfEach (λ f. begins f ≡ true → place f < n) steps
      → HoldsOfEach (λ f. begins f ≡ true → more f < n) steps
  within_too n [] same h = tt
  within_too n (f ∷ fs) same h =
      (λ is. rw (same.0 (or_left (begins f) (ends f) is)) (h.0 is), within_too n fs same.1 h.1)

  same_part : (b : Bool) (k p q : ℕ) → (b ≡ true → q ≡ p) → (b && (q == k)) ≡ (b && (p == k))
  same_part true k p q same = ap (λ n. n == k) (same refl)
  same_part false k p q same = refl

  in_same : (k : ℕ) (steps : List Label) → AreSame steps
      → HoldsOfEach (λ f. (in_part more k begins f ≡ in_part place k begins f)
      × (in_part more k ends f ≡ in_part place k ends f)) steps
  in_same k [] same = tt
  in_same k (f ∷ fs) same = (
    (
      same_part (begins f) k (place f) (more f) (λ b. same.0 (or_left (begins f) (ends f) b)),
      same_part (ends f) k (place f) (more f) (λ b. same.0 (or_right (begins f) (ends f) b)),
    ),
    in_same k fs same.1,
  )

pub places_may_be_given : (State Agent Label : Type 0) → PlacesMayBeGiven State Agent Label
places_may_be_given State Agent Label m begins ends place more free steps same places =
    record {
      within = within_too begins ends place more (length free) steps same places.within;
      turns = λ k l. turns_too m (in_part place k begins) (in_part place k ends) (in_part more k begins)
          (in_part more k ends) (get_or free k false) steps (in_same begins ends place more k steps same)
          (places.turns k l);
    }
