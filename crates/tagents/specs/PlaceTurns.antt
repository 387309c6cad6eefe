-- A place that is taken by turns: what begins takes it, what ends frees it, and each such step is chained to the next
-- one. Where all that lives has such a place, no run has more at the same time than there are places. (Turns at a
-- number are in Groups.)
-- Source: own choice, after Dilworth, A decomposition theorem for partially ordered sets (1950).
use Rattle.std.specs.Prelude.{ℕ, ◌+◌, ◌≡◌, ◌<◌, ◌≤◌, ◌⊎◌, ◌||◌, Bool, true, false, List, [], ◌∷◌, length, get_or}
use Rattle.std.specs.Prelude.{reverse, if◌then◌else◌}
use Rattle.std.specs.List.{count_by}
use Rattle.tagents.specs.Agents.{Agents, IsRun}
use Rattle.tagents.specs.Certificates.{IsCertified}
use Rattle.tagents.specs.Tidy.{HoldsOfEach}
use Rattle.tagents.specs.Chains.{IsChained}
use Rattle.tagents.specs.Crowds.{HaveRoom, in_part}

-- whether the place is free after these steps, the last one first, and as it was at first, if none took or freed it
abbrev pub is_free : {Label : Type 0} → (begins ends : Label → Bool) → (at_first : Bool) → List Label → Bool
is_free begins ends at_first [] = at_first
is_free begins ends at_first (e ∷ es) =
    if begins e then false else if ends e then true else is_free begins ends at_first es

module _ {State Agent Label : Type 0} (m : Agents State Agent Label) (begins ends : Label → Bool) where
  -- of these steps, the last one first, the last one that takes or frees the place, if there is one, is chained to a
  -- later step
  abbrev pub IsAfterLast : List Label → (between : List Label) → Label → Type 0
  IsAfterLast [] between f = Unit {0}
  IsAfterLast (e ∷ es) between f =
      (((begins e || ends e) ≡ true) × IsChained m e between f)
      ⊎ (((begins e || ends e) ≡ false) × IsAfterLast es (e ∷ between) f)

  -- a step has its turn at the place: what begins finds it free, what ends finds it taken, and both come after the
  -- last one that took or freed it
  pub record HasPlaceTurn (at_first : Bool) (earlier : List Label) (f : Label) : Type 0 where
    pub takes : begins f ≡ true → is_free begins ends at_first earlier ≡ true
    pub frees : ends f ≡ true → is_free begins ends at_first earlier ≡ false
    pub after : (begins f || ends f) ≡ true → IsAfterLast earlier [] f

  -- each of these steps has, of which the last one stands first
  abbrev pub TakeTurns : (at_first : Bool) → List Label → Type 0
  TakeTurns at_first [] = Unit {0}
  TakeTurns at_first (f ∷ earlier) = HasPlaceTurn at_first earlier f × TakeTurns at_first earlier

-- then there is room for one, or for none if the place was taken at first
abbrev pub TurnsMakeRoom : (State Agent Label : Type 0) → Type 0
TurnsMakeRoom State Agent Label =
    (m : Agents State Agent Label) (begins ends : Label → Bool) (at_first : Bool) (steps : List Label)
    → TakeTurns m begins ends at_first steps → HaveRoom m begins ends (if at_first then 1 else 0) (reverse steps)

-- places, of which some are free at first, for what begins and ends
module _ {State Agent Label : Type 0} (m : Agents State Agent Label) (begins ends : Label → Bool)
    (place : Label → ℕ) (free : List Bool) where
  -- the same of the place with this number
  abbrev pub HasPlaceTurnAt : ℕ → List Label → Label → Type 0
  HasPlaceTurnAt k = HasPlaceTurn m (in_part place k begins) (in_part place k ends) (get_or free k false)

  -- what begins in these steps, the last one first, has a place, and each place is taken by turns
  pub record HavePlaces (steps : List Label) : Type 0 where
    pub within : HoldsOfEach (λ f. begins f ≡ true → place f < length free) steps
    pub turns : (k : ℕ) → k < length free
        → TakeTurns m (in_part place k begins) (in_part place k ends) (get_or free k false) steps

  -- this holds of no steps, and of one more if that has its turn at its own place
  pub record HavePlacesByEach : Type 0 where
    pub none : HavePlaces []
    pub more : (earlier : List Label) (f : Label) → HavePlaces earlier → (begins f ≡ true → place f < length free)
        → HasPlaceTurnAt (place f) earlier f → HavePlaces (f ∷ earlier)

-- that there are places is shown step by step
abbrev pub PlacesAreShownByEach : (State Agent Label : Type 0) → Type 0
PlacesAreShownByEach State Agent Label =
    (m : Agents State Agent Label) (begins ends : Label → Bool) (place : Label → ℕ) (free : List Bool)
    → HavePlacesByEach m begins ends place free

-- then no run has more than there are free places
abbrev pub PlacesAreEnough : (State Agent Label : Type 0) → Type 0
PlacesAreEnough State Agent Label =
    (m : Agents State Agent Label) (begins ends : Label → Bool) (place : Label → ℕ) (free : List Bool)
    (start end s : State) (steps others : List Label) → IsCertified m start (reverse steps) end
    → HavePlaces m begins ends place free steps → IsRun m start others s
    → count_by begins others ≤ count_by (λ f. f) free + count_by ends others

-- places may be given as the run goes on: only those of what has begun or ended by then count
abbrev pub PlacesMayBeGiven : (State Agent Label : Type 0) → Type 0
PlacesMayBeGiven State Agent Label =
    (m : Agents State Agent Label) (begins ends : Label → Bool) (place more : Label → ℕ) (free : List Bool)
    (steps : List Label) → HoldsOfEach (λ f. (begins f || ends f) ≡ true → more f ≡ place f) steps
    → HavePlaces m begins ends place free steps → HavePlaces m begins ends more free steps
