-- How many live at the same time in all runs, read off the order of one run.
-- Source: own choice, after Lamport, Time, clocks, and the ordering of events in a distributed system (1978).
use Rattle.std.specs.Prelude.{ℕ, zero, suc, ◌+◌, ◌≡◌, ◌==◌, ◌<◌, ◌≤◌, ◌⊎◌, Bool, true, ◌&&◌, List, [], ◌∷◌}
use Rattle.std.specs.Prelude.{◌++◌, length, slice_index, if◌then◌else◌}
use Rattle.std.specs.List.{sum, count_by}
use Rattle.tagents.specs.Agents.{Agents, IsRun}
use Rattle.tagents.specs.Chains.{IsChained}
use Rattle.tagents.specs.Certificates.{IsCertified}
use Rattle.tagents.specs.Tidy.{HoldsOfEach}

module _ {State Agent Label : Type 0} (m : Agents State Agent Label) where
  -- at least n of these steps, in the order of the run, end something and are chained to a later one
  abbrev pub HaveEnded : (ends : Label → Bool) → (earlier : List Label) → Label → (n : ℕ) → Type 0
  HaveEnded ends es f zero = Unit {0}
  HaveEnded ends [] f (suc n) = ⊥
  HaveEnded ends (e ∷ es) f (suc n) =
      ((ends e ≡ true) × IsChained m e es f × HaveEnded ends es f n) ⊎ HaveEnded ends es f (suc n)

module _ {State Agent Label : Type 0} (m : Agents State Agent Label) (begins ends : Label → Bool) (limit : ℕ) where
  -- one more may begin in a step after these: what has begun in them, but for what has ended in steps that are chained
  -- to it, is below the limit
  pub record HasRoom (earlier : List Label) (f : Label) : Type 0 where
    pub ended : ℕ
    pub chained : HaveEnded m ends earlier f ended
    pub few : count_by begins earlier < limit + ended

  -- at each step of a run that begins something there is room for it
  abbrev pub HaveRoom : List Label → Type 0
  HaveRoom steps =
      (earlier later : List Label) (f : Label) → steps ≡ earlier ++ f ∷ later → begins f ≡ true → HasRoom earlier f

  -- a run of no steps has room, and one that has it keeps it with one more step for which there is room
  pub record HaveRoomByEach : Type 0 where
    pub none : HaveRoom []
    pub more : (steps : List Label) (f : Label) → HaveRoom steps → (begins f ≡ true → HasRoom steps f)
        → HaveRoom (steps ++ f ∷ [])

-- if there is room in one run that is over and has no race, then in each run what has begun, but for what has ended,
-- is within the limit
abbrev pub NoRunIsCrowded : (State Agent Label : Type 0) → Type 0
NoRunIsCrowded State Agent Label =
    (m : Agents State Agent Label) (begins ends : Label → Bool) (limit : ℕ) (start end s : State)
    (steps others : List Label) → IsCertified m start steps end → HaveRoom m begins ends limit steps
    → IsRun m start others s → count_by begins others ≤ limit + count_by ends others

-- that there is room is shown step by step
abbrev pub RoomIsShownByEach : (State Agent Label : Type 0) → Type 0
RoomIsShownByEach State Agent Label =
    (m : Agents State Agent Label) (begins ends : Label → Bool) (limit : ℕ) → HaveRoomByEach m begins ends limit

-- a test, and that this is in the part
abbrev pub in_part : {Label : Type 0} → (part : Label → ℕ) → (k : ℕ) → (Label → Bool) → Label → Bool
in_part part k test f = test f && (part f == k)

-- what begins is in one of some parts, each with a limit of its own, and there is room in each
pub record HaveRoomInParts {State Agent Label : Type 0} (m : Agents State Agent Label) (begins ends : Label → Bool)
    (part : Label → ℕ) (limits : List ℕ) (steps : List Label) : Type 0 where
  pub within : HoldsOfEach (λ f. begins f ≡ true → part f < length limits) steps
  pub room : (k : ℕ) → k < length limits
      → HaveRoom m (in_part part k begins) (in_part part k ends) (slice_index limits k) steps

-- then all limits together are one of the whole: so agents that know nothing of each other's ends may have parts of
-- their own
abbrev pub PartsTellOfTheWhole : (State Agent Label : Type 0) → Type 0
PartsTellOfTheWhole State Agent Label =
    (m : Agents State Agent Label) (begins ends : Label → Bool) (part : Label → ℕ) (limits : List ℕ)
    (start end s : State) (steps others : List Label) → IsCertified m start steps end
    → HaveRoomInParts m begins ends part limits steps → IsRun m start others s
    → count_by begins others ≤ sum limits + count_by ends others

-- the ends that are chained to a step are chained to what it is chained to, and so is its own
abbrev pub EndsAreHandedOn : (State Agent Label : Type 0) → Type 0
EndsAreHandedOn State Agent Label =
    (m : Agents State Agent Label) (ends : Label → Bool) (earlier between : List Label) (e f : Label) (n : ℕ)
    → HaveEnded m ends earlier e n → IsChained m e between f
    → HaveEnded m ends (earlier ++ e ∷ between) f (if ends e then suc n else n)
