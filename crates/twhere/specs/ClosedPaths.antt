-- What the circles of nodes that wait for one another are: just the shortest closed paths.
-- Source: own choice, a law of the circles.
use Rattle.std.specs.Prelude.{ℕ, ◌≡◌, ◌<◌, ◌≤◌, Bool, true, List, [], ◌∷◌, length, Some, IsSome}
use Rattle.twhere.specs.Circles.{circle}

-- these nodes lead from one node to another, each of them waits for the one behind it, and none is below the lowest
abbrev pub IsPath : (count : ℕ) → (waits : ℕ → ℕ → Bool) → (lowest from : ℕ) → List ℕ → (to : ℕ) → Type 0
IsPath count waits lowest from [] to = from ≡ to
IsPath count waits lowest from (n ∷ ns) to =
    (waits from n ≡ true) × (lowest ≤ n) × (n < count) × IsPath count waits lowest n ns to

-- these nodes lead from a node back to it, through none that is below it
pub record IsClosed (count : ℕ) (waits : ℕ → ℕ → Bool) (lowest : ℕ) (behind : List ℕ) : Type 0 where
  pub some : 0 < length behind
  pub path : IsPath count waits lowest lowest behind lowest

-- each node that is the lowest of a closed path has a circle
abbrev pub HasEachCircle : Type 0
HasEachCircle =
    (count : ℕ) (waits : ℕ → ℕ → Bool) (lowest : ℕ) (behind : List ℕ) → lowest < count
    → IsClosed count waits lowest behind → IsSome (circle count waits lowest)

-- a circle is a closed path
abbrev pub CirclesAreClosed : Type 0
CirclesAreClosed =
    (count : ℕ) (waits : ℕ → ℕ → Bool) (lowest : ℕ) (behind : List ℕ) → lowest < count
    → circle count waits lowest ≡ Some behind → IsClosed count waits lowest behind

-- and no closed path through none that is below its lowest node is shorter
abbrev pub CirclesAreShortest : Type 0
CirclesAreShortest =
    (count : ℕ) (waits : ℕ → ℕ → Bool) (lowest : ℕ) (behind other : List ℕ) → lowest < count
    → circle count waits lowest ≡ Some behind → IsClosed count waits lowest other → length behind ≤ length other
