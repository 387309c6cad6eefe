-- Things in a list that are found by a key.
-- Source: own choice.
use Rattle.std.specs.Prelude.{ℕ, ◌≡◌, List, Option, Some, None, slice_get}

-- no two of them have one key
abbrev pub AreApart : {X K : Type 0} → (X → K) → List X → Type 0
AreApart {X} {K} key xs =
    (i j : ℕ) (x y : X) → slice_get xs i ≡ Some x → slice_get xs j ≡ Some y → key x ≡ key y → i ≡ j

-- the number of one with this key, where one has it
abbrev pub IsFound : {X K : Type 0} → (X → K) → K → List X → Option ℕ → Type 0
IsFound {X} {K} key k xs (Some i) = (x : X) × (slice_get xs i ≡ Some x) × (key x ≡ k)
IsFound {X} {K} key k xs None = (i : ℕ) (x : X) → slice_get xs i ≡ Some x → key x ≡ k → ⊥
