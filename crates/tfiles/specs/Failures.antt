-- What a writer or a reader counts of its calls that failed, where it counts them, and what a fault says of that.
-- Source: own choice; the writers and readers of std say nothing of failures.
use Rattle.std.specs.Prelude.{ℕ, zero, suc, ◌≡◌, ◌+◌, Bool, true, false, List, [], ◌∷◌, Option, Some, None}
use Rattle.std.specs.Prelude.{Result, Ok, Err}

-- a write failed: it answered an error, or took none of some bytes
abbrev pub failed_write : {E : Type 0} → Result ℕ E → List ℕ → Bool
failed_write (Err e) bytes = true
failed_write (Ok (suc n)) bytes = false
failed_write (Ok zero) (byte ∷ bytes) = true
failed_write (Ok zero) [] = false

-- a read failed: it answered an error
abbrev pub failed_read : {E : Type 0} → Result ℕ E → Bool
failed_read (Err e) = true
failed_read (Ok n) = false

-- a count of failures is unchanged: no call failed since; None says nothing
abbrev pub HasStayed : Option ℕ → Option ℕ → Type 0
HasStayed None after = Unit {0}
HasStayed (Some n) None = ⊥
HasStayed (Some n) (Some m) = m ≡ n

-- a count of failures has risen by one: just one call failed since; None says nothing
abbrev pub HasRisen : Option ℕ → Option ℕ → Type 0
HasRisen None after = Unit {0}
HasRisen (Some n) None = ⊥
HasRisen (Some n) (Some m) = m ≡ n + 1

-- just one call failed since, or none did
abbrev pub Counts : Option ℕ → Option ℕ → Bool → Type 0
Counts before after true = HasRisen before after
Counts before after false = HasStayed before after
