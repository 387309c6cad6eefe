-- How the processes of a node are found: by fingerprints, which are the same for processes of one name.
-- Source: own choice.
use Rattle.std.specs.Prelude.{ℕ, ◌≡◌, ◌<◌, ◌≤◌, ◌*◌, ◌%◌, ◌^◌, bit_xor, fold, List, Option, Some, None, length, map}
use Rattle.std.specs.Prelude.{slice_get}
use Rattle.tprocesses.specs.Places.{Name, Root, Image, After}
use Rattle.tcertify.specs.declared.process.Process.{Process}
use Rattle.tcertify.specs.Processes.{name_of}

-- a fingerprint with one more number in it
unfoldable pub mixed : ℕ → ℕ → ℕ
mixed print number = (bit_xor print number * 0x9e37_79b9_7f4a_7c15) % 2 ^ 64

-- the fingerprint of where a name begins
abbrev pub root_fingerprint : Root → ℕ
root_fingerprint (Image k) = mixed 1 k
root_fingerprint (After w earlier) = mixed (mixed 2 w) earlier

-- the fingerprint of a name
abbrev pub fingerprint : Name → ℕ
fingerprint x = fold mixed (root_fingerprint x.root) x.path

-- the fingerprints of processes
abbrev pub fingerprints : List Process → List ℕ
fingerprints ps = map (λ p. fingerprint (name_of 0 p)) ps

-- the number of the latest one before number n with this fingerprint, if there is one
pub record IsLatest (prints : List ℕ) (n print : ℕ) (found : Option ℕ) : Type 0 where
  pub below : (k : ℕ) → found ≡ Some k → k < n
  pub there : (k : ℕ) → found ≡ Some k → slice_get prints k ≡ Some print
  pub none : (j : ℕ) → j < n → slice_get prints j ≡ Some print → found ≡ None → ⊥
  pub last : (j k : ℕ) → j < n → slice_get prints j ≡ Some print → found ≡ Some k → j ≤ k

-- for each fingerprint the latest one with it, and for each one the latest one before it with its fingerprint
pub record AreIndexed (prints : List ℕ) (latest : ℕ → Option ℕ) (earlier : List (Option ℕ)) : Type 0 where
  pub each : length earlier ≡ length prints
  pub all : (print : ℕ) → IsLatest prints (length prints) print (latest print)
  pub before : (k print : ℕ) (found : Option ℕ) → slice_get earlier k ≡ Some found → slice_get prints k ≡ Some print
      → IsLatest prints k print found
