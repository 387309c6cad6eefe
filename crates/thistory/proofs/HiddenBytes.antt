-- A byte as it is seen: hidden where a pending input claims it, and else as it is.
use Rattle.std.proofs.Common.{◌≡◌, ℕ, ◌+◌, ◌<◌, ◌≤◌, refl, ◌∙◌, length, get_or, Option, None, true, false, ◌⊎◌, inl}
use Rattle.std.proofs.Common.{inr, arith}
use Rattle.std.specs.Prelude.{nat_lt, option_and_then, slice_get, if◌then◌else◌}
use Rattle.std.proofs.lemmas.Bool.{cases_lt, le-ltb, lt-ltb}
use Rattle.std.proofs.lemmas.List.{get_or_past}
use Rattle.std.proofs.lemmas.Option.{slice_get-get_or, slice_get_past}
use Rattle.tword.specs.Words.{most_neg}
use Rattle.tword.specs.Stores.{Store, byte_at, place}
use Rattle.tword.specs.Claims.{is_input}
use Rattle.tword.specs.Touches.{byte_span}
use Rattle.tword.proofs.Hiding.{get_or-hiding_from}
use Rattle.tproc.specs.Machine.{Machine, claims_of}
use Rattle.tproc.specs.Hidden.{hidden}

-- the cell at a place
cell_at : (s : Store) (i : ℕ) → option_and_then (λ cell. cell) (slice_get s i) ≡ get_or s i None
cell_at s i = by (cases_lt i (length s))
  where
    by : (i < length s) ⊎ (length s ≤ i) → option_and_then (λ cell. cell) (slice_get s i) ≡ get_or s i None
    by (inl l) = rw (slice_get-get_or s i None l) refl
    by (inr l) = rw (slice_get_past s i l, get_or_past s i None l) refl

module _ (m : Machine) (a : ℕ) where
  -- the cell of an address
  cell : most_neg ≤ a
      → get_or (hidden m).store (place a) None
      ≡ (if is_input (claims_of m.control) (byte_span a) then None else get_or m.store (place a) None)
  cell l =
      let there : most_neg + place a ≡ a = omega (arith, l) in
      get_or-hiding_from (λ a. is_input (claims_of m.control) (byte_span a)) most_neg m.store (place a) ∙ rw there refl

  -- a byte that a pending input claims is not seen
  pub byte_unseen : is_input (claims_of m.control) (byte_span a) ≡ true → byte_at (hidden m).store a ≡ None
  byte_unseen claimed = by (cases_lt a most_neg)
    where
      by : (a < most_neg) ⊎ (most_neg ≤ a) → byte_at (hidden m).store a ≡ None
      by (inl l) = rw (lt-ltb a most_neg l) refl
      by (inr l) =
          let low : nat_lt a most_neg ≡ false = le-ltb a most_neg l in
          rw (low, cell_at (hidden m).store (place a), cell l, claimed) refl

  -- any other is seen as it is
  pub byte_kept : is_input (claims_of m.control) (byte_span a) ≡ false → byte_at (hidden m).store a ≡ byte_at m.store a
  byte_kept free = by (cases_lt a most_neg)
    where
      by : (a < most_neg) ⊎ (most_neg ≤ a) → byte_at (hidden m).store a ≡ byte_at m.store a
      by (inl l) = rw (lt-ltb a most_neg l) refl
      by (inr l) =
          let low : nat_lt a most_neg ≡ false = le-ltb a most_neg l in
          rw (low, cell_at (hidden m).store (place a), cell_at m.store (place a), cell l, free) refl
