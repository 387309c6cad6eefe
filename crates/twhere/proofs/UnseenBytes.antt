-- What is read of a processor for the text is the same where the buffers of its pending inputs are hidden.
use Rattle.std.proofs.Common.{◌≡◌, ℕ, ◌+◌, ◌^◌, ◌<◌, ◌≤◌, refl, ap, List, length, get_or, Bool, true, false}
use Rattle.std.proofs.Common.{Result, Ok, Err, Option, None, ◌⊎◌, inl, inr, arith, ◌∙◌}
use Rattle.std.specs.Prelude.{nat_lt, option_and_then, slice_get}
use Rattle.std.proofs.lemmas.Bool.{cases_lt, lt-ltb, le-ltb}
use Rattle.std.proofs.lemmas.List.{get_or_past}
use Rattle.std.proofs.lemmas.Option.{slice_get-get_or, slice_get_past}
use Rattle.std.specs.List.{list_any}
use Rattle.tword.specs.declared.breaks.Break.{Break}
use Rattle.tword.specs.declared.span.Span.{Span}
use Rattle.tword.specs.Words.{most_neg, plus, word_below}
use Rattle.tword.specs.Stores.{Store, place}
use Rattle.tword.specs.Claims.{AreApart, has_saved, is_input, overlaps_claim}
use Rattle.tword.specs.Touches.{byte_span, word_span}
use Rattle.tword.specs.Actions.{value_of}
use Rattle.tword.proofs.Hiding.{Agree, covers, get_or-hiding_from, hiding-agrees, within_uncovered}
use Rattle.tword.proofs.Masking.{Matches, run_from-matches}
use Rattle.tword.proofs.Blind.{IsKept, is_masking}
use Rattle.tcode.specs.Decoding.{decode}
use Rattle.tproc.specs.Machine.{Machine, claims_of, workspace_of}
use Rattle.tproc.specs.Queues.{iptr_word}
use Rattle.tproc.specs.Placement.{IsClaimed}
use Rattle.tproc.specs.Hidden.{hidden}
use Rattle.tproc.proofs.Untouched.{kept}
use Rattle.twhere.specs.Standing.{byte_there, fetched_at, saved_iptr, word_there}

-- runs that match answer the same
value_same : {A : Type 0} (R : Store → Store → Type 0) (x y : Result (A × Store) Break) → Matches R x y
    → value_of x ≡ value_of y
value_same R (Ok (a, s)) (Ok (b, t)) h = ap Ok h.0
value_same R (Err b) (Err c) h = ap Err h
value_same R (Ok x) (Err c) h = absurd h
value_same R (Err b) (Ok y) h = absurd h

-- the cell at a place
cell_at : (s : Store) (i : ℕ) → option_and_then (λ cell. cell) (slice_get s i) ≡ get_or s i None
cell_at s i = by (cases_lt i (length s))
  where
    by : (i < length s) ⊎ (length s ≤ i) → option_and_then (λ cell. cell) (slice_get s i) ≡ get_or s i None
    by (inl l) = rw (slice_get-get_or s i None l) refl
    by (inr l) = rw (slice_get_past s i l, get_or_past s i None l) refl

module _ (n : Machine) (claimed : IsClaimed n) (apart : AreApart (claims_of n.control)) where
  inputs : List (Option Span)
  inputs = (claims_of n.control).inputs

  -- what a fetch answers
  pub fetched_same : (iptr : ℕ) → fetched_at (hidden n) iptr ≡ fetched_at n iptr
  fetched_same iptr =
      value_same (Agree (claims_of n.control).inputs) _ _
      (run_from-matches (IsKept (claims_of n.control).inputs) (Agree (claims_of n.control).inputs)
      (is_masking (claims_of n.control).inputs) (decode n.control.kind iptr)
      (hidden n).store n.store (hidden n).store n.store (claims_of n.control) agree agree (kept n claimed apart))
    where
      agree : Agree (claims_of n.control).inputs (hidden n).store n.store
      agree = hiding-agrees (claims_of n.control).inputs (λ a. is_input (claims_of n.control) (byte_span a)) n.store
          (λ a h. h)

  -- a byte that no pending input claims, or that lies below the memory
  byte_same : (a : ℕ) → (a < most_neg) ⊎ (covers (claims_of n.control).inputs a ≡ false)
      → byte_there (hidden n).store a ≡ byte_there n.store a
  byte_same a h = by (cases_lt a most_neg) h
    where
      test : ℕ → Bool
      test a = is_input (claims_of n.control) (byte_span a)

      by : (a < most_neg) ⊎ (most_neg ≤ a) → (a < most_neg) ⊎ (covers (claims_of n.control).inputs a ≡ false)
          → byte_there (hidden n).store a ≡ byte_there n.store a
      by (inl l) h = rw (lt-ltb a most_neg l) refl
      by (inr l) (inl m) = absurd (omega (arith, l, m))
      by (inr l) (inr free) =
          let there : most_neg + place a ≡ a = omega (arith, l) in
          let low : nat_lt a most_neg ≡ false = le-ltb a most_neg l in
          let cell : get_or (hidden n).store (place a) None ≡ get_or n.store (place a) None =
          get_or-hiding_from test most_neg n.store (place a) ∙ rw (there, free) refl in
          rw (low, cell_at (hidden n).store (place a), cell_at n.store (place a), cell) refl

  -- a byte of a word that no pending input claims
  part_same : (a j : ℕ) → most_neg ≤ a → a < 2 ^ 32 → j < 4
      → list_any (overlaps_claim (word_span a)) (claims_of n.control).inputs ≡ false
      → byte_there (hidden n).store (plus a j) ≡ byte_there n.store (plus a j)
  part_same a j above word below free = byte_same (plus a j) (by (cases_lt (a + j) (2 ^ 32)))
    where
      by : (a + j < 2 ^ 32) ⊎ (2 ^ 32 ≤ a + j)
          → (plus a j < most_neg) ⊎ (covers (claims_of n.control).inputs (plus a j) ≡ false)
      by (inl l) =
          let e : plus a j ≡ a + j = omega (arith, l) in
          inr (rw e (within_uncovered (claims_of n.control).inputs (word_span a) (a + j) (omega arith)
          (omega (arith, below)) free))
      by (inr l) = inl (omega (arith, l, word, below))

  word_same : (a : ℕ) → most_neg ≤ a → a < 2 ^ 32
      → list_any (overlaps_claim (word_span a)) (claims_of n.control).inputs ≡ false
      → word_there (hidden n).store a ≡ word_there n.store a
  word_same a above word free =
      let first : byte_there (hidden n).store a ≡ byte_there n.store a =
      byte_same a (inr (within_uncovered (claims_of n.control).inputs (word_span a) a (omega arith) (omega arith)
      free)) in
      rw (
        first,
        part_same a 1 above word (omega arith) free,
        part_same a 2 above word (omega arith) free,
        part_same a 3 above word (omega arith) free,
      ) refl

  -- the saved Iptr of a process whose words are saved
  pub iptr_same : (process : ℕ) → has_saved (claims_of n.control) (workspace_of process) ≡ true
      → saved_iptr (hidden n) process ≡ saved_iptr n process
  iptr_same process h =
      let k : (most_neg ≤ word_below (workspace_of process) iptr_word)
      × (list_any (overlaps_claim (word_span (word_below (workspace_of process) iptr_word)))
      (claims_of n.control).inputs ≡ false)
      = (kept n claimed apart).saved (workspace_of process) iptr_word h in
      word_same (word_below (workspace_of process) iptr_word) k.0 (omega arith) k.1
