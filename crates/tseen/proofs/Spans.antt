-- A span of which each word may be touched may be touched itself: a claim that shares a byte with it shares one with a
-- word of it.
use Rattle.std.proofs.Common.{◌≡◌, ℕ, ◌+◌, ◌-◌, ◌*◌, ◌<◌, ◌≤◌, ◌/◌, ◌%◌, refl, sym, subst, List, Bool, true, false}
use Rattle.std.proofs.Common.{cond, not, Option, Some, None, ◌⊎◌, inl, inr, arith, get_or, length}
use Rattle.std.specs.List.{list_any}
use Rattle.std.proofs.lemmas.Bool.{both_ways, ne_eqb, or_parts, cases_lt}
use Rattle.std.proofs.lemmas.List.Folds.{Any-from_list_any, list_any_at}
use Rattle.tword.specs.declared.breaks.Break.TheVariants.{BadAddress, Reserved, Unaligned, InTransit, SavedWord}
use Rattle.tword.specs.declared.span.Span.{Span}
use Rattle.tword.specs.Words.{most_neg}
use Rattle.tword.specs.Stores.{place}
use Rattle.tword.specs.Claims.{Claims, overlap, overlaps_claim, is_input, is_output, is_saved, saved_words}
use Rattle.tword.specs.Touches.{Mode, Reads, Writes, is_aligned, is_inside, is_open, claim_break}
use Rattle.tword.specs.Touches.{span_break, word_break, word_span, place_break, word_place_break}
use Rattle.tword.proofs.Hiding.{overlap-parts, overlap-from}
use Rattle.tword.proofs.Passing.{inside_bounds}
use Rattle.tprocesses.specs.Touching.{word_number, word_count}

-- the word of this number
abbrev pub word_of_number : ℕ → Span
word_of_number k = word_span (most_neg + 4 * k)

-- a word of a span
pub record IsWordOf (span : Span) (k : ℕ) : Type 0 where
  pub from : word_number span.start ≤ k
  pub to : k < word_number span.start + word_count span

-- a byte of a span lies in a word of it
byte_in : (span : Span) (b : ℕ) → most_neg ≤ span.start → span.start ≤ b → b < span.start + span.size
    → IsWordOf span ((b - most_neg) / 4)
byte_in span b above low high =
    let many : word_count span ≡ (place span.start % 4 + span.size + 3) / 4 =
    rw (ne_eqb span.size 0 (λ z. omega (arith, z))) refl in
    record { from = omega arith; to = omega (arith, many) }

-- a span that is not empty lies above the least address
abbrev pub IsAbove : Span → Type 0
IsAbove span = 0 < span.size → most_neg ≤ span.start

-- what shares a byte with a span shares one with a word of it
shared_word : (span c : Span) → IsAbove span → overlap span c ≡ true
    → (k : ℕ) × IsWordOf span k × (overlap (word_of_number k) c ≡ true)
shared_word span c above h =
    let o : (0 < span.size) × (0 < c.size) × (span.start < c.start + c.size) × (c.start < span.start + span.size) =
    overlap-parts span c h in
    by o (above o.0) (cases_lt span.start c.start)
  where
    by : (0 < span.size) × (0 < c.size) × (span.start < c.start + c.size) × (c.start < span.start + span.size)
        → most_neg ≤ span.start → (span.start < c.start) ⊎ (c.start ≤ span.start)
        → (k : ℕ) × IsWordOf span k × (overlap (word_of_number k) c ≡ true)
    by o up (inl e) = (
      (c.start - most_neg) / 4,
      byte_in span c.start up (omega arith) o.3,
      overlap-from (word_of_number ((c.start - most_neg) / 4)) c (omega arith) o.1 (omega (arith, o.1))
          (omega arith),
    )
    by o up (inr e) = (
      (span.start - most_neg) / 4,
      byte_in span span.start up (omega arith) (omega (arith, o.0)),
      overlap-from (word_of_number ((span.start - most_neg) / 4)) c (omega arith) o.1 (omega (arith, o.2))
          (omega arith),
    )

-- the same holds for lists of claims
no_claim : (span : Span) (claims : List (Option Span)) → IsAbove span
    → ((k : ℕ) → IsWordOf span k → list_any (overlaps_claim (word_of_number k)) claims ≡ false)
    → list_any (overlaps_claim span) claims ≡ false
no_claim span claims above each = by (list_any (overlaps_claim span) claims) refl
  where
    with_claim : (i : ℕ) (d : Option Span) → i < length claims → (c : Option Span) → get_or claims i d ≡ c
        → overlaps_claim span c ≡ true → ⊥
    with_claim i d inside None is e = cc
    with_claim i d inside (Some c) is e =
        let w : (k : ℕ) × IsWordOf span k × (overlap (word_of_number k) c ≡ true) = shared_word span c above e in
        both_ways _ (each w.0 w.1)
        (list_any_at (overlaps_claim (word_of_number w.0)) claims i d inside
        (subst (λ x. overlaps_claim (word_of_number w.0) x ≡ true) (sym is) w.2))

    by : (t : Bool) → list_any (overlaps_claim span) claims ≡ t → list_any (overlaps_claim span) claims ≡ false
    by false e = e
    by true e =
        let a = Any-from_list_any (overlaps_claim span) claims e in
        absurd (with_claim a.0 a.1 a.2 a.1 a.3 a.4)

no_saved : (span : Span) (saved : List ℕ) → IsAbove span
    → ((k : ℕ) → IsWordOf span k → list_any (λ w. overlap (word_of_number k) (saved_words w)) saved ≡ false)
    → list_any (λ w. overlap span (saved_words w)) saved ≡ false
no_saved span saved above each = by (list_any (λ w. overlap span (saved_words w)) saved) refl
  where
    by : (t : Bool) → list_any (λ w. overlap span (saved_words w)) saved ≡ t
        → list_any (λ w. overlap span (saved_words w)) saved ≡ false
    by false e = e
    by true e =
        let a = Any-from_list_any (λ w. overlap span (saved_words w)) saved e in
        let w : (k : ℕ) × IsWordOf span k × (overlap (word_of_number k) (saved_words a.1) ≡ true) =
        shared_word span (saved_words a.1) above a.4 in
        absurd (both_ways _ (each w.0 w.1)
        (list_any_at (λ v. overlap (word_of_number w.0) (saved_words v)) saved a.0 a.1 a.2
        (subst (λ v. overlap (word_of_number w.0) (saved_words v) ≡ true) (sym a.3) w.2)))

-- what a claim's break tells that is none
pub claim_parts : (moving saved : Bool) → cond moving (Some InTransit) (cond saved (Some SavedWord) None) ≡ None
    → (moving ≡ false) × (saved ≡ false)
claim_parts false false h = (refl, refl)
claim_parts true saved h = cc
claim_parts false true h = cc

-- a span of which no word is claimed is not claimed
pub span_clear : (claims : Claims) (mode : Mode) (span : Span) → IsAbove span
    → ((k : ℕ) → IsWordOf span k → claim_break claims mode (word_of_number k) ≡ None)
    → claim_break claims mode span ≡ None
span_clear claims mode span above each = by mode each
  where
    unsaved : (mode : Mode) → ((k : ℕ) → IsWordOf span k → claim_break claims mode (word_of_number k) ≡ None)
        → is_saved claims span ≡ false
    unsaved mode each = no_saved span claims.saved above (λ k w. (claim_parts _ _ (each k w)).1)

    by : (mode : Mode) → ((k : ℕ) → IsWordOf span k → claim_break claims mode (word_of_number k) ≡ None)
        → claim_break claims mode span ≡ None
    by Reads each =
        let still : is_input claims span ≡ false =
        no_claim span claims.inputs above (λ k w. (claim_parts _ _ (each k w)).0) in
        let free : is_saved claims span ≡ false = unsaved Reads each in
        rw (still, free) refl
    by Writes each =
        let still : is_input claims span ≡ false =
        no_claim span claims.inputs above (λ k w. (or_parts _ _ (claim_parts _ _ (each k w)).0).0) in
        let unsent : is_output claims span ≡ false =
        no_claim span claims.outputs above (λ k w. (or_parts _ _ (claim_parts _ _ (each k w)).0).1) in
        let free : is_saved claims span ≡ false = unsaved Writes each in
        rw (still, unsent, free) refl

-- where a span lies
place_parts : (inside free : Bool)
    → cond (not inside) (Some BadAddress) (cond (not free) (Some Reserved) None) ≡ None
    → (inside ≡ true) × (free ≡ true)
place_parts true true h = (refl, refl)
place_parts false free h = cc
place_parts true false h = cc

pub placed_span : (size : ℕ) (span : Span) → place_break size span ≡ None
    → (is_inside size span ≡ true) × (is_open span ≡ true)
placed_span size span h = place_parts (is_inside size span) (is_open span) h

-- a span that lies right and is not claimed may be touched
pub touchable : (size : ℕ) (claims : Claims) (mode : Mode) (span : Span) → place_break size span ≡ None
    → claim_break claims mode span ≡ None → span_break size claims mode span ≡ None
unfolding span_break
touchable size claims mode span placed clear =
    let p : (is_inside size span ≡ true) × (is_open span ≡ true) = placed_span size span placed in rw (p.0, p.1) clear

-- it lies above the least address
pub placed_above : (size : ℕ) (span : Span) → place_break size span ≡ None → IsAbove span
placed_above size span h more = by (inside_bounds size span (placed_span size span h).0)
  where
    by : (span.size ≡ 0) ⊎ ((most_neg ≤ span.start) × (span.start - most_neg + span.size ≤ size))
        → most_neg ≤ span.start
    by (inl z) = absurd (omega (arith, z, more))
    by (inr b) = b.0

-- a word at a multiple of 4
pub word_placed : (size a : ℕ) → word_place_break size a ≡ None
    → (is_aligned a ≡ true) × (place_break size (word_span a) ≡ None)
word_placed size a h = by (is_aligned a) refl h
  where
    by : (b : Bool) → is_aligned a ≡ b → cond (not b) (Some Unaligned) (place_break size (word_span a)) ≡ None
        → (is_aligned a ≡ true) × (place_break size (word_span a) ≡ None)
    by true e k = (e, k)
    by false e k = cc

pub word_touchable : (size : ℕ) (claims : Claims) (mode : Mode) (a : ℕ) → word_place_break size a ≡ None
    → claim_break claims mode (word_span a) ≡ None → word_break size claims mode a ≡ None
unfolding word_break
word_touchable size claims mode a placed clear =
    let p : (is_aligned a ≡ true) × (place_break size (word_span a) ≡ None) = word_placed size a placed in
    rw p.0 (touchable size claims mode (word_span a) p.1 clear)
