-- What the counts of the words that programs may use tell of a touch.
use Rattle.std.proofs.Common.{◌≡◌, ℕ, ◌+◌, ◌-◌, ◌/◌, ◌%◌, ◌<◌, ◌≤◌, ◌^◌, refl, sym, ◌∙◌, ap, List, length, arith}
use Rattle.std.proofs.Common.{true, false, Option, Some, None, get_or, map}
use Rattle.std.specs.Prelude.{slice_index, slice_get, option_map, nat_le, nat_lt, ◌==◌}
use Rattle.std.proofs.lemmas.Bool.{le-leb, le-ltb}
use Rattle.std.proofs.lemmas.Option.{slice_get-map, slice_get_read}
use Rattle.tword.specs.Stores.{Store, as_cells, byte_at}
use Rattle.tword.specs.Words.{most_neg, mem_start, minus}
use Rattle.tword.specs.Claims.{Claims}
use Rattle.tword.specs.Touches.{Mode, Reads, Writes, span_break, word_break, byte_span, claim_break}
use Rattle.tword.specs.Open.{AreOpenCounts, open_word}
use Rattle.tword.specs.Slots.{IsTally, AreEmpty, lowest_word}
use Rattle.tword.proofs.ClaimTally.{IsApart, all_apart}
use Rattle.tword.specs.declared.span.Span.{Span}

-- where the count of its word is 0, an address lies where programs may use the memory
pub record IsOpenAt (size place start bytes : ℕ) : Type 0 where
  pub at : start ≡ mem_start + place
  pub behind : place + 72 + bytes ≤ size

-- an address whose word is counted lies as far above the first that programs may use as its place says
pub place_open : (counts : List ℕ) (n : ℕ) (claims : Claims) (place start bytes : ℕ) → AreOpenCounts counts n claims
    → place ≡ minus start mem_start → start < 2 ^ 32 → n ≤ 16777216 → place / 4 < length counts
    → place % 4 + bytes ≤ 4 → IsOpenAt n place start bytes
place_open counts n claims place start bytes are e lt most there fits =
    record { at = omega (arith, are.within); behind = omega (arith, are.within) }

-- a touch within a word whose count is 0 passes
pub open_span : (counts : List ℕ) (n : ℕ) (claims : Claims) (mode : Mode) (place start bytes : ℕ)
    → AreOpenCounts counts n claims → IsOpenAt n place start bytes → place / 4 < length counts
    → slice_index counts (place / 4) ≡ 0 → place % 4 + bytes ≤ 4 → (bytes == 0) ≡ false
    → span_break n claims mode (record { start = start; size = bytes }) ≡ None
unfolding span_break
open_span counts n claims mode place start bytes are here there zero fits some =
    let low : nat_le most_neg start ≡ true = le-leb most_neg start (omega (arith, here.at)) in
    let high : nat_le (start - most_neg + bytes) n ≡ true =
    le-leb (start - most_neg + bytes) n (omega (arith, here.at, here.behind)) in
    let above : nat_le mem_start start ≡ true = le-leb mem_start start (omega (arith, here.at)) in
    let free = are.clear (place / 4) start bytes mode there zero (omega (arith, here.at)) (omega (arith, here.at)) in
    rw (some, low, high, above) free

-- so does a touch of the word, where it is a whole one
pub open_whole : (counts : List ℕ) (n : ℕ) (claims : Claims) (mode : Mode) (place start : ℕ)
    → AreOpenCounts counts n claims → place ≡ minus start mem_start → start < 2 ^ 32 → n ≤ 16777216
    → place / 4 < length counts → slice_index counts (place / 4) ≡ 0 → start % 4 ≡ 0
    → word_break n claims mode start ≡ None
unfolding word_break
open_whole counts n claims mode place start are e lt most there zero aligned =
    let fits : place % 4 + 4 ≤ 4 = omega arith in
    rw aligned (open_span counts n claims mode place start 4 are
    (place_open counts n claims place start 4 are e lt most there fits) there zero fits refl)

-- and of one byte of it
pub open_one : (counts : List ℕ) (n : ℕ) (claims : Claims) (mode : Mode) (place start : ℕ)
    → AreOpenCounts counts n claims → place ≡ minus start mem_start → start < 2 ^ 32 → n ≤ 16777216
    → place / 4 < length counts → slice_index counts (place / 4) ≡ 0
    → span_break n claims mode (byte_span start) ≡ None
open_one counts n claims mode place start are e lt most there zero =
    let fits : place % 4 + 1 ≤ 4 = omega arith in
    open_span counts n claims mode place start 1 are
    (place_open counts n claims place start 1 are e lt most there fits) there zero fits refl

-- a byte among the bytes of a memory stands at its address
pub byte_shown : (bytes : List ℕ) (store : Store) (a at b : ℕ) → as_cells bytes ≡ store → a ≡ most_neg + at
    → at < length bytes → b ≡ get_or bytes at b → byte_at store a ≡ Some b
byte_shown bytes store a at b shows e lt read =
    let low : nat_lt a most_neg ≡ false = le-ltb a most_neg (omega (arith, e)) in
    let here : a - most_neg ≡ at = omega (arith, e) in
    let got : slice_get (map Some bytes) at ≡ Some (Some b) =
    slice_get-map Some bytes at ∙ ap (option_map Some) (slice_get_read bytes (length bytes) at b refl lt read) in
    rw (← shows, low, here, got) refl

-- the counts of the words from the first open one on are counts of open words
pub open_counts : (ins outs : List (Option Span)) (ws table counts : List ℕ) (size : ℕ) (claims : Claims)
    → record { inputs = ins; outputs = outs; saved = ws } ≡ claims → IsTally ins outs ws table
    → open_word (length counts) ≤ most_neg + size
    → ((k : ℕ) → k < length counts → (18 + k < length table)
    × (slice_index counts k ≡ slice_index table (18 + k)))
    → AreOpenCounts counts size claims
open_counts ins outs ws table counts size claims shows is within are = record { within = within; clear = clear }
  where
    clear : (slot start bytes : ℕ) (mode : Mode) → slot < length counts → slice_index counts slot ≡ 0
        → open_word slot ≤ start → start + bytes ≤ open_word slot + 4
        → claim_break claims mode (record { start = start; size = bytes }) ≡ None
    clear slot start bytes mode lt zero low high = by mode
      where
        at : (18 + slot < length table) × (slice_index counts slot ≡ slice_index table (18 + slot))
        at = are slot lt

        empty : AreEmpty table (record { start = start; size = bytes })
        empty k p q =
            let here : k ≡ lowest_word + (18 + slot) = omega (arith, p, q, low, high) in
            let there : k - lowest_word ≡ 18 + slot = omega (arith, here) in
            record {
              above = omega (arith, here);
              below = omega (arith, here, at.0);
              is = ap (λ n. slice_index table n) there ∙ sym at.1 ∙ zero;
            }

        apart : IsApart ins outs ws (record { start = start; size = bytes })
        apart = all_apart ins outs ws table start bytes is empty

        by : (mode : Mode) → claim_break claims mode (record { start = start; size = bytes }) ≡ None
        by Reads = rw (← shows, apart.inputs, apart.saved) refl
        by Writes = rw (← shows, apart.inputs, apart.outputs, apart.saved) refl
