-- The lines of a memory, one after another.
use Rattle.std.proofs.Common.{◌≡◌, ℕ, zero, suc, ◌+◌, ◌*◌, ◌-◌, ◌<◌, ◌≤◌, refl, sym, ap, ap₂, ◌∙◌, List, [], ◌∷◌, ◌++◌}
use Rattle.std.proofs.Common.{length, get_or, take, drop, flat_map, min, Bool, true, false, ◌⊎◌, inl, inr, Option, Some}
use Rattle.std.proofs.Common.{None, arith, append-nil}
use Rattle.std.specs.Prelude.{codes, if◌then◌else◌, ◌&&◌, ◌||◌, ◌==◌}
use Rattle.std.specs.List.{list_all, list_any}
use Rattle.std.proofs.Math.ListN.{drop_of_length-le}
use Rattle.std.proofs.lemmas.Bool.{cases_lt}
use Rattle.std.proofs.lemmas.List.{drop-map, take-map, drop-drop, take_all}
use Rattle.std.proofs.lemmas.List.{length-map, length-drop}
use Rattle.tword.specs.declared.span.Span.{Span}
use Rattle.tword.specs.Claims.{overlap, overlaps_claim}
use Rattle.tword.specs.Stores.{Store, as_cells, hiding_from}
use Rattle.tword.specs.Touches.{byte_span}
use Rattle.tword.specs.Words.{most_neg}
use Rattle.tword.proofs.Hiding.{overlap-from, overlap-parts}
use Rattle.tfiles.specs.Texts.{is_pending, is_zero}
use Rattle.tfiles.proofs.DumpLines.{cell_of, cells_next, cells_end, drop-hiding_from, take-hiding_from}
use Rattle.tfiles.proofs.DumpLines.{length-hiding_from, part_of, shown_same}
use Rattle.tjson.specs.Json.{listed_from}
use Rattle.tjson.specs.Runs.{cell_digits, line_object, line_values, lines_values, memory_values}

-- ---- the digits of a line

pub digits_next : (t : ℕ → Bool) (a i : ℕ) (bytes : List ℕ) → i < length bytes
    → flat_map cell_digits (hiding_from t (a + i) (as_cells (drop i bytes)))
    ≡ cell_digits (cell_of t (a + i) (get_or bytes i 0))
    ++ flat_map cell_digits (hiding_from t (a + (i + 1)) (as_cells (drop (i + 1) bytes)))
digits_next t a i bytes l = ap (λ (s : Store). flat_map cell_digits s) (cells_next t a i bytes l)

pub digits_end : (t : ℕ → Bool) (a i : ℕ) (bytes : List ℕ) → length bytes ≤ i
    → flat_map cell_digits (hiding_from t a (as_cells (drop i bytes))) ≡ []
digits_end t a i bytes l = ap (λ (s : Store). flat_map cell_digits s) (cells_end t a i bytes l)

-- ---- lines of zeros

and_false : (a b : Bool) → b ≡ false → (a && b) ≡ false
and_false true b e = e
and_false false b e = refl

or_true : (a b : Bool) → b ≡ true → (a || b) ≡ true
or_true true b e = refl
or_true false b e = e

-- a line with a hidden byte is none
hidden_shows : (t : ℕ → Bool) (a k : ℕ) (cells : Store) → a ≤ k → k < a + length cells → t k ≡ true
    → list_all is_zero (hiding_from t a cells) ≡ false
hidden_shows t a k [] l m h = absurd (omega arith)
hidden_shows t a k (cell ∷ cells) l m h =
    by (cases_lt a k) (λ less. hidden_shows t (suc a) k cells (omega arith) (omega arith) h)
  where
    by : (a < k) ⊎ (k ≤ a) → (a < k → list_all is_zero (hiding_from t (suc a) cells) ≡ false)
        → list_all is_zero (hiding_from t a (cell ∷ cells)) ≡ false
    by (inl less) later = and_false (is_zero (if t a then None else cell)) _ (later less)
    by (inr same) later =
        let here : k ≡ a = omega arith in
        let is : t a ≡ true = ap t (sym here) ∙ h in
        ap (λ (b : Bool). is_zero (if b then None else cell) && list_all is_zero (hiding_from t (suc a) cells)) is

-- a byte of a span that a buffer has, if it has any
record IsCommon (a n : ℕ) (pending : List (Option Span)) : Type 0 where
  at : ℕ
  least : a ≤ at
  below : at < a + n
  hidden : is_pending pending at ≡ true

common_byte : (a n : ℕ) (pending : List (Option Span))
    → list_any (overlaps_claim (record { start = a; size = n })) pending ≡ true → IsCommon a n pending
common_byte a n [] h = cc
common_byte a n (None ∷ ps) h =
    let c = common_byte a n ps h in
    record { at = c.at; least = c.least; below = c.below; hidden = c.hidden }
common_byte a n (Some s ∷ ps) h =
    by (overlap (record { start = a; size = n }) s) refl h (λ f. common_byte a n ps f)
  where
    found : (k : ℕ) → a ≤ k → k < a + n → s.start ≤ k → k < s.start + s.size → IsCommon a n (Some s ∷ ps)
    found k l m l' m' =
        let has : overlap (byte_span k) s ≡ true =
        overlap-from (byte_span k) s (omega arith) (omega arith) (omega arith) (omega arith) in
        record {
          at = k;
          least = l;
          below = m;
          hidden = ap (λ (b : Bool). b || is_pending ps k) has;
        }

    by : (b : Bool) → overlap (record { start = a; size = n }) s ≡ b
        → (b || list_any (overlaps_claim (record { start = a; size = n })) ps) ≡ true
        → (list_any (overlaps_claim (record { start = a; size = n })) ps ≡ true → IsCommon a n ps)
        → IsCommon a n (Some s ∷ ps)
    by false e f rest =
        let c : IsCommon a n ps = rest f in
        record {
          at = c.at;
          least = c.least;
          below = c.below;
          hidden = or_true (overlap (byte_span c.at) s) _ c.hidden;
        }
    by true e f rest =
        let o = overlap-parts (record { start = a; size = n }) s e in
        elim (cases_lt a s.start) [
          | inl l ↦ found s.start (omega arith) (omega (arith, o.3)) (omega arith) (omega (arith, o.1))
          | inr l ↦ found a (omega arith) (omega (arith, o.0)) (omega arith) (omega (arith, o.2))
        ]

-- bytes of which some are hidden are not all zero
pub not_zeros : (pending : List (Option Span)) (a : ℕ) (bytes : List ℕ)
    → list_any (overlaps_claim (record { start = a; size = length bytes })) pending ≡ true
    → false ≡ list_all is_zero (hiding_from (is_pending pending) a (as_cells bytes))
not_zeros pending a bytes e =
    let c = common_byte a (length bytes) pending e in
    let same : length (as_cells bytes) ≡ length bytes = length-map bytes Some in
    sym (hidden_shows (is_pending pending) a c.at (as_cells bytes) c.least (omega (arith, same, c.below)) c.hidden)

-- bytes of which none is
shown_zero : (a : ℕ) (bytes : List ℕ)
    → list_all (λ b. b == 0) bytes ≡ list_all is_zero (hiding_from (is_pending []) a (as_cells bytes))
shown_zero a [] = refl
shown_zero a (b ∷ bytes) = ap (λ (x : Bool). (b == 0) && x) (shown_zero (suc a) bytes)

pub zeros_shown : (pending : List (Option Span)) (a : ℕ) (bytes : List ℕ)
    → list_any (overlaps_claim (record { start = a; size = length bytes })) pending ≡ false
    → list_all (λ b. b == 0) bytes ≡ list_all is_zero (hiding_from (is_pending pending) a (as_cells bytes))
zeros_shown pending a bytes e =
    shown_zero a bytes ∙ ap (λ (cells : Store). list_all is_zero cells) (shown_same pending a bytes e)

-- ---- lines behind lines

-- a line that is left out changes nothing for those behind it; behind any other no line is the first
pub listed_line : (is_first : Bool) (a : ℕ) (cells : Store) (more : List (List ℕ))
    → listed_from is_first (line_values a cells ++ more)
    ≡ listed_from is_first (line_values a cells) ++ listed_from (is_first && list_all is_zero cells) more
listed_line is_first a cells more = by is_first (list_all is_zero cells)
  where
    by : (f z : Bool)
        → listed_from f ((if z then [] else line_object a cells ∷ []) ++ more)
        ≡ listed_from f (if z then [] else line_object a cells ∷ []) ++ listed_from (f && z) more
    by true true = refl
    by false true = refl
    by true false = ap (λ (text : List ℕ). text ++ listed_from false more) (sym (append-nil (line_object a cells)))
    by false false =
        ap (λ (text : List ℕ). (codes ", " ++ text) ++ listed_from false more) (sym (append-nil (line_object a cells)))

-- no cells, no lines
lines_none : (n a : ℕ) → lines_values n a [] ≡ []
lines_none zero a = refl
lines_none (suc n) a = lines_none n (a + 16)

-- bytes have as many cells, hidden or not
length-cells : (t : ℕ → Bool) (a : ℕ) (bytes : List ℕ) → length (hiding_from t a (as_cells bytes)) ≡ length bytes
length-cells t a bytes = length-hiding_from t a (as_cells bytes) ∙ length-map bytes Some

-- the lines of cells from an address on, from one of them on
abbrev pub values_from : ℕ → ℕ → Store → List (List ℕ)
values_from a k cells = lines_values (length cells - k) (a + 16 * k) (drop (16 * k) cells)

-- the line of some bytes
abbrev pub value_of : (ℕ → Bool) → ℕ → ℕ → List ℕ → List (List ℕ)
value_of t a k bytes = line_values (a + 16 * k) (hiding_from t (a + 16 * k) (as_cells (part_of 16 (16 * k) bytes)))

part_taken : (s : ℕ) (bytes : List ℕ) → part_of 16 s bytes ≡ take 16 (drop s bytes)
part_taken s bytes = by (cases_lt (length bytes) (s + 16))
  where
    by : (length bytes < s + 16) ⊎ (s + 16 ≤ length bytes) → part_of 16 s bytes ≡ take 16 (drop s bytes)
    by (inl l) =
        let e : length (drop s bytes) ≡ length bytes - s = length-drop s bytes in
        take_all (min (length bytes) (s + 16) - s) (drop s bytes) (omega (arith, e))
        ∙ sym (take_all 16 (drop s bytes) (omega (arith, e)))
    by (inr l) =
        let e : min (length bytes) (s + 16) - s ≡ 16 = omega arith in ap (λ (n : ℕ). take n (drop s bytes)) e

-- the cells of such bytes
cells_taken : (t : ℕ → Bool) (a s : ℕ) (bytes : List ℕ)
    → take 16 (drop s (hiding_from t a (as_cells bytes))) ≡ hiding_from t (a + s) (as_cells (part_of 16 s bytes))
cells_taken t a s bytes =
    ap (λ (cells : Store). take 16 cells) (drop-hiding_from t s a (as_cells bytes))
    ∙ take-hiding_from t 16 (a + s) (drop s (as_cells bytes))
    ∙ ap (λ (cells : Store). hiding_from t (a + s) (take 16 cells)) (drop-map Some s bytes)
    ∙ ap (λ (cells : Store). hiding_from t (a + s) cells) (take-map Some 16 (drop s bytes))
    ∙ ap (λ (part : List ℕ). hiding_from t (a + s) (as_cells part)) (sym (part_taken s bytes))

pub values_begin : (store : Store) → memory_values store ≡ values_from most_neg 0 store
values_begin store = ap (λ (n : ℕ). lines_values n most_neg store) (omega arith)

pub values_next : (t : ℕ → Bool) (a k : ℕ) (bytes : List ℕ) → 16 * k < length bytes
    → values_from a k (hiding_from t a (as_cells bytes))
    ≡ value_of t a k bytes ++ values_from a (k + 1) (hiding_from t a (as_cells bytes))
values_next t a k bytes l =
    let cells : Store = hiding_from t a (as_cells bytes) in
    let size : length cells ≡ length bytes = length-cells t a bytes in
    let fuel : length cells - k ≡ suc (length cells - (k + 1)) = omega (arith, size) in
    let address : a + 16 * k + 16 ≡ a + 16 * (k + 1) = omega arith in
    let place : 16 * k + 16 ≡ 16 * (k + 1) = omega arith in
    ap (λ (n : ℕ). lines_values n (a + 16 * k) (drop (16 * k) cells)) fuel
    ∙ ap₂ (λ (s : Store) (rest : Store). line_values (a + 16 * k) s
    ++ lines_values (length cells - (k + 1)) (a + 16 * k + 16) rest) (cells_taken t a (16 * k) bytes)
    (drop-drop 16 (16 * k) cells)
    ∙ ap₂ (λ (b n : ℕ). value_of t a k bytes ++ lines_values (length cells - (k + 1)) b (drop n cells)) address place

pub values_end : (t : ℕ → Bool) (a k : ℕ) (bytes : List ℕ) → length bytes ≤ 16 * k
    → values_from a k (hiding_from t a (as_cells bytes)) ≡ []
values_end t a k bytes l =
    let cells : Store = hiding_from t a (as_cells bytes) in
    let size : length cells ≡ length bytes = length-cells t a bytes in
    ap (λ (s : Store). lines_values (length cells - k) (a + 16 * k) s) (drop_of_length-le cells (omega (arith, size)))
    ∙ lines_none (length cells - k) (a + 16 * k)
