-- The lines of a dump, byte by byte and line by line.
use Rattle.std.proofs.Common.{◌≡◌, ℕ, zero, suc, ◌+◌, ◌*◌, ◌-◌, ◌<◌, ◌≤◌, refl, sym, ap, ap₂, ◌∙◌, List, [], ◌∷◌, ◌++◌}
use Rattle.std.proofs.Common.{length, get_or, take, drop, flat_map, min, Bool, true, false, ◌⊎◌, inl, inr, Option, Some}
use Rattle.std.proofs.Common.{None, arith, add-one, append_assoc, drop-cons}
use Rattle.std.specs.Prelude.{codes, if◌then◌else◌, ◌&&◌, ◌||◌, ◌==◌, nat_lt, slice_range}
use Rattle.std.specs.Int.{div_ceil, to_be_bytes, w32}
use Rattle.hex.specs.Hex.{encode_lower}
use Rattle.std.specs.List.{list_all, list_any, sum}
use Rattle.std.proofs.Math.ListN.{drop_of_length-le}
use Rattle.std.proofs.lemmas.Bool.{or_parts, and_parts, eq-eqb, lt-ltb, ltb-true, both_ways, cases_lt}
use Rattle.std.proofs.lemmas.List.Folds.{sum_by-zero}
use Rattle.std.proofs.lemmas.List.{drop-map, take-map, drop-drop, drop-take, take-take, take-append-drop, take_all}
use Rattle.std.proofs.lemmas.List.{length-map, length-drop, length-take}
use Rattle.std.proofs.lemmas.List.Folds.{list_all-append}
use Rattle.tword.specs.declared.span.Span.{Span}
use Rattle.tword.specs.Claims.{overlap, overlaps_claim}
use Rattle.tword.specs.Stores.{Store, as_cells, hiding_from}
use Rattle.tword.specs.Touches.{byte_span}
use Rattle.tword.specs.Words.{most_neg}
use Rattle.tfiles.specs.Logs.{line}
use Rattle.tfiles.specs.Texts.{is_zero, cell_text, is_pending, dump_line, dump_lines, lines_of}

-- the cell of a byte, hidden or not
abbrev pub cell_of : (ℕ → Bool) → ℕ → ℕ → Option ℕ
cell_of t a b = if t a then None else Some b

-- the cells of bytes, from one of them on
pub cells_next : (t : ℕ → Bool) (a i : ℕ) (bytes : List ℕ) → i < length bytes
    → hiding_from t (a + i) (as_cells (drop i bytes)) ≡ cell_of t (a + i) (get_or bytes i 0)
    ∷ hiding_from t (a + (i + 1)) (as_cells (drop (i + 1) bytes))
cells_next t a i bytes l =
    let e : suc (a + i) ≡ a + (i + 1) = omega arith in
    ap (λ (xs : List ℕ). hiding_from t (a + i) (as_cells xs)) (drop-cons bytes i 0 l)
    ∙ ap₂ (λ (b j : ℕ). cell_of t (a + i) (get_or bytes i 0) ∷ hiding_from t b (as_cells (drop j bytes))) e
    (sym (add-one i))

pub cells_end : (t : ℕ → Bool) (a i : ℕ) (bytes : List ℕ) → length bytes ≤ i
    → hiding_from t a (as_cells (drop i bytes)) ≡ []
cells_end t a i bytes l = ap (λ (xs : List ℕ). hiding_from t a (as_cells xs)) (drop_of_length-le bytes l)

pub cells_text_next : (t : ℕ → Bool) (a i : ℕ) (bytes : List ℕ) → i < length bytes
    → flat_map cell_text (hiding_from t (a + i) (as_cells (drop i bytes)))
    ≡ cell_text (cell_of t (a + i) (get_or bytes i 0))
    ++ flat_map cell_text (hiding_from t (a + (i + 1)) (as_cells (drop (i + 1) bytes)))
cells_text_next t a i bytes l = ap (λ (s : Store). flat_map cell_text s) (cells_next t a i bytes l)

pub cells_text_end : (t : ℕ → Bool) (a i : ℕ) (bytes : List ℕ) → length bytes ≤ i
    → flat_map cell_text (hiding_from t a (as_cells (drop i bytes))) ≡ []
cells_text_end t a i bytes l = ap (λ (s : Store). flat_map cell_text s) (cells_end t a i bytes l)

-- cells are hidden by what a test says of their addresses alone
pub hiding_from-same : (s t : ℕ → Bool) (a : ℕ) (cells : Store) → ((k : ℕ) → a ≤ k → k < a + length cells → s k ≡ t k)
    → hiding_from s a cells ≡ hiding_from t a cells
hiding_from-same s t a [] h = refl
hiding_from-same s t a (cell ∷ cells) h =
    let here : s a ≡ t a = h a (omega arith) (omega arith) in
    ap₂ (λ (b : Bool) (rest : Store). (if b then None else cell) ∷ rest) here
    (hiding_from-same s t (suc a) cells (λ k l m. h k (omega arith) (omega arith)))

pub drop-hiding_from : (t : ℕ → Bool) (n a : ℕ) (cells : Store)
    → drop n (hiding_from t a cells) ≡ hiding_from t (a + n) (drop n cells)
drop-hiding_from t zero a cells = ap (λ (b : ℕ). hiding_from t b cells) (omega arith)
drop-hiding_from t (suc n) a [] = refl
drop-hiding_from t (suc n) a (cell ∷ cells) = drop-hiding_from t n (suc a) cells
    ∙ ap (λ (b : ℕ). hiding_from t b (drop n cells)) (omega arith)

pub take-hiding_from : (t : ℕ → Bool) (n a : ℕ) (cells : Store)
    → take n (hiding_from t a cells) ≡ hiding_from t a (take n cells)
take-hiding_from t zero a cells = refl
take-hiding_from t (suc n) a [] = refl
take-hiding_from t (suc n) a (cell ∷ cells) =
    ap (λ (rest : Store). (if t a then None else cell) ∷ rest) (take-hiding_from t n (suc a) cells)

-- no cells, no lines
pub dump_lines-none : (n a : ℕ) → dump_lines n a [] ≡ []
dump_lines-none zero a = refl
dump_lines-none (suc n) a = dump_lines-none n (a + 16)

pub length-hiding_from : (t : ℕ → Bool) (a : ℕ) (cells : Store) → length (hiding_from t a cells) ≡ length cells
length-hiding_from t a [] = refl
length-hiding_from t a (cell ∷ cells) = ap suc (length-hiding_from t (suc a) cells)

-- a byte of a span has nothing in common with what the span has nothing in common with
byte_apart : (a n k : ℕ) (p : Option Span) → a ≤ k → k < a + n
    → overlaps_claim (record { start = a; size = n }) p ≡ false → overlaps_claim (byte_span k) p ≡ false
byte_apart a n k None l m h = refl
byte_apart a n k (Some s) l m h = by (overlap (byte_span k) s) refl
  where
    by : (b : Bool) → overlap (byte_span k) s ≡ b → overlap (byte_span k) s ≡ false
    by false e = e
    by true e =
        let p4 = and_parts (nat_lt 0 1 && nat_lt 0 s.size && nat_lt k (s.start + s.size)) (nat_lt s.start (k + 1)) e in
        let p3 = and_parts (nat_lt 0 1 && nat_lt 0 s.size) (nat_lt k (s.start + s.size)) p4.0 in
        let p2 = and_parts (nat_lt 0 1) (nat_lt 0 s.size) p3.0 in
        let x : k < s.start + s.size = ltb-true k (s.start + s.size) p3.1 in
        let y : s.start < k + 1 = ltb-true s.start (k + 1) p4.1 in
        let h1 : nat_lt 0 n ≡ true = lt-ltb 0 n (omega arith) in
        let h2 : nat_lt 0 s.size ≡ true = p2.1 in
        let h3 : nat_lt a (s.start + s.size) ≡ true = lt-ltb a (s.start + s.size) (omega arith) in
        let h4 : nat_lt s.start (a + n) ≡ true = lt-ltb s.start (a + n) (omega arith) in
        let t : overlap (record { start = a; size = n }) s ≡ true = grind (arith, h1, h2, h3, h4) in
        absurd (both_ways (overlap (record { start = a; size = n }) s) h t)

none_pending : (a n k : ℕ) (pending : List (Option Span)) → a ≤ k → k < a + n
    → list_any (overlaps_claim (record { start = a; size = n })) pending ≡ false → is_pending pending k ≡ false
none_pending a n k [] l m h = refl
none_pending a n k (p ∷ ps) l m h =
    let parts = or_parts (overlaps_claim (record { start = a; size = n }) p)
    (list_any (overlaps_claim (record { start = a; size = n })) ps) h in
    ap₂ (λ (x y : Bool). x || y) (byte_apart a n k p l m parts.0) (none_pending a n k ps l m parts.1)

-- where no pending input has a byte of the line, its cells are as if none were pending
pub shown_same : (pending : List (Option Span)) (a : ℕ) (bytes : List ℕ)
    → list_any (overlaps_claim (record { start = a; size = length bytes })) pending ≡ false
    → hiding_from (is_pending []) a (as_cells bytes) ≡ hiding_from (is_pending pending) a (as_cells bytes)
shown_same pending a bytes h =
    let same : length (as_cells bytes) ≡ length bytes = length-map bytes Some in
    hiding_from-same (is_pending []) (is_pending pending) a (as_cells bytes)
    (λ k l m. sym (none_pending a (length bytes) k pending l (omega (arith, same)) h))

-- a line of zeros is left out
pub line_left_out : (a : ℕ) (cells : Store) → true ≡ list_all is_zero cells → [] ≡ dump_line a cells
line_left_out a cells e =
    ap (λ (z : Bool). if z then [] else line
    (encode_lower (to_be_bytes w32 a) ++ (codes ":" ++ flat_map cell_text cells))) e

-- bytes that come to nothing are zeros
cells_zero : (bytes : List ℕ) → list_all is_zero (as_cells bytes) ≡ list_all (λ b. b == 0) bytes
cells_zero [] = refl
cells_zero (b ∷ bytes) = ap (λ (x : Bool). (b == 0) && x) (cells_zero bytes)

none_summed : (bytes : List ℕ) → sum bytes ≡ 0 → list_all is_zero (as_cells bytes) ≡ true
none_summed bytes h = cells_zero bytes ∙ sym (sum_by-zero (λ b. b) bytes) ∙ eq-eqb (sum bytes) 0 h

-- so a line of them is left out, where no pending input has a byte of it
none_hidden : (a : ℕ) (cells : Store) → hiding_from (is_pending []) a cells ≡ cells
none_hidden a [] = refl
none_hidden a (cell ∷ cells) = ap (λ (s : Store). cell ∷ s) (none_hidden (suc a) cells)

pub zeros_left_out : (pending : List (Option Span)) (a : ℕ) (bytes : List ℕ) → sum bytes ≡ 0
    → list_any (overlaps_claim (record { start = a; size = length bytes })) pending ≡ false
    → [] ≡ dump_line a (hiding_from (is_pending pending) a (as_cells bytes))
zeros_left_out pending a bytes none apart =
    line_left_out a (as_cells bytes) (sym (none_summed bytes none))
    ∙ ap (λ (cells : Store). dump_line a cells) (sym (none_hidden a (as_cells bytes))
    ∙ shown_same pending a bytes apart)

-- any other is not
pub line_shown : (a : ℕ) (cells : Store) → false ≡ list_all is_zero cells
    → line (encode_lower (to_be_bytes w32 a) ++ (codes ":" ++ flat_map cell_text cells)) ≡ dump_line a cells
line_shown a cells e =
    ap (λ (z : Bool). if z then [] else line
    (encode_lower (to_be_bytes w32 a) ++ (codes ":" ++ flat_map cell_text cells))) e

-- the lines of cells from an address on, from one of them on
abbrev pub lines_from : ℕ → ℕ → Store → List ℕ
lines_from a k cells = dump_lines (length cells - k) (a + 16 * k) (drop (16 * k) cells)

-- bytes have as many cells, hidden or not
length-cells : (t : ℕ → Bool) (a : ℕ) (bytes : List ℕ) → length (hiding_from t a (as_cells bytes)) ≡ length bytes
length-cells t a bytes = length-hiding_from t a (as_cells bytes) ∙ length-map bytes Some

pub lines_begin : (t : ℕ → Bool) (a : ℕ) (bytes : List ℕ)
    → dump_lines (length bytes) a (hiding_from t a (as_cells bytes)) ≡ lines_from a 0 (hiding_from t a (as_cells bytes))
lines_begin t a bytes =
    let size : length (hiding_from t a (as_cells bytes)) ≡ length bytes = length-cells t a bytes in
    ap₂ (λ (n b : ℕ). dump_lines n b (hiding_from t a (as_cells bytes))) (omega (arith, size)) (omega arith)

-- some bytes out of more, from a place on
abbrev pub part_of : ℕ → ℕ → List ℕ → List ℕ
part_of size s bytes = slice_range bytes s (min (length bytes) (s + size))

-- a line of bytes
abbrev pub line_of : (ℕ → Bool) → ℕ → ℕ → List ℕ → List ℕ
line_of t a k bytes =
    dump_line (a + 16 * k) (hiding_from t (a + 16 * k) (as_cells (part_of 16 (16 * k) bytes)))

pub is_within : (n k lines : ℕ) → lines ≡ div_ceil n 16 → k < lines → 16 * k < n
is_within n k lines e l = grind (arith, e)

pub is_behind : (n k lines : ℕ) → lines ≡ div_ceil n 16 → lines ≤ k → n ≤ 16 * k
is_behind n k lines e l = grind (arith, e)

part_taken : (size s : ℕ) (bytes : List ℕ) → part_of size s bytes ≡ take size (drop s bytes)
part_taken size s bytes = by (cases_lt (length bytes) (s + size))
  where
    by : (length bytes < s + size) ⊎ (s + size ≤ length bytes) → part_of size s bytes ≡ take size (drop s bytes)
    by (inl l) =
        let e : length (drop s bytes) ≡ length bytes - s = length-drop s bytes in
        take_all (min (length bytes) (s + size) - s) (drop s bytes) (omega (arith, e))
        ∙ sym (take_all size (drop s bytes) (omega (arith, e)))
    by (inr l) =
        let e : min (length bytes) (s + size) - s ≡ size = omega arith in ap (λ (n : ℕ). take n (drop s bytes)) e

-- the cells of such a part
cells_taken : (t : ℕ → Bool) (size a s : ℕ) (bytes : List ℕ)
    → take size (drop s (hiding_from t a (as_cells bytes))) ≡ hiding_from t (a + s) (as_cells (part_of size s bytes))
cells_taken t size a s bytes =
    ap (λ (cells : Store). take size cells) (drop-hiding_from t s a (as_cells bytes))
    ∙ take-hiding_from t size (a + s) (drop s (as_cells bytes))
    ∙ ap (λ (cells : Store). hiding_from t (a + s) (take size cells)) (drop-map Some s bytes)
    ∙ ap (λ (cells : Store). hiding_from t (a + s) cells) (take-map Some size (drop s bytes))
    ∙ ap (λ (part : List ℕ). hiding_from t (a + s) (as_cells part)) (sym (part_taken size s bytes))

pub lines_next : (t : ℕ → Bool) (a k : ℕ) (bytes : List ℕ) → 16 * k < length bytes
    → lines_from a k (hiding_from t a (as_cells bytes)) ≡ line_of t a k bytes
    ++ lines_from a (k + 1) (hiding_from t a (as_cells bytes))
lines_next t a k bytes l =
    let cells : Store = hiding_from t a (as_cells bytes) in
    let size : length cells ≡ length bytes = length-cells t a bytes in
    let fuel : length cells - k ≡ suc (length cells - (k + 1)) = omega (arith, size) in
    let address : a + 16 * k + 16 ≡ a + 16 * (k + 1) = omega arith in
    let place : 16 * k + 16 ≡ 16 * (k + 1) = omega arith in
    ap (λ (n : ℕ). dump_lines n (a + 16 * k) (drop (16 * k) cells)) fuel
    ∙ ap₂ (λ (s : Store) (rest : Store). dump_line (a + 16 * k) s
    ++ dump_lines (length cells - (k + 1)) (a + 16 * k + 16) rest) (cells_taken t 16 a (16 * k) bytes)
    (drop-drop 16 (16 * k) cells)
    ∙ ap₂ (λ (b n : ℕ). line_of t a k bytes ++ dump_lines (length cells - (k + 1)) b (drop n cells)) address place

pub lines_end : (t : ℕ → Bool) (a k : ℕ) (bytes : List ℕ) → length bytes ≤ 16 * k
    → lines_from a k (hiding_from t a (as_cells bytes)) ≡ []
lines_end t a k bytes l =
    let cells : Store = hiding_from t a (as_cells bytes) in
    let size : length cells ≡ length bytes = length-cells t a bytes in
    ap (λ (s : Store). dump_lines (length cells - k) (a + 16 * k) s) (drop_of_length-le cells (omega (arith, size)))
    ∙ dump_lines-none (length cells - k) (a + 16 * k)

-- more lines than there are change nothing
lines_enough : (n m a : ℕ) (cells : Store) → length cells ≤ 16 * n → length cells ≤ 16 * m
    → dump_lines n a cells ≡ dump_lines m a cells
lines_enough n m a [] few few' = dump_lines-none n a ∙ sym (dump_lines-none m a)
lines_enough zero m a (cell ∷ cells) few few' = absurd (omega (arith, few))
lines_enough (suc n) zero a (cell ∷ cells) few few' = absurd (omega (arith, few'))
lines_enough (suc n) (suc m) a (cell ∷ cells) few few' =
    let left : length (drop 16 (cell ∷ cells)) ≡ length (cell ∷ cells) - 16 = length-drop 16 (cell ∷ cells) in
    ap (λ (rest : List ℕ). dump_line a (take 16 (cell ∷ cells)) ++ rest)
    (lines_enough n m (a + 16) (drop 16 (cell ∷ cells)) (omega (arith, left, few)) (omega (arith, left, few')))

-- some lines, and those behind them
lines_split : (k n a : ℕ) (cells : Store)
    → dump_lines (n + k) a cells ≡ dump_lines k a (take (16 * k) cells)
    ++ dump_lines n (a + 16 * k) (drop (16 * k) cells)
lines_split zero n a cells = ap₂ (λ (m b : ℕ). dump_lines m b cells) (omega arith) (omega arith)
lines_split (suc k) n a cells =
    let all : Store = take (16 * suc k) cells in
    let first : take 16 all ≡ take 16 cells = take-take 16 (16 * suc k) cells (omega arith) in
    let rest : drop 16 all ≡ take (16 * k) (drop 16 cells) =
    ap (λ (j : ℕ). drop 16 (take j cells)) (omega arith) ∙ drop-take 16 (16 * k) cells in
    let behind : drop (16 * k) (drop 16 cells) ≡ drop (16 * suc k) cells =
    drop-drop (16 * k) 16 cells ∙ ap (λ (j : ℕ). drop j cells) (omega arith) in
    let more : n + suc k ≡ suc (n + k) = omega arith in
    ap (λ (m : ℕ). dump_lines m a cells) more
    ∙ ap (λ (lines : List ℕ). dump_line a (take 16 cells) ++ lines) (lines_split k n (a + 16) (drop 16 cells))
    ∙ sym (append_assoc (dump_line a (take 16 cells)) (dump_lines k (a + 16) (take (16 * k) (drop 16 cells)))
    (dump_lines n (a + 16 + 16 * k) (drop (16 * k) (drop 16 cells))))
    ∙ ap₂ (λ (lines : List ℕ) (s : Store). lines ++ dump_lines n (a + 16 + 16 * k) s)
    (ap₂ (λ (s r : Store). dump_line a s ++ dump_lines k (a + 16) r) (sym first) (sym rest)) behind
    ∙ ap (λ (b : ℕ). dump_lines (suc k) a all ++ dump_lines n b (drop (16 * suc k) cells)) (omega arith)

-- cells that are all zero have no line
lines_blank : (n a : ℕ) (cells : Store) → list_all is_zero cells ≡ true → dump_lines n a cells ≡ []
lines_blank zero a cells none = refl
lines_blank (suc n) a cells none =
    let both : (list_all is_zero (take 16 cells) && list_all is_zero (drop 16 cells)) ≡ true =
    sym (list_all-append is_zero (take 16 cells) (drop 16 cells))
    ∙ ap (λ (s : Store). list_all is_zero s) (take-append-drop 16 cells) ∙ none in
    let parts = and_parts (list_all is_zero (take 16 cells)) (list_all is_zero (drop 16 cells)) both in
    ap₂ (λ (x y : List ℕ). x ++ y) (sym (line_left_out a (take 16 cells) (sym parts.0)))
    (lines_blank n (a + 16) (drop 16 cells) parts.1)

-- nor have bytes that come to nothing, where no pending input has one of them
pub block_left_out : (pending : List (Option Span)) (n a : ℕ) (bytes : List ℕ) → sum bytes ≡ 0
    → list_any (overlaps_claim (record { start = a; size = length bytes })) pending ≡ false
    → [] ≡ dump_lines n a (hiding_from (is_pending pending) a (as_cells bytes))
block_left_out pending n a bytes none apart =
    sym (lines_blank n a (as_cells bytes) (none_summed bytes none))
    ∙ ap (λ (cells : Store). dump_lines n a cells)
    (sym (none_hidden a (as_cells bytes)) ∙ shown_same pending a bytes apart)

-- the lines of a store, from a block on
abbrev pub blocks_from : ℕ → Store → List ℕ
blocks_from k store = dump_lines (length store) (most_neg + 256 * k) (drop (256 * k) store)

-- the lines of a block
abbrev pub block_of : (ℕ → Bool) → ℕ → List ℕ → List ℕ
block_of t k bytes =
    dump_lines (length (part_of 256 (256 * k) bytes)) (most_neg + 256 * k)
    (hiding_from t (most_neg + 256 * k) (as_cells (part_of 256 (256 * k) bytes)))

pub blocks_begin : (store : Store) → lines_of store ≡ blocks_from 0 store
blocks_begin store = refl

pub is_block_within : (n k blocks : ℕ) → blocks ≡ div_ceil n 256 → k < blocks → 256 * k < n
is_block_within n k blocks e l = grind (arith, e)

pub is_block_behind : (n k blocks : ℕ) → blocks ≡ div_ceil n 256 → blocks ≤ k → n ≤ 256 * k
is_block_behind n k blocks e l = grind (arith, e)

pub blocks_next : (t : ℕ → Bool) (k : ℕ) (bytes : List ℕ)
    → blocks_from k (hiding_from t most_neg (as_cells bytes)) ≡ block_of t k bytes
    ++ blocks_from (k + 1) (hiding_from t most_neg (as_cells bytes))
blocks_next t k bytes =
    let store : Store = hiding_from t most_neg (as_cells bytes) in
    let a : ℕ = most_neg + 256 * k in
    let here : Store = drop (256 * k) store in
    let part : List ℕ = part_of 256 (256 * k) bytes in
    let left : length here ≡ length store - 256 * k = length-drop (256 * k) store in
    let taken : take 256 here ≡ hiding_from t a (as_cells part) = cells_taken t 256 most_neg (256 * k) bytes in
    let size : length (hiding_from t a (as_cells part)) ≡ length part = length-cells t a part in
    let few : length (take 256 here) ≡ min 256 (length here) = length-take 256 here in
    let same : length (hiding_from t a (as_cells part)) ≡ length (take 256 here) =
    ap (λ (s : Store). length s) (sym taken) in
    lines_enough (length store) (length store + 16) a here (omega (arith, left)) (omega (arith, left))
    ∙ lines_split 16 (length store) a here
    ∙ ap₂ (λ (lines : List ℕ) (s : Store). lines ++ dump_lines (length store) (a + 256) s)
    (ap (λ (s : Store). dump_lines 16 a s) taken
    ∙ lines_enough 16 (length part) a (hiding_from t a (as_cells part)) (omega (arith, few, same))
    (omega (arith, size)))
    (drop-drop 256 (256 * k) store)
    ∙ ap₂ (λ (b n : ℕ). block_of t k bytes ++ dump_lines (length store) b (drop n store)) (omega arith) (omega arith)

pub blocks_end : (t : ℕ → Bool) (k : ℕ) (bytes : List ℕ) → length bytes ≤ 256 * k
    → blocks_from k (hiding_from t most_neg (as_cells bytes)) ≡ []
blocks_end t k bytes l =
    let store : Store = hiding_from t most_neg (as_cells bytes) in
    let size : length store ≡ length bytes = length-cells t most_neg bytes in
    ap (λ (s : Store). dump_lines (length store) (most_neg + 256 * k) s)
    (drop_of_length-le store (omega (arith, size))) ∙ dump_lines-none (length store) (most_neg + 256 * k)
