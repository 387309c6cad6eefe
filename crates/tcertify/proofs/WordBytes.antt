-- The bytes of words in a row.
use Rattle.std.proofs.Common.{◌≡◌, ℕ, zero, suc, ◌+◌, ◌*◌, ◌<◌, ◌≤◌, refl, sym, ap, ◌∙◌, arith}
use Rattle.std.proofs.Common.{List, [], ◌∷◌, ◌++◌, length, length-append, take, drop, set, Option, Some, None}
use Rattle.std.specs.Prelude.{slice_get, slice_set}
use Rattle.tword.specs.Stores.{Store}
use Rattle.tcertify.specs.declared.stored.StoredWord.{StoredWord}
use Rattle.tcertify.specs.Cells.{cell_at, cells_of}
use Rattle.tcertify.specs.Spans.{bytes_in, cells_from, cells_or}
use Rattle.tcertify.proofs.Places.{there_is}

-- a number that is four more
four_more : (p n : ℕ) → p ≡ 4 + n → p ≡ suc (suc (suc (suc n)))
four_more p n e = omega arith

-- the byte at a place
one_of_four : (x : StoredWord) (rest : Store) (r : ℕ) → r < 4
    → slice_get (cells_of x.cells ++ rest) r ≡ Some (cell_at x.cells r)
one_of_four x rest zero h = refl
one_of_four x rest (suc zero) h = refl
one_of_four x rest (suc (suc zero)) h = refl
one_of_four x rest (suc (suc (suc zero))) h = refl
one_of_four x rest (suc (suc (suc (suc n)))) h = absurd (omega arith)

pub get_byte : (ws : List StoredWord) (k p r : ℕ) (x : StoredWord) → slice_get ws k ≡ Some x → r < 4
    → p ≡ 4 * k + r → slice_get (bytes_in ws) p ≡ Some (cell_at x.cells r)
get_byte [] k p r x there low e = cc
get_byte (w ∷ ws) zero p r x there low e =
    let same : p ≡ r = omega arith in
    let is : w ≡ x = cc in
    ap (λ (n : ℕ). slice_get (bytes_in (w ∷ ws)) n) same ∙ one_of_four w (bytes_in ws) r low
    ∙ ap (λ (y : StoredWord). Some (cell_at y.cells r)) is
get_byte (w ∷ ws) (suc k) p r x there low e =
    let more : p ≡ 4 + (4 * k + r) = omega arith in
    ap (λ (n : ℕ). slice_get (bytes_in (w ∷ ws)) n) (four_more p (4 * k + r) more)
    ∙ get_byte ws k (4 * k + r) r x there low refl

-- a byte is set
set_one_of_four : (x : StoredWord) (rest : Store) (r : ℕ) (cell : Option ℕ) → r < 4
    → slice_set (cells_of x.cells) r cell ++ rest ≡ slice_set (cells_of x.cells ++ rest) r cell
set_one_of_four x rest zero cell h = refl
set_one_of_four x rest (suc zero) cell h = refl
set_one_of_four x rest (suc (suc zero)) cell h = refl
set_one_of_four x rest (suc (suc (suc zero))) cell h = refl
set_one_of_four x rest (suc (suc (suc (suc n)))) cell h = absurd (omega arith)

pub put_byte : (ws : List StoredWord) (k p r : ℕ) (x y : StoredWord) (cell : Option ℕ) → slice_get ws k ≡ Some x
    → r < 4 → p ≡ 4 * k + r → cells_of y.cells ≡ slice_set (cells_of x.cells) r cell
    → bytes_in (set ws k y) ≡ set (bytes_in ws) p cell
put_byte [] k p r x y cell there low e is = cc
put_byte (w ∷ ws) zero p r x y cell there low e is =
    let same : r ≡ p = omega arith in
    let old : x ≡ w = cc in
    ap (λ (c : Store). c ++ bytes_in ws) is ∙ set_one_of_four x (bytes_in ws) r cell low
    ∙ ap (λ (z : StoredWord). slice_set (cells_of z.cells ++ bytes_in ws) r cell) old
    ∙ ap (λ (n : ℕ). slice_set (bytes_in (w ∷ ws)) n cell) same
put_byte (w ∷ ws) (suc k) p r x y cell there low e is =
    let more : p ≡ 4 + (4 * k + r) = omega arith in
    ap (λ (l : Store). cells_of w.cells ++ l) (put_byte ws k (4 * k + r) r x y cell there low refl is)
    ∙ ap (λ (n : ℕ). set (bytes_in (w ∷ ws)) n cell) (sym (four_more p (4 * k + r) more))

-- how many bytes there are
pub bytes_length : (ws : List StoredWord) → length (bytes_in ws) ≡ 4 * length ws
bytes_length [] = refl
bytes_length (w ∷ ws) = let rest = bytes_length ws in omega arith

-- the bytes from a word on
pub from_word : (ws : List StoredWord) (k p q : ℕ) (x : StoredWord) → slice_get ws k ≡ Some x → p ≡ 4 * k
    → q ≡ 4 * k + 4 → drop p (bytes_in ws) ≡ cells_of x.cells ++ drop q (bytes_in ws)
from_word [] k p q x there e f = cc
from_word (w ∷ ws) zero p q x there e f =
    let none : p ≡ 0 = omega arith in
    let four : 4 ≡ q = omega arith in
    let is : w ≡ x = cc in
    ap (λ (n : ℕ). drop n (bytes_in (w ∷ ws))) none
    ∙ ap (λ (y : StoredWord). cells_of y.cells ++ bytes_in ws) is
    ∙ ap (λ (n : ℕ). cells_of x.cells ++ drop n (bytes_in (w ∷ ws))) four
from_word (w ∷ ws) (suc k) p q x there e f =
    let more : p ≡ 4 + 4 * k = omega arith in
    let most : q ≡ 4 + (4 * k + 4) = omega arith in
    ap (λ (n : ℕ). drop n (bytes_in (w ∷ ws))) (four_more p (4 * k) more)
    ∙ from_word ws k (4 * k) (4 * k + 4) x there refl refl
    ∙ ap (λ (n : ℕ). cells_of x.cells ++ drop n (bytes_in (w ∷ ws))) (sym (four_more q (4 * k + 4) most))

-- the first bytes of a word and what follows it
first_four : (x : StoredWord) (rest : Store) (m n : ℕ) → m ≡ 4 + n
    → take m (cells_of x.cells ++ rest) ≡ cells_of x.cells ++ take n rest
first_four x rest m n e = ap (λ (i : ℕ). take i (cells_of x.cells ++ rest)) (four_more m n e)

-- words in a row are a part of all
pub cells_are : (ws : List StoredWord) (c k p m : ℕ) → ((j : ℕ) → k ≤ j → j < k + c → j < length ws)
    → p ≡ 4 * k → m ≡ 4 * c → cells_from ws k c ≡ take m (drop p (bytes_in ws))
cells_are ws zero k p m h e f =
    let none : 0 ≡ m = omega arith in ap (λ (i : ℕ). take i (drop p (bytes_in ws))) none
cells_are ws (suc c) k p m h e f =
    let low : k < k + suc c = omega arith in
    let x = there_is ws k (h k (omega arith) low) in
    let more : m ≡ 4 + 4 * c = omega arith in
    let behind : p + 4 ≡ 4 * suc k = omega arith in
    let last : p + 4 ≡ 4 * k + 4 = omega arith in
    let rest = cells_are ws c (suc k) (p + 4) (4 * c) (λ j a b. h j (omega arith) (omega arith)) behind refl in
    ap (λ (o : Option StoredWord). cells_or o ++ cells_from ws (suc k) c) x.1
    ∙ ap (λ (l : Store). cells_of x.0.cells ++ l) rest
    ∙ sym (first_four x.0 (drop (p + 4) (bytes_in ws)) m (4 * c) more)
    ∙ ap (λ (l : Store). take m l) (sym (from_word ws k p (p + 4) x.0 x.1 e last))

-- how many bytes words in a row have
four_or : (o : Option StoredWord) → length (cells_or o) ≡ 4
four_or None = refl
four_or (Some w) = refl

pub cells_length : (ws : List StoredWord) (c k : ℕ) → length (cells_from ws k c) ≡ 4 * c
cells_length ws zero k = refl
cells_length ws (suc c) k =
    let rest = cells_length ws c (suc k) in
    let here = four_or (slice_get ws k) in
    let both = length-append (cells_or (slice_get ws k)) (cells_from ws (suc k) c) in omega arith
