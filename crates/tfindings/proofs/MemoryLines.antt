-- The lines of a memory, one after another.
use Rattle.std.proofs.Common.{◌≡◌, ℕ, suc, ◌+◌, ◌*◌, ◌-◌, ◌<◌, ◌≤◌, min, refl, sym, ap, ap₂, ◌∙◌, List, [], ◌∷◌, ◌++◌}
use Rattle.std.proofs.Common.{length, take, drop, ◌⊎◌, inl, inr, arith, Bool, true, false, flat_map}
use Rattle.std.specs.Prelude.{slice_range, codes, if◌then◌else◌}
use Rattle.std.specs.Int.{div_ceil, to_be_bytes, w32}
use Rattle.std.specs.List.{list_all}
use Rattle.hex.specs.Hex.{encode_lower}
use Rattle.std.proofs.lemmas.Bool.{cases_lt}
use Rattle.std.proofs.lemmas.List.{drop-map, take-map, drop-drop, take_all, length-map, length-drop}
use Rattle.tword.specs.Stores.{Store}
use Rattle.tword.specs.Words.{most_neg}
use Rattle.tfiles.specs.Logs.{line}
use Rattle.tcertify.specs.declared.stored.StoredWord.{StoredWord}
use Rattle.tcertify.specs.Cells.{cells_of}
use Rattle.tfindings.specs.Cells.{cell_text, is_zero, line_text, lines_text, memory_text, words_of}

-- the lines from one of them on
abbrev pub lines_from : ℕ → List StoredWord → List ℕ
lines_from k words =
    lines_text (div_ceil (length words) 4 - k) (most_neg + 4 * (4 * k)) (drop (4 * k) (words_of words))

-- the words of a line
abbrev pub part_of : ℕ → List StoredWord → List StoredWord
part_of k words = slice_range words (4 * k) (min (length words) (4 * k + 4))

abbrev pub line_of : ℕ → List StoredWord → List ℕ
line_of k words = line_text (most_neg + 4 * (4 * k)) (words_of (part_of k words))

part_taken : (s : ℕ) (words : List StoredWord)
    → slice_range words s (min (length words) (s + 4)) ≡ take 4 (drop s words)
part_taken s words = by (cases_lt (length words) (s + 4))
  where
    by : (length words < s + 4) ⊎ (s + 4 ≤ length words)
        → slice_range words s (min (length words) (s + 4)) ≡ take 4 (drop s words)
    by (inl l) =
        let e : length (drop s words) ≡ length words - s = length-drop s words in
        take_all (min (length words) (s + 4) - s) (drop s words) (omega (arith, e))
        ∙ sym (take_all 4 (drop s words) (omega (arith, e)))
    by (inr l) =
        let e : min (length words) (s + 4) - s ≡ 4 = omega arith in ap (λ (n : ℕ). take n (drop s words)) e

words_taken : (k : ℕ) (words : List StoredWord)
    → take 4 (drop (4 * k) (words_of words)) ≡ words_of (part_of k words)
words_taken k words =
    ap (λ (ws : List Store). take 4 ws) (drop-map (λ w. cells_of w.cells) (4 * k) words)
    ∙ take-map (λ w. cells_of w.cells) 4 (drop (4 * k) words)
    ∙ ap (λ (ws : List StoredWord). words_of ws) (sym (part_taken (4 * k) words))

pub lines_begin : (words : List StoredWord) → memory_text (words_of words) ≡ lines_from 0 words
lines_begin words =
    let size : length (words_of words) ≡ length words = length-map words (λ w. cells_of w.cells) in
    let lines : div_ceil (length (words_of words)) 4 ≡ div_ceil (length words) 4 - 0 =
    ap (λ (n : ℕ). div_ceil n 4) size ∙ omega arith in
    let first : most_neg ≡ most_neg + 4 * (4 * 0) = omega arith in
    ap₂ (λ (n a : ℕ). lines_text n a (words_of words)) lines first

pub lines_next : (k : ℕ) (words : List StoredWord) → k < div_ceil (length words) 4
    → lines_from k words ≡ line_of k words ++ lines_from (k + 1) words
lines_next k words l =
    let fuel : div_ceil (length words) 4 - k ≡ suc (div_ceil (length words) 4 - (k + 1)) = omega arith in
    let address : most_neg + 4 * (4 * k) + 16 ≡ most_neg + 4 * (4 * (k + 1)) = omega arith in
    let place : 4 * k + 4 ≡ 4 * (k + 1) = omega arith in
    ap (λ (n : ℕ). lines_text n (most_neg + 4 * (4 * k)) (drop (4 * k) (words_of words))) fuel
    ∙ ap₂ (λ (first rest : List Store). line_text (most_neg + 4 * (4 * k)) first
    ++ lines_text (div_ceil (length words) 4 - (k + 1)) (most_neg + 4 * (4 * k) + 16) rest) (words_taken k words)
    (drop-drop 4 (4 * k) (words_of words))
    ∙ ap₂ (λ (a n : ℕ). line_of k words ++ lines_text (div_ceil (length words) 4 - (k + 1)) a (drop n (words_of words)))
    address place

pub lines_end : (k : ℕ) (words : List StoredWord) → div_ceil (length words) 4 ≤ k → lines_from k words ≡ []
lines_end k words l =
    let fuel : div_ceil (length words) 4 - k ≡ 0 = omega arith in
    ap (λ (n : ℕ). lines_text n (most_neg + 4 * (4 * k)) (drop (4 * k) (words_of words))) fuel

-- a line of zeros is left out, any other is not
pub left_out : (address : ℕ) (words : List Store) → list_all is_zero words ≡ true → [] ≡ line_text address words
left_out address words e =
    ap (λ (z : Bool). if z then [] else line
    (encode_lower (to_be_bytes w32 address) ++ (codes ":" ++ flat_map (flat_map cell_text) words))) (sym e)

pub line_shown : (address : ℕ) (words : List Store) → list_all is_zero words ≡ false
    → line (encode_lower (to_be_bytes w32 address) ++ (codes ":" ++ flat_map (flat_map cell_text) words))
    ≡ line_text address words
line_shown address words e =
    ap (λ (z : Bool). if z then [] else line
    (encode_lower (to_be_bytes w32 address) ++ (codes ":" ++ flat_map (flat_map cell_text) words))) (sym e)

-- a word, as it is printed
abbrev pub word_text : StoredWord → List ℕ
word_text w = flat_map cell_text (cells_of w.cells)

-- words are printed as their bytes are
pub flat_of_words : (words : List StoredWord)
    → flat_map word_text words ≡ flat_map (flat_map cell_text) (words_of words)
flat_of_words [] = refl
flat_of_words (w ∷ ws) = ap (λ (t : List ℕ). flat_map cell_text (cells_of w.cells) ++ t) (flat_of_words ws)
