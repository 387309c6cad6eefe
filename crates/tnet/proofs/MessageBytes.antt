-- The bytes of a message, read one after another.
use Rattle.std.proofs.Common.{◌≡◌, ℕ, zero, suc, ◌+◌, ◌-◌, ◌<◌, ◌≤◌, min, refl, sym, ap, ◌∙◌, List, [], ◌∷◌, ◌++◌}
use Rattle.std.proofs.Common.{length, get_or, take, drop, Some, ◌⊎◌, inl, inr, arith}
use Rattle.std.proofs.lemmas.Bool.{cases_lt}
use Rattle.std.proofs.lemmas.List.{take_more, get_or-drop, length-drop, take_min, drop-map, take-map, drop_all}
use Rattle.tword.specs.Stores.{Store, as_cells, shown, cells, bytes_at, place}

-- bytes that are shown
shown_bytes : (bytes : List ℕ) → shown (as_cells bytes) ≡ bytes
shown_bytes [] = refl
shown_bytes (b ∷ bytes) = ap (λ (bs : List ℕ). b ∷ bs) (shown_bytes bytes)

some_cells : (bytes : List ℕ) (a n : ℕ)
    → cells (as_cells bytes) a n ≡ as_cells (take (place a + n - place a) (drop (place a) bytes))
some_cells bytes a n =
    ap (λ (s : Store). take (place a + n - place a) s) (drop-map Some (place a) bytes)
    ∙ take-map Some (place a + n - place a) (drop (place a) bytes)

-- one element more of a range
pub more_taken : (xs : List ℕ) (i j d : ℕ) → i ≤ j → j < length xs
    → take (j + 1 - i) (drop i xs) ≡ take (j - i) (drop i xs) ++ get_or xs j d ∷ []
more_taken xs i j d above below =
    let n : j + 1 - i ≡ (j - i) + 1 = omega arith in
    let m : i + (j - i) ≡ j = omega arith in
    ap (λ k. take k (drop i xs)) n
    ∙ (take_more (drop i xs) (j - i) d (omega (arith, length-drop i xs))
    ∙ ap (λ (x : ℕ). take (j - i) (drop i xs) ++ x ∷ []) (get_or-drop i xs (j - i) d ∙ ap (λ k. get_or xs k d) m))

nothing : (k : ℕ) → ◌≡◌ {A = List ℕ} (take k []) []
nothing zero = refl
nothing (suc k) = refl

all_taken : (xs : List ℕ) (i j n : ℕ) → i ≤ j → min (length xs) (i + n) ≤ j
    → (i ≤ min (length xs) (i + n) → j ≤ min (length xs) (i + n)) → take (j - i) (drop i xs) ≡ take n (drop i xs)
all_taken xs i j n above over under = by (cases_lt i (length xs))
  where
    by : (i < length xs) ⊎ (length xs ≤ i) → take (j - i) (drop i xs) ≡ take n (drop i xs)
    by (inl b) =
        let u : j ≤ min (length xs) (i + n) = under (omega arith) in
        let m : j - i ≡ min n (length (drop i xs)) = omega (arith, length-drop i xs) in
        ap (λ k. take k (drop i xs)) m ∙ take_min n (drop i xs)
    by (inr past) = rw (drop_all i xs past) (nothing (j - i) ∙ sym (nothing n))

-- the bytes of a message, read one after another
pub message_bytes : (all : List ℕ) (store : Store) (buffer n i j : ℕ) → as_cells all ≡ store → i ≡ place buffer → i ≤ j
    → min (length all) (i + n) ≤ j → (i ≤ min (length all) (i + n) → j ≤ min (length all) (i + n))
    → take (j - i) (drop i all) ≡ bytes_at store buffer n
message_bytes all store buffer n i j is at above over under =
    let m : (place buffer + n) - place buffer ≡ n = omega arith in
    all_taken all i j n above over under
    ∙ (ap (λ k. take n (drop k all)) at
    ∙ (ap (λ k. take k (drop (place buffer) all)) (sym m)
    ∙ (sym (shown_bytes (take (place buffer + n - place buffer) (drop (place buffer) all)))
    ∙ (ap shown (sym (some_cells all buffer n)) ∙ ap (λ (s : Store). bytes_at s buffer n) is))))
