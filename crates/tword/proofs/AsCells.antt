-- A memory's bytes as the cells of a store.
use Rattle.std.proofs.Common.{◌≡◌, ℕ, ◌+◌, ◌-◌, ◌<◌, ◌≤◌, refl, sym, ap, ◌∙◌, List, [], ◌∷◌, ◌++◌, length, take, drop}
use Rattle.std.proofs.Common.{replicate, zero, suc, Some, set, length-take, length-drop, append_assoc, arith}
use Rattle.std.specs.Prelude.{slice_range}
use Rattle.std.specs.Int.{w32, from_le_bytes}
use Rattle.std.proofs.lemmas.List.{length-map, take-map, drop-map, take-append-drop, take-set, drop-set}
use Rattle.std.specs.List.{copy_within}
use Rattle.tword.specs.Stores.{Store, as_cells, shown, place, cells, with_cells, word_at}

-- bytes that become cells are shown again
pub shown-as_cells : (bytes : List ℕ) → shown (as_cells bytes) ≡ bytes
shown-as_cells [] = refl
shown-as_cells (b ∷ bytes) = ap (λ (bs : List ℕ). b ∷ bs) (shown-as_cells bytes)

pub as_cells-replicate : (n b : ℕ) → as_cells (replicate n b) ≡ replicate n (Some b)
as_cells-replicate zero b = refl
as_cells-replicate (suc n) b = ap (λ (s : Store). Some b ∷ s) (as_cells-replicate n b)

pub as_cells-append : (xs ys : List ℕ) → as_cells (xs ++ ys) ≡ as_cells xs ++ as_cells ys
as_cells-append [] ys = refl
as_cells-append (x ∷ xs) ys = ap (λ (s : Store). Some x ∷ s) (as_cells-append xs ys)

-- some of the cells
pub cells-as_cells : (bytes : List ℕ) (a n : ℕ)
    → cells (as_cells bytes) a n ≡ as_cells (slice_range bytes (place a) (place a + n))
cells-as_cells bytes a n =
    ap (λ (s : Store). take (place a + n - place a) s) (drop-map Some (place a) bytes)
    ∙ take-map Some (place a + n - place a) (drop (place a) bytes)

-- cells that are put
pub with_cells-as_cells : (bytes : List ℕ) (a : ℕ) (new : List ℕ)
    → with_cells (as_cells bytes) a (as_cells new)
    ≡ as_cells (take (place a) bytes ++ new ++ drop (place a + length new) bytes)
with_cells-as_cells bytes a new =
    rw (
      length-map new Some,
      take-map Some (place a) bytes,
      drop-map Some (place a + length new) bytes,
      as_cells-append (take (place a) bytes ++ new) (drop (place a + length new) bytes),
      as_cells-append (take (place a) bytes) new,
    ) refl

-- a word
pub word_at-as_cells : (bytes : List ℕ) (a : ℕ)
    → word_at (as_cells bytes) a ≡ from_le_bytes w32 (slice_range bytes (place a) (place a + 4))
word_at-as_cells bytes a =
    ap (λ (bs : List ℕ). from_le_bytes w32 bs) (ap (λ (s : Store). shown s) (cells-as_cells bytes a 4)
    ∙ shown-as_cells (slice_range bytes (place a) (place a + 4)))

-- a word that is read from bytes
pub word_read : (bytes : List ℕ) (store : Store) (a at r : ℕ) → as_cells bytes ≡ store → at ≡ place a
    → r ≡ from_le_bytes w32 (slice_range bytes at (at + 4)) → r ≡ word_at store a
word_read bytes store a at r v e is =
    is ∙ ap (λ n. from_le_bytes w32 (slice_range bytes n (n + 4))) e ∙ sym (word_at-as_cells bytes a)
    ∙ ap (λ (s : Store). word_at s a) v

-- bytes that are put among bytes
pub bytes_put : (bytes : List ℕ) (store : Store) (a at : ℕ) (new put : List ℕ) → as_cells bytes ≡ store → at ≡ place a
    → put ≡ take at bytes ++ new ++ drop (at + length new) bytes
    → as_cells put ≡ with_cells store a (as_cells new)
bytes_put bytes store a at new put v e is =
    ap (λ (bs : List ℕ). as_cells bs) (is ∙ ap (λ n. take n bytes ++ new ++ drop (n + length new) bytes) e)
    ∙ sym (with_cells-as_cells bytes a new) ∙ ap (λ (s : Store). with_cells s a (as_cells new)) v

-- one byte that is set
pub byte_put : (bytes : List ℕ) (store : Store) (a at v : ℕ) → as_cells bytes ≡ store → at ≡ place a → at < length bytes
    → as_cells (set bytes at v) ≡ with_cells store a (as_cells (v ∷ []))
byte_put bytes store a at v shows e lt =
    bytes_put bytes store a at (v ∷ []) (set bytes at v) shows e
    (sym (take-append-drop at (set bytes at v))
    ∙ ap (λ (xs : List ℕ). xs ++ drop at (set bytes at v)) (take-set bytes at v)
    ∙ ap (λ (xs : List ℕ). take at bytes ++ xs) (drop-set bytes at v lt)
    ∙ sym (append_assoc (take at bytes) (v ∷ []) (drop (at + 1) bytes)))

-- bytes that are copied among bytes
pub bytes_copied : (bytes : List ℕ) (store : Store) (from to source target n : ℕ) (new : List ℕ)
    → as_cells bytes ≡ store → source ≡ place from → target ≡ place to → source + n ≤ length bytes
    → new ≡ copy_within bytes source (source + n) target → as_cells new ≡ with_cells store to (cells store from n)
bytes_copied bytes store from to source target n new shows s t fits is =
    let part = slice_range bytes source (source + n) in
    let e : source + n - source ≡ n = omega arith in
    let size : length part ≡ n = length-take (source + n - source) (drop source bytes)
    ∙ omega (arith, length-drop source bytes) in
    let moved : new ≡ take target bytes ++ part ++ drop (target + length part) bytes =
    is ∙ ap (λ k. take target bytes ++ part ++ drop (target + k) bytes) (e ∙ sym size) in
    bytes_put bytes store to target part new shows t moved
    ∙ ap (λ (c : Store). with_cells store to c) (ap (λ k. as_cells (slice_range bytes k (k + n))) s
    ∙ sym (cells-as_cells bytes from n) ∙ ap (λ (c : Store). cells c from n) shows)

-- as many cells as bytes
pub length-as_cells : (bytes : List ℕ) (store : Store) → as_cells bytes ≡ store → length store ≡ length bytes
length-as_cells bytes store e = ap (λ (s : Store). length s) (sym e) ∙ length-map bytes Some
