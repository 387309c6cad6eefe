-- A word that is set is there, and each other word stands.
use Rattle.std.proofs.Common.{◌≡◌, ◌≢◌, ℕ, ◌+◌, ◌-◌, ◌<◌, ◌≤◌, ◌%◌, ◌^◌, refl, ap, cond, ◌∙◌, [], ◌∷◌, length, drop}
use Rattle.std.proofs.Common.{Bool, true, false, ◌&&◌, Some, None, ◌⊎◌, inl, inr, arith, length-take, length-drop}
use Rattle.std.proofs.Common.{get_or-take, get_or-drop}
use Rattle.std.specs.Int.{w32, from_le_bytes, to_le_bytes}
use Rattle.std.proofs.lemmas.Bool.{eqb-true}
use Rattle.std.proofs.lemmas.List.{ext_get_or}
use Rattle.std.proofs.lemmas.Nat.{from_le_bytes-to_le_bytes_4}
use Rattle.tword.specs.Words.{most_neg, word_below}
use Rattle.tword.specs.Stores.{Store, place, cells, with_word, word_at, as_cells, shown}
use Rattle.tword.specs.Claims.{Claims, overlap, has_saved}
use Rattle.tword.specs.Touches.{Mode, word_break, word_span}
use Rattle.tword.specs.Actions.{with_saved_word, is_slot}
use Rattle.tword.proofs.Passing.{Passes, word_break-passes, word_break-aligned, inside_bounds}
use Rattle.tword.proofs.Hiding.{overlap-parts}
use Rattle.tword.proofs.Blind.{Clear}
use Rattle.tword.proofs.Standing.{stands_self, with_cells-stands}
use Rattle.tword.proofs.Buffers.{SameBytes, stands_bytes}
use Rattle.tword.proofs.Copying.{length-with_cells, with_cells-in}

-- the word at an address lies in a memory of this size
pub record LiesWord (n a : ℕ) : Type 0 where
  pub above : most_neg ≤ a
  pub within : a - most_neg + 4 ≤ n
  pub aligned : a % 4 ≡ 0

-- a word whose touch passed
pub lies_word : (n a : ℕ) (c : Claims) (mode : Mode) → word_break n c mode a ≡ None → LiesWord n a
lies_word n a c mode h = by (inside_bounds n (word_span a) p.inside)
  where
    p : Passes n c mode (word_span a)
    p = word_break-passes n c mode a h

    by : ((word_span a).size ≡ 0) ⊎ ((most_neg ≤ a) × (a - most_neg + 4 ≤ n)) → LiesWord n a
    by (inl e) = absurd (omega arith)
    by (inr b) = record { above = b.0; within = b.1; aligned = eqb-true _ _ (word_break-aligned n c mode a h) }

-- two words at different addresses have no byte in common
words_apart : (n a w : ℕ) → LiesWord n a → LiesWord n w → a ≢ w → overlap (word_span a) (word_span w) ≡ false
words_apart n a w l k h = by (overlap (word_span a) (word_span w)) refl
  where
    by : (b : Bool) → overlap (word_span a) (word_span w) ≡ b → overlap (word_span a) (word_span w) ≡ false
    by false e = e
    by true e =
        let o : (0 < 4) × (0 < 4) × (a < w + 4) × (w < a + 4) = overlap-parts (word_span a) (word_span w) e in
        absurd (h (omega (arith, l.aligned, k.aligned, o.2, o.3)))

module _ (s : Store) (a v w : ℕ) where
  -- the size stays
  pub length-with_word : LiesWord (length s) a → length (with_word s a v) ≡ length s
  length-with_word l = length-with_cells s a 4 (as_cells (to_le_bytes w32 v)) l.above l.within refl

  -- the other word stands
  pub other_word : LiesWord (length s) a → LiesWord (length s) w → a ≢ w → word_at (with_word s a v) w ≡ word_at s w
  other_word l k h =
      let b : SameBytes s (with_word s a v) w 4 =
      stands_bytes s (with_word s a v) w 4
      (with_cells-stands (Some (word_span w) ∷ []) s s a 4 (as_cells (to_le_bytes w32 v))
      (stands_self (Some (word_span w) ∷ []) s) refl clear) k.above k.within in
      ap (from_le_bytes w32) (b.bytes 4 (omega arith))
    where
      clear : Clear (length s) (Some (word_span w) ∷ []) (word_span a)
      clear = record { above = l.above; within = l.within; apart = rw (words_apart (length s) a w l k h) refl }

-- a word that is set is there
pub word_set : (s : Store) (a v : ℕ) → LiesWord (length s) a → v < 2 ^ 32 → word_at (with_word s a v) a ≡ v
word_set s a v l h =
    ap (λ (x : Store). from_le_bytes w32 (shown x)) whole ∙ from_le_bytes-to_le_bytes_4 v h
  where
    new : Store
    new = as_cells (to_le_bytes w32 v)

    t : Store
    t = with_word s a v

    size : length t ≡ length s
    size = length-with_word s a v a l

    whole : cells t a 4 ≡ new
    whole =
        let f : place a + 4 - place a ≡ 4 = omega arith in
        rw f (ext_get_or None _ _ (rw (length-take, length-drop) (omega (arith, size, l.within))) (λ i c.
        let n : i < 4 = omega (arith, length-take 4 (drop (place a) t)) in
        let e : place a + i - place a ≡ i = omega arith in
        get_or-take 4 (drop (place a) t) i None n ∙ get_or-drop (place a) t i None
        ∙ with_cells-in s a 4 new l.above l.within refl (place a + i) (omega arith) (omega arith) ∙ rw e refl))

-- a word below a workspace is another than that at it
pub below_other : (w : ℕ) → w < 2 ^ 32 → (word_below w 1 ≢ w) × (word_below w 3 ≢ w)
below_other w h = ((λ e. omega (arith, e)), (λ e. omega (arith, e)))

-- a saved word that is set leaves the word at another address, whether or not the words of the workspace are saved
pub saved_other : (s : Store) (c : Claims) (w k v : ℕ) → LiesWord (length s) (word_below w k) → LiesWord (length s) w
    → word_below w k ≢ w
    → (length (with_saved_word s c w k v) ≡ length s) × (word_at (with_saved_word s c w k v) w ≡ word_at s w)
saved_other s c w k v l h apart = by (is_slot k && has_saved c w)
  where
    by : (b : Bool) → (length (cond b (with_word s (word_below w k) v) s) ≡ length s)
        × (word_at (cond b (with_word s (word_below w k) v) s) w ≡ word_at s w)
    by true = (length-with_word s (word_below w k) v w l, other_word s (word_below w k) v w l h apart)
    by false = (refl, refl)
