-- Writes of words that are not marked.
use Rattle.std.proofs.Common.{◌≡◌, ℕ, ◌+◌, ◌-◌, ◌≤◌, refl, ◌∙◌, List, None, length, ◌⊎◌, inl, inr}
use Rattle.std.specs.Int.{w32, to_le_bytes}
use Rattle.tword.specs.Words.{most_neg}
use Rattle.tword.specs.Stores.{Store, as_cells, with_word}
use Rattle.tword.specs.Claims.{Claims}
use Rattle.tword.specs.Touches.{Writes, word_break, word_span}
use Rattle.tword.proofs.EachCell.{length-put}
use Rattle.tword.proofs.Passing.{inside_bounds, word_break-passes}
use Rattle.tcode.specs.Known.{StandsWhereMarked}
use Rattle.tcode.proofs.Known.{IsUnmarked, marked_same, marked_then, marked_write}

-- a store with words put that are not marked, of the size that it had
pub record IsPut (words : List ℕ) (s t : Store) : Type 0 where
  pub stands : StandsWhereMarked words s t
  pub size : length t ≡ length s

-- none
pub put_none : (words : List ℕ) (s : Store) → IsPut words s s
put_none words s = record { stands = marked_same words s s refl; size = refl }

-- and one more
pub put_word : (words : List ℕ) (s t : Store) (c : Claims) (w v : ℕ) → IsPut words s t
    → word_break (length s) c Writes w ≡ None → IsUnmarked words w → IsPut words s (with_word t w v)
put_word words s t c w v put passes none =
    record {
      stands = marked_then words s t (with_word t w v) put.stands
          (marked_write words t (with_word t w v) c w v here none refl);
      size = length-put t w (as_cells (to_le_bytes w32 v))
          (by (inside_bounds (length t) (word_span w) (word_break-passes (length t) c Writes w here).inside))
          ∙ put.size;
    }
  where
    here : word_break (length t) c Writes w ≡ None
    here = rw put.size passes

    by : ((word_span w).size ≡ 0) ⊎ ((most_neg ≤ w) × (w - most_neg + 4 ≤ length t))
        → (length (as_cells (to_le_bytes w32 v)) ≡ 0)
        ⊎ ((most_neg ≤ w) × (w - most_neg + length (as_cells (to_le_bytes w32 v)) ≤ length t))
    by (inl z) = inl z
    by (inr b) = inr b
