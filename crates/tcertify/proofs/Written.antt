-- Bytes that are set one after another.
use Rattle.std.proofs.Common.{◌≡◌, ℕ, suc, ◌+◌, ◌*◌, ◌/◌, ◌%◌, ◌<◌, ◌≤◌, refl, sym, ap, ◌∙◌, arith, ◌⊎◌, inl, inr}
use Rattle.std.proofs.Common.{List, [], ◌∷◌, ◌++◌, length, length-append, length-set, set, Option, Some}
use Rattle.std.specs.Prelude.{slice_get, slice_set}
use Rattle.std.proofs.lemmas.Bool.{cases_eq}
use Rattle.tword.specs.Stores.{Store}
use Rattle.tcertify.specs.declared.stored.StoredWord.{StoredWord}
use Rattle.tcertify.specs.declared.stored.Words.{Words}
use Rattle.tcertify.specs.Cells.{cells_of}
use Rattle.tcertify.specs.Spans.{IsSameNode, IsWritten, Misses, bytes_in, sent_or, splice, use_or}
use Rattle.tcertify.proofs.Places.{set_elsewhere, set_here}
use Rattle.tcertify.proofs.Splices.{set_before, set_behind, splice_none, splice_one}
use Rattle.tcertify.proofs.WordBytes.{bytes_length, put_byte}

-- where a word that is set keeps something, each word keeps it
pub kept_by_set : {B : Type 0} (f : Option StoredWord → B) (ws : List StoredWord) (k j : ℕ) (x y : StoredWord)
    → slice_get ws k ≡ Some x → f (Some y) ≡ f (Some x) → f (slice_get (set ws k y) j) ≡ f (slice_get ws j)
kept_by_set {B} f ws k j x y there e = by (cases_eq k j)
  where
    by : (k ≡ j) ⊎ (k ≡ j → ⊥) → f (slice_get (set ws k y) j) ≡ f (slice_get ws j)
    by (inl same) =
        ap (λ (m : ℕ). f (slice_get (set ws k y) m)) (sym same) ∙ ap f (set_here ws k y x there) ∙ e
        ∙ ap f (sym there) ∙ ap (λ (m : ℕ). f (slice_get ws m)) same
    by (inr other) = ap f (set_elsewhere ws k j y other)

-- the same node
pub same_node : (w : Words) → IsSameNode w w
same_node w = record { sized = refl; number = refl; kind = refl; first = refl }

pub same_on : (w u v : Words) → IsSameNode w u → IsSameNode u v → IsSameNode w v
same_on w u v a b =
    record {
      sized = b.sized ∙ a.sized;
      number = b.number ∙ a.number;
      kind = b.kind ∙ a.kind;
      first = b.first ∙ a.first;
    }

-- one byte is set
module _ (w v : Words) (p : ℕ) (x y : StoredWord) (cell : Option ℕ)
    (there : slice_get w.items.items (p / 4) ≡ Some x) (left : v.items.items ≡ set w.items.items (p / 4) y)
    (is : cells_of y.cells ≡ slice_set (cells_of x.cells) (p % 4) cell) (used : y.used ≡ x.used)
    (sending : y.sending ≡ x.sending) (number : v.number ≡ w.number) (kind : v.kind ≡ w.kind)
    (first : v.first_place ≡ w.first_place) (notes : v.notes ≡ w.notes) where
  kept : {B : Type 0} (f : Option StoredWord → B) → f (Some y) ≡ f (Some x) → (j : ℕ)
      → f (slice_get v.items.items j) ≡ f (slice_get w.items.items j)
  kept f e j =
      ap (λ (ws : List StoredWord). f (slice_get ws j)) left ∙ kept_by_set f w.items.items (p / 4) j x y there e

  missed : (j : ℕ) → Misses p 1 j → slice_get v.items.items j ≡ slice_get w.items.items j
  missed j misses =
      let low : p ≤ p = omega arith in
      let inside : p < p + 1 = omega arith in
      ap (λ (ws : List StoredWord). slice_get ws j) left
      ∙ set_elsewhere w.items.items (p / 4) j y (λ same. misses p low inside same)

  pub one_written : IsWritten w p (cell ∷ []) v
  one_written =
      let low : p % 4 < 4 = omega arith in
      let parts : p ≡ 4 * (p / 4) + p % 4 = omega arith in
      record {
        left = ap bytes_in left ∙ put_byte w.items.items (p / 4) p (p % 4) x y cell there low parts is
            ∙ sym (splice_one p cell (bytes_in w.items.items));
        elsewhere = missed;
        uses = kept use_or (ap (λ u. Some u) used);
        sending = kept sent_or (ap (λ n. Some n) sending);
        same = record {
          sized = ap length left ∙ length-set w.items.items (p / 4) y;
          number = number;
          kind = kind;
          first = first;
        };
        notes = notes;
      }

-- no byte is set
pub none_written : (w : Words) (p : ℕ) → IsWritten w p [] w
none_written w p =
    record {
      left = sym (splice_none p (bytes_in w.items.items));
      elsewhere = λ k misses. refl;
      uses = λ k. refl;
      sending = λ k. refl;
      same = same_node w;
      notes = refl;
    }

-- one more byte is set, behind those so far or before them
module _ (w u v : Words) (p : ℕ) (xs : Store) (b : Option ℕ) where
  pub written_behind : (n : ℕ) → n ≡ p + length xs → n < 4 * length w.items.items → IsWritten w p xs u
      → IsWritten u n (b ∷ []) v → IsWritten w p (xs ++ b ∷ []) v
  written_behind n at inside so_far one =
      let all = length-append xs (b ∷ []) in
      let sized = bytes_length w.items.items in
      let room : n < length (bytes_in w.items.items) = omega arith in
      record {
        left = one.left ∙ splice_one n b (bytes_in u.items.items)
            ∙ ap (λ (l : Store). set l n b) so_far.left ∙ set_behind p n xs (bytes_in w.items.items) b at room;
        elsewhere = λ k misses. one.elsewhere k (λ q low high is. misses q (omega arith) (omega arith) is)
            ∙ so_far.elsewhere k (λ q low high is. misses q low (omega arith) is);
        uses = λ k. one.uses k ∙ so_far.uses k;
        sending = λ k. one.sending k ∙ so_far.sending k;
        same = same_on w u v so_far.same one.same;
        notes = one.notes ∙ so_far.notes;
      }

  pub written_before : (n : ℕ) → n ≡ p + 1 → p < 4 * length w.items.items → IsWritten w n xs u
      → IsWritten u p (b ∷ []) v → IsWritten w p (b ∷ xs) v
  written_before n at inside so_far one =
      let sized = bytes_length w.items.items in
      let room : p < length (bytes_in w.items.items) = omega arith in
      let more : n ≡ suc p = omega arith in
      record {
        left = one.left ∙ splice_one p b (bytes_in u.items.items)
            ∙ ap (λ (l : Store). set l p b) so_far.left
            ∙ ap (λ (m : ℕ). set (splice m xs (bytes_in w.items.items)) p b) more
            ∙ set_before p xs (bytes_in w.items.items) b room;
        elsewhere = λ k misses. one.elsewhere k (λ q low high is. misses q low (omega arith) is)
            ∙ so_far.elsewhere k (λ q low high is. misses q (omega arith) (omega arith) is);
        uses = λ k. one.uses k ∙ so_far.uses k;
        sending = λ k. one.sending k ∙ so_far.sending k;
        same = same_on w u v so_far.same one.same;
        notes = one.notes ∙ so_far.notes;
      }
