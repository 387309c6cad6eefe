-- A byte is written, in the word that it lies in; bytes of a word one by one.
use Rattle.std.proofs.Common.{◌≡◌, ℕ, zero, suc, ◌+◌, ◌*◌, ◌%◌, ◌<◌, ◌≤◌, refl, sym, subst, ap, ◌∙◌, arith, [], ◌∷◌}
use Rattle.std.proofs.Common.{◌++◌}
use Rattle.std.proofs.Common.{take, drop, Option, Some, None, Ok, Err, unwrap_or}
use Rattle.std.specs.Prelude.{slice_set, is_some, ◌==◌, if◌then◌else◌}
use Rattle.tword.specs.declared.breaks.Break.{Break}
use Rattle.tword.specs.Stores.{Store, place}
use Rattle.tword.specs.Words.{most_neg}
use Rattle.tword.specs.Actions.{or_break}
use Rattle.tword.specs.Touches.{Writes, place_break, byte_span}
use Rattle.tprocesses.specs.Places.{WordAt}
use Rattle.tprocesses.specs.Values.{IsWord, Free}
use Rattle.tprocesses.specs.Changes.{Put}
use Rattle.tprocesses.specs.Parts.{Reason, Breaks, Doing, change}
use Rattle.tprocesses.specs.Touching.{Site, put, put_words, replaced, touch, touch_word, word_number, write}
use Rattle.tcertify.specs.declared.cells.Cells.{Cells}
use Rattle.tcertify.specs.declared.stored.Words.{Words}
use Rattle.tcertify.specs.Cells.{cell_at, cells_of}
use Rattle.tcertify.specs.Words.{Runs, site_of}
use Rattle.tcertify.proofs.Running.{runs_on, runs_stop}
use Rattle.tcertify.proofs.Bytes.{one_word, byte_nowhere, word_busy, word_touched}
use Rattle.tcertify.proofs.Places.{passed}

-- 1 where a byte is known
abbrev pub bit_of : Option ℕ → ℕ
bit_of o = if is_some o then 1 else 0

-- bytes with the bits that say which of them are known
pub laid : (a b c d : Option ℕ)
    → cells_of (record {
      bytes = unwrap_or a 0 ∷ unwrap_or b 0 ∷ unwrap_or c 0 ∷ unwrap_or d 0 ∷ [];
      known = bit_of a + 2 * bit_of b + 4 * (bit_of c + 2 * bit_of d);
    })
    ≡ a ∷ b ∷ c ∷ d ∷ []
laid None None None None = refl
laid None None None (Some d) = refl
laid None None (Some c) None = refl
laid None None (Some c) (Some d) = refl
laid None (Some b) None None = refl
laid None (Some b) None (Some d) = refl
laid None (Some b) (Some c) None = refl
laid None (Some b) (Some c) (Some d) = refl
laid (Some a) None None None = refl
laid (Some a) None None (Some d) = refl
laid (Some a) None (Some c) None = refl
laid (Some a) None (Some c) (Some d) = refl
laid (Some a) (Some b) None None = refl
laid (Some a) (Some b) None (Some d) = refl
laid (Some a) (Some b) (Some c) None = refl
laid (Some a) (Some b) (Some c) (Some d) = refl

-- bytes of which one is replaced
pub chosen : (c : Cells) (cell : Option ℕ) (j : ℕ) → j < 4
    → (if 0 == j then cell else cell_at c 0) ∷ (if 1 == j then cell else cell_at c 1)
    ∷ (if 2 == j then cell else cell_at c 2) ∷ (if 3 == j then cell else cell_at c 3) ∷ []
    ≡ slice_set (cells_of c) j cell
chosen c cell zero h = refl
chosen c cell (suc zero) h = refl
chosen c cell (suc (suc zero)) h = refl
chosen c cell (suc (suc (suc zero))) h = refl
chosen c cell (suc (suc (suc (suc n)))) h = absurd (omega arith)

-- the same, as the bytes of a span are replaced
byte_put : (c : Cells) (cell : Option ℕ) (j : ℕ) → j < 4
    → take 4 (take j (cells_of c) ++ (cell ∷ []) ++ drop (j + 1) (cells_of c)) ≡ slice_set (cells_of c) j cell
byte_put c cell zero h = refl
byte_put c cell (suc zero) h = refl
byte_put c cell (suc (suc zero)) h = refl
byte_put c cell (suc (suc (suc zero))) h = refl
byte_put c cell (suc (suc (suc (suc n)))) h = absurd (omega arith)

module _ (w : Words) (a : ℕ) (cell : Option ℕ) where
  -- what sets the byte in a word that was touched
  abbrev pub sets_byte : Store → Doing
  sets_byte words = put (site_of w) Free (byte_span a) (replaced (byte_span a) words (cell ∷ []))

  pub byte_outside : (b : Break) → or_break (place_break (site_of w).size (byte_span a)) (word_number a) ≡ Err b
      → Runs (write (site_of w) (byte_span a) (cell ∷ [])) w (Err (Breaks b)) w
  byte_outside b e =
      runs_stop (touch (site_of w) Writes (byte_span a)) sets_byte w w (Breaks b) (byte_nowhere w Writes a b e)

  module _ (t : Words) (k : ℕ)
      (e : or_break (place_break (site_of w).size (byte_span a)) (word_number a) ≡ Ok k) where
    pub byte_not_set : (why : Reason) → Runs (touch_word (site_of w) Writes k) w (Err why) t
        → Runs (write (site_of w) (byte_span a) (cell ∷ [])) w (Err why) t
    byte_not_set why h =
        runs_stop (touch (site_of w) Writes (byte_span a)) sets_byte w t why (word_busy w Writes a t k e why h)

    pub byte_set : (v : Words) (c : Cells) (left : Store) → most_neg ≤ a
        → Runs (touch_word (site_of w) Writes k) w (Ok (cells_of c)) t → site_of t ≡ site_of w
        → left ≡ slice_set (cells_of c) (a % 4) cell
        → Runs (change (WordAt t.number k) (Put (IsWord (record { cells = left; used = Free })))) t (Ok tt) v
        → Runs (write (site_of w) (byte_span a) (cell ∷ [])) w (Ok tt) v
    byte_set v c left above h same_site is changed =
        let low : place a % 4 < 4 = omega arith in
        let same : place a % 4 ≡ a % 4 = omega arith in
        let new : Store = replaced (byte_span a) (cells_of c) (cell ∷ []) in
        let there : take 4 new ≡ left =
        byte_put c cell (place a % 4) low ∙ ap (λ (j : ℕ). slice_set (cells_of c) j cell) same ∙ sym is in
        let o = passed (place_break (site_of w).size (byte_span a)) (word_number a) k e in
        runs_on (touch (site_of w) Writes (byte_span a)) sets_byte w t v (cells_of c) (Ok tt)
        (word_touched w Writes a t k e c h)
        (subst (λ (s : Site). Runs (put s Free (byte_span a) new) t (Ok tt) v) same_site
        (subst (λ (n : ℕ). Runs (put_words (site_of t) Free (word_number a) n new) t (Ok tt) v)
        (sym (one_word (place a)))
        (subst (λ (n : ℕ). Runs (put_words (site_of t) Free n 1 new) t (Ok tt) v) (sym o.1)
        (subst (λ (x : Store). Runs (change (WordAt t.number k) (Put (IsWord (record { cells = x; used = Free })))) t
        (Ok tt) v) (sym there) changed))))
