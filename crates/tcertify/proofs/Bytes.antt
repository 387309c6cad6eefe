-- A byte is touched, in the word that it lies in.
use Rattle.std.proofs.Common.{◌≡◌, ℕ, zero, suc, ◌+◌, ◌/◌, ◌%◌, ◌<◌, ◌≤◌, refl, sym, ap, ◌∙◌, subst}
use Rattle.std.proofs.Common.{arith, [], ◌∷◌, ◌++◌}
use Rattle.std.proofs.Common.{Option, Result, Ok, Err}
use Rattle.std.specs.Prelude.{slice_range}
use Rattle.tword.specs.declared.breaks.Break.{Break}
use Rattle.tword.specs.Stores.{Store, place}
use Rattle.tword.specs.Words.{most_neg}
use Rattle.tword.specs.Actions.{or_break}
use Rattle.tword.specs.Touches.{Mode, place_break, byte_span}
use Rattle.tprocesses.specs.Parts.{Reason, Breaks, Part, gives, unless, ◌>>◌}
use Rattle.tprocesses.specs.Touching.{touch, touch_word, touch_words, part_of, word_number}
use Rattle.tcertify.specs.declared.cells.Cells.{Cells}
use Rattle.tcertify.specs.declared.stored.Words.{Words}
use Rattle.tcertify.specs.Cells.{cell_at, cells_of}
use Rattle.tcertify.specs.Instructions.{touch_byte}
use Rattle.tcertify.specs.Words.{Runs, site_of}
use Rattle.tcertify.proofs.Running.{runs_on, runs_stop, runs_stopping, runs_given}
use Rattle.tcertify.proofs.Places.{broken, passed}

-- one byte of a word
byte_in : (c : Cells) (j : ℕ) → j < 4 → slice_range (cells_of c) j (j + 1) ≡ cell_at c j ∷ []
byte_in c zero h = refl
byte_in c (suc zero) h = refl
byte_in c (suc (suc zero)) h = refl
byte_in c (suc (suc (suc zero))) h = refl
byte_in c (suc (suc (suc (suc n)))) h = absurd (omega arith)

-- a byte lies in one word
pub one_word : (x : ℕ) → (x % 4 + 1 + 3) / 4 ≡ 1
one_word x = omega arith

-- the bytes that are picked of a word
abbrev picks : ℕ → Store → Part Store
picks a words = gives (part_of (byte_span a) words)

module _ (w : Words) (mode : Mode) (a : ℕ) where
  abbrev by_break : Option Break → ℕ → ℕ → Part Store
  by_break o n count = unless o >> touch_words (site_of w) mode n count

  -- the byte may not lie there
  pub byte_nowhere : (b : Break) → or_break (place_break (site_of w).size (byte_span a)) (word_number a) ≡ Err b
      → Runs (touch (site_of w) mode (byte_span a)) w (Err (Breaks b)) w
  byte_nowhere b e =
      subst (λ (o : Option Break). Runs (by_break o (word_number a) ((place a % 4 + 1 + 3) / 4)) w (Err (Breaks b)) w)
      (sym (broken (place_break (site_of w).size (byte_span a)) (word_number a) b e)) (runs_stopping (Breaks b) w)

  pub byte_misplaced : (b : Break) → or_break (place_break (site_of w).size (byte_span a)) (word_number a) ≡ Err b
      → Runs (touch_byte (site_of w) mode a) w (Err (Breaks b)) w
  byte_misplaced b e =
      runs_stop (touch (site_of w) mode (byte_span a)) (picks a) w w (Breaks b) (byte_nowhere b e)

  module _ (v : Words) (k : ℕ)
      (e : or_break (place_break (site_of w).size (byte_span a)) (word_number a) ≡ Ok k) where
    -- the word is touched
    touches_word : (r : Result Store Reason)
        → Runs (touch_words (site_of w) mode k 1) w r v → Runs (touch (site_of w) mode (byte_span a)) w r v
    touches_word r h =
        let o = passed (place_break (site_of w).size (byte_span a)) (word_number a) k e in
        subst (λ (b : Option Break). Runs (by_break b (word_number a) ((place a % 4 + 1 + 3) / 4)) w r v) (sym o.0)
        (subst (λ (n : ℕ). Runs (touch_words (site_of w) mode n ((place a % 4 + 1 + 3) / 4)) w r v) (sym o.1)
        (subst (λ (n : ℕ). Runs (touch_words (site_of w) mode k n) w r v) (sym (one_word (place a))) h))

    pub word_busy : (why : Reason) → Runs (touch_word (site_of w) mode k) w (Err why) v
        → Runs (touch (site_of w) mode (byte_span a)) w (Err why) v
    word_busy why h =
        touches_word (Err why)
        (runs_stop (touch_word (site_of w) mode k) (λ (cells : Store). gives (cells ++ [])) w v why h)

    pub word_touched : (c : Cells) → Runs (touch_word (site_of w) mode k) w (Ok (cells_of c)) v
        → Runs (touch (site_of w) mode (byte_span a)) w (Ok (cells_of c)) v
    word_touched c h =
        touches_word (Ok (cells_of c))
        (runs_on (touch_word (site_of w) mode k) (λ (cells : Store). gives (cells ++ [])) w v v (cells_of c)
        (Ok (cells_of c)) h (runs_given (cells_of c) v))

    pub byte_busy : (why : Reason) → Runs (touch_word (site_of w) mode k) w (Err why) v
        → Runs (touch_byte (site_of w) mode a) w (Err why) v
    byte_busy why h = runs_stop (touch (site_of w) mode (byte_span a)) (picks a) w v why (word_busy why h)

    pub byte_seen : (c : Cells) (cell : Option ℕ) → most_neg ≤ a
        → Runs (touch_word (site_of w) mode k) w (Ok (cells_of c)) v → cell ≡ cell_at c (a % 4)
        → Runs (touch_byte (site_of w) mode a) w (Ok (cell ∷ [])) v
    byte_seen c cell above h is =
        let low : place a % 4 < 4 = omega arith in
        let same : place a % 4 ≡ a % 4 = omega arith in
        let picked : part_of (byte_span a) (cells_of c) ≡ cell ∷ [] =
        byte_in c (place a % 4) low ∙ ap (λ (j : ℕ). cell_at c j ∷ []) same
        ∙ ap (λ (x : Option ℕ). x ∷ []) (sym is) in
        runs_on (touch (site_of w) mode (byte_span a)) (picks a) w v v (cells_of c) (Ok (cell ∷ []))
        (word_touched c h)
        (subst (λ (x : Store). Runs (picks a (cells_of c)) v (Ok x) v) picked
        (runs_given (part_of (byte_span a) (cells_of c)) v))
