-- A word at an address is set, or is not.
use Rattle.std.proofs.Common.{◌≡◌, ℕ, sym, subst, Result, Ok, Err}
use Rattle.tword.specs.Stores.{Store}
use Rattle.tword.specs.Words.{word_below}
use Rattle.tword.specs.Actions.{or_break}
use Rattle.tword.specs.Touches.{Writes, word_place_break}
use Rattle.tprocesses.specs.Places.{WordAt}
use Rattle.tprocesses.specs.Values.{IsWord, Use}
use Rattle.tprocesses.specs.Changes.{Change, Put}
use Rattle.tprocesses.specs.Parts.{Reason, Doing, change, ◌>>=◌}
use Rattle.tprocesses.specs.Touching.{Site, touch_word, touch_word_at, word_number, word_place}
use Rattle.tprocesses.specs.Touching.{save, save_upper, save_word, forgotten}
use Rattle.tcertify.specs.declared.stored.Words.{Words}
use Rattle.tcertify.specs.Words.{Runs, site_of}
use Rattle.tcertify.proofs.Running.{runs_on, runs_stop}
use Rattle.tcertify.proofs.Places.{placed, word_number_is}

-- these bytes, whatever stood there
abbrev pub fixed : Store → Store → Store
fixed new cells = new

-- what sets a word that has been touched
abbrev pub setting : Words → ℕ → Use → (Store → Store) → Store → Doing
setting w a u new cells = change (word_place (site_of w) a) (Put (IsWord (record { cells = new cells; used = u })))

-- a change at a word, by its address
change_at : (w v : Words) (a k : ℕ) (c : Change) → word_number a ≡ k → Runs (change (WordAt w.number k) c) w (Ok tt) v
    → Runs (change (word_place (site_of w) a) c) w (Ok tt) v
change_at w v a k c e h = subst (λ (n : ℕ). Runs (change (WordAt w.number n) c) w (Ok tt) v) (sym e) h

-- it may not be touched
pub sets_not : (w v : Words) (a : ℕ) (u : Use) (new : Store → Store) (why : Reason)
    → Runs (touch_word_at (site_of w) Writes a) w (Err why) v
    → Runs (touch_word_at (site_of w) Writes a >>= setting w a u new) w (Err why) v
sets_not w v a u new why h = runs_stop (touch_word_at (site_of w) Writes a) (setting w a u new) w v why h

-- it is set
pub sets : (w t v : Words) (a k : ℕ) (u : Use) (new : Store → Store) (cells left : Store) → left ≡ new cells
    → or_break (word_place_break (site_of w).size a) (word_number a) ≡ Ok k
    → Runs (touch_word (site_of w) Writes k) w (Ok cells) t → site_of t ≡ site_of w
    → Runs (change (WordAt t.number k) (Put (IsWord (record { cells = left; used = u })))) t (Ok tt) v
    → Runs (touch_word_at (site_of w) Writes a >>= setting w a u new) w (Ok tt) v
sets w t v a k u new cells left is at touched same changed =
    runs_on (touch_word_at (site_of w) Writes a) (setting w a u new) w t v cells (Ok tt)
    (placed w Writes a t k (Ok cells) at touched)
    (subst (λ (s : Site). Runs (change (word_place s a) (Put (IsWord (record { cells = new cells; used = u })))) t
    (Ok tt) v) same
    (change_at t v a k (Put (IsWord (record { cells = new cells; used = u }))) (word_number_is w a k at)
    (subst (λ (x : Store). Runs (change (WordAt t.number k) (Put (IsWord (record { cells = x; used = u })))) t
    (Ok tt) v)
    is changed)))

-- the upper two words below a workspace are saved, or one of them may not be written
module _ (w v : Words) (a : ℕ) where
  pub saves_none : (why : Reason) → Runs (save_word (site_of w) (word_below a 2) forgotten) w (Err why) v
      → Runs (save_upper (site_of w) a) w (Err why) v
  saves_none why h =
      runs_stop (save_word (site_of w) (word_below a 2) forgotten)
      (λ _. save_word (site_of w) (word_below a 1) forgotten) w v why h

  pub saves_both : (u : Words) (r : Result (Unit {0}) Reason)
      → Runs (save_word (site_of w) (word_below a 2) forgotten) w (Ok tt) v → site_of v ≡ site_of w
      → Runs (save_word (site_of v) (word_below a 1) forgotten) v r u → Runs (save_upper (site_of w) a) w r u
  saves_both u r first same second =
      runs_on (save_word (site_of w) (word_below a 2) forgotten)
      (λ _. save_word (site_of w) (word_below a 1) forgotten) w v u tt r first
      (subst (λ (s : Site). Runs (save_word s (word_below a 1) forgotten) v r u) same second)

-- all three are, or the lowest may not be written
module _ (w v : Words) (a : ℕ) (lowest : Store → Store) where
  pub saves_not : (why : Reason) → Runs (save_word (site_of w) (word_below a 3) lowest) w (Err why) v
      → Runs (save (site_of w) a lowest) w (Err why) v
  saves_not why h = runs_stop (save_word (site_of w) (word_below a 3) lowest) (λ _. save_upper (site_of w) a) w v why h

  pub saves : (u : Words) (r : Result (Unit {0}) Reason)
      → Runs (save_word (site_of w) (word_below a 3) lowest) w (Ok tt) v → site_of v ≡ site_of w
      → Runs (save_upper (site_of v) a) v r u → Runs (save (site_of w) a lowest) w r u
  saves u r first same second =
      runs_on (save_word (site_of w) (word_below a 3) lowest) (λ _. save_upper (site_of w) a) w v u tt r first
      (subst (λ (s : Site). Runs (save_upper s a) v r u) same second)
