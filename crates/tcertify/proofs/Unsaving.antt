-- Saved words that are for programs again.
use Rattle.std.proofs.Common.{◌≡◌, ℕ, sym, subst, Bool, true, false, Some, Result, Ok, Err}
use Rattle.std.specs.Prelude.{slice_get}
use Rattle.tword.specs.Stores.{Store}
use Rattle.tword.specs.Words.{word_below}
use Rattle.tprocesses.specs.Places.{WordAt}
use Rattle.tprocesses.specs.Values.{Use, Value, IsWord, Free, Saved, word_in}
use Rattle.tprocesses.specs.Changes.{Put}
use Rattle.tprocesses.specs.Parts.{Reason, WordInUse, Part, Doing, gives, see, change, require, ◌>>◌}
use Rattle.tprocesses.specs.Touching.{Site, same_use, word_for, word_number, word_place}
use Rattle.tprocesses.specs.Standing.{unsave, unsave_upper, unsave_word}
use Rattle.tcertify.specs.declared.notes.Mode.TheVariants as noted
use Rattle.tcertify.specs.declared.stored.StoredWord.{StoredWord}
use Rattle.tcertify.specs.declared.stored.Words.{Words}
use Rattle.tcertify.specs.Cells.{cells_of}
use Rattle.tcertify.specs.Walked.{look_at}
use Rattle.tcertify.specs.Words.{IsTouched, Runs, site_of, use_of, word_of}
use Rattle.tcertify.proofs.Noting.{Has, runs_seen, runs_touched, site_touched}
use Rattle.tcertify.proofs.Running.{runs_given, runs_on, runs_stop, runs_stopping}
use Rattle.tcertify.proofs.Places.{word_stands}

module _ (w : Words) (k : ℕ) (x : StoredWord) (there : slice_get w.items.items k ≡ Some x)
    (seen : Has w (look_at (WordAt w.number k))) where
  module _ (u : Use) where
    -- what follows the look
    abbrev seen_on : Value → Part Store
    seen_on v = require (same_use (word_in v).used u) WordInUse >> gives (word_in v).cells

    -- what follows the check
    abbrev checked_on : Bool → Part Store
    checked_on t = require t WordInUse >> gives (cells_of x.cells)

    looked : (t : Bool) (r : Result Store Reason) → same_use (use_of x.used) u ≡ t → Runs (checked_on t) w r w
        → Runs (word_for (site_of w) u k) w r w
    looked t r e h =
        runs_on (see (WordAt w.number k)) seen_on w w w (IsWord (word_of x)) r
        (runs_seen w (WordAt w.number k) (IsWord (word_of x)) (word_stands w k x there) seen)
        (subst (λ (b : Bool). Runs (checked_on b) w r w) (sym e) h)

    pub has_use : same_use (use_of x.used) u ≡ true → Runs (word_for (site_of w) u k) w (Ok (cells_of x.cells)) w
    has_use e = looked true (Ok (cells_of x.cells)) e (runs_given (cells_of x.cells) w)

    pub has_other_use : same_use (use_of x.used) u ≡ false → Runs (word_for (site_of w) u k) w (Err WordInUse) w
    has_other_use e = looked false (Err WordInUse) e (runs_stopping WordInUse w)

module _ (w v : Words) (a k : ℕ) (at : k ≡ word_number a) (t : IsTouched w k noted.Puts v) where
  -- what frees a saved word
  abbrev frees : Store → Doing
  frees cells = change (word_place (site_of v) a) (Put (IsWord (record { cells = cells; used = Free })))

  behind_note : (u : Words) (r : Result (Unit {0}) Reason) → Runs (unsave_word (site_of v) a) v r u
      → Runs (unsave_word (site_of w) a) w r u
  behind_note u r h =
      runs_touched (unsave_word (site_of w) a) w v u k noted.Puts r t
      (subst (λ (s : Site). Runs (unsave_word s a) v r u) (site_touched w v k noted.Puts t) h)

  pub unsaves_not : (why : Reason) → Runs (word_for (site_of v) Saved k) v (Err why) v
      → Runs (unsave_word (site_of w) a) w (Err why) v
  unsaves_not why h =
      behind_note v (Err why)
      (runs_stop (word_for (site_of v) Saved (word_number a)) frees v v why
      (subst (λ (n : ℕ). Runs (word_for (site_of v) Saved n) v (Err why) v) at h))

  pub unsaves : (u : Words) (cells : Store) → Runs (word_for (site_of v) Saved k) v (Ok cells) v
      → Runs (change (WordAt v.number k) (Put (IsWord (record { cells = cells; used = Free })))) v (Ok tt) u
      → Runs (unsave_word (site_of w) a) w (Ok tt) u
  unsaves u cells h changed =
      behind_note u (Ok tt)
      (runs_on (word_for (site_of v) Saved (word_number a)) frees v v u cells (Ok tt)
      (subst (λ (n : ℕ). Runs (word_for (site_of v) Saved n) v (Ok cells) v) at h)
      (subst (λ (n : ℕ). Runs (change (WordAt v.number n) (Put (IsWord (record { cells = cells; used = Free })))) v
      (Ok tt) u) at changed))

-- the upper two words below a workspace, and all three
module _ (w v : Words) (a : ℕ) where
  pub unsaves_none : (why : Reason) → Runs (unsave_word (site_of w) (word_below a 2)) w (Err why) v
      → Runs (unsave_upper (site_of w) a) w (Err why) v
  unsaves_none why h =
      runs_stop (unsave_word (site_of w) (word_below a 2)) (λ _. unsave_word (site_of w) (word_below a 1)) w v why h

  pub unsaves_both : (u : Words) (r : Result (Unit {0}) Reason)
      → Runs (unsave_word (site_of w) (word_below a 2)) w (Ok tt) v → site_of v ≡ site_of w
      → Runs (unsave_word (site_of v) (word_below a 1)) v r u → Runs (unsave_upper (site_of w) a) w r u
  unsaves_both u r first same second =
      runs_on (unsave_word (site_of w) (word_below a 2)) (λ _. unsave_word (site_of w) (word_below a 1)) w v u tt r
      first (subst (λ (s : Site). Runs (unsave_word s (word_below a 1)) v r u) same second)

  pub unsaves_lowest_not : (why : Reason) → Runs (unsave_word (site_of w) (word_below a 3)) w (Err why) v
      → Runs (unsave (site_of w) a) w (Err why) v
  unsaves_lowest_not why h =
      runs_stop (unsave_word (site_of w) (word_below a 3)) (λ _. unsave_upper (site_of w) a) w v why h

  pub unsaves_all : (u : Words) (r : Result (Unit {0}) Reason)
      → Runs (unsave_word (site_of w) (word_below a 3)) w (Ok tt) v → site_of v ≡ site_of w
      → Runs (unsave_upper (site_of v) a) v r u → Runs (unsave (site_of w) a) w r u
  unsaves_all u r first same second =
      runs_on (unsave_word (site_of w) (word_below a 3)) (λ _. unsave_upper (site_of w) a) w v u tt r first
      (subst (λ (s : Site). Runs (unsave_upper s a) v r u) same second)
