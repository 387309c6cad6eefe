-- Changes that are made without a look: each puts what it makes of the word that is there.
use Rattle.std.proofs.Common.{◌≡◌, ℕ, refl, sym, subst, ap, ◌∙◌, Bool, true, false, Some, Ok}
use Rattle.std.specs.Prelude.{◌==◌, ◌&&◌, slice_get, if◌then◌else◌}
use Rattle.std.proofs.lemmas.Bool.{eqb-true}
use Rattle.tprocesses.specs.Places.{Place, WordAt, Sending, Standing, Ports, Half, LinkHalf, Error, HaltOnError}
use Rattle.tprocesses.specs.Places.{Unfinished, Life, Successions, Messages, Kept, Population, HasRun, FlagChanged}
use Rattle.tprocesses.specs.Values.{Value, IsWord}
use Rattle.tprocesses.specs.Changes.{Change, Put, apply}
use Rattle.tprocesses.specs.Parts.{change}
use Rattle.tprocesses.specs.Touching.{word_number, word_place}
use Rattle.tcertify.specs.declared.cells.Cells.{Cells}
use Rattle.tcertify.specs.declared.notes.Mode.{Mode}
use Rattle.tcertify.specs.declared.stored.StoredWord.{StoredWord}
use Rattle.tcertify.specs.declared.stored.Words.{Words}
use Rattle.tcertify.specs.declared.word_use.WordUse.{WordUse}
use Rattle.tcertify.specs.Cells.{cells_of}
use Rattle.tcertify.specs.Running.{State, changed}
use Rattle.tcertify.specs.Walked.{change_at}
use Rattle.tcertify.specs.Words.{IsSet, IsTouched, Runs, site_of, standing, use_of, word_of}
use Rattle.tcertify.proofs.Noting.{Has, runs_changed, runs_touched}
use Rattle.tcertify.proofs.Places.{set_state, word_stands}

module _ (s : State) (n k : ℕ) (c : Change) (v : Value) (makes : apply c (s (WordAt n k)) ≡ v) where
  -- at a word
  put_word : (m l : ℕ) (b d : Bool) → (n == m) ≡ b → (k == l) ≡ d
      → (if b && d then apply c (s (WordAt m l)) else s (WordAt m l)) ≡ (if b && d then v else s (WordAt m l))
  put_word m l true true e f =
      ap (λ (j : ℕ). apply c (s (WordAt j l))) (sym (eqb-true n m e))
      ∙ ap (λ (j : ℕ). apply c (s (WordAt n j))) (sym (eqb-true k l f)) ∙ makes
  put_word m l true false e f = refl
  put_word m l false d e f = refl

  put_at : (p : Place) → changed (WordAt n k) c s p ≡ changed (WordAt n k) (Put v) s p
  put_at (WordAt m l) = put_word m l (n == m) (k == l) refl refl
  put_at (Sending m l) = refl
  put_at (Standing z) = refl
  put_at (Ports z) = refl
  put_at (Half m l z) = refl
  put_at (LinkHalf z l) = refl
  put_at (Unfinished z) = refl
  put_at (Error m) = refl
  put_at (HaltOnError m) = refl
  put_at (Life m l) = refl
  put_at (Successions m l) = refl
  put_at (Messages z) = refl
  put_at (Kept z) = refl
  put_at (Population m) = refl
  put_at (HasRun m l) = refl
  put_at (FlagChanged m) = refl

  pub as_put : changed (WordAt n k) c s ≡ changed (WordAt n k) (Put v) s
  as_put = λ i p. put_at p i

-- the same of the words of a node
pub changes_word : (w v : Words) (a k : ℕ) (c : Change) (x : StoredWord) (cells : Cells) (used : WordUse)
    → k ≡ word_number a → slice_get w.items.items k ≡ Some x → IsSet w k cells used v
    → apply c (IsWord (word_of x)) ≡ IsWord (record { cells = cells_of cells; used = use_of used })
    → Has w (change_at (WordAt w.number k) c) → Runs (change (word_place (site_of w) a) c) w (Ok tt) v
changes_word w v a k c x cells used at there s makes has =
    subst (λ (j : ℕ). Runs (change (WordAt w.number j) c) w (Ok tt) v) at
    (runs_changed w v (WordAt w.number k) c
    (λ rest. as_put (standing w rest) w.number k c (IsWord (record { cells = cells_of cells; used = use_of used }))
    (ap (apply c) (word_stands w k x there rest) ∙ makes)
    ∙ set_state w v k x cells used there s rest)
    s.number s.first s.notes has)

-- the same of a word that is noted first
pub touched_blind : (w v u : Words) (a k : ℕ) (note : Mode) (c : Change) → IsTouched w k note v → k ≡ word_number a
    → Runs (change (word_place (site_of v) a) c) v (Ok tt) u → Runs (change (word_place (site_of w) a) c) w (Ok tt) u
touched_blind w v u a k note c t at h =
    runs_touched (change (word_place (site_of w) a) c) w v u k note (Ok tt) t
    (subst (λ (n : ℕ). Runs (change (WordAt n (word_number a)) c) v (Ok tt) u) t.number h)
