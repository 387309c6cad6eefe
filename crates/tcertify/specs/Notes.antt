-- Notes of what a step has touched, and the accesses that they tell of.
-- Source: own choice.
use Rattle.std.specs.Prelude.{ℕ, ◌≡◌, ◌+◌, ◌<◌, ◌≤◌, ◌==◌, Bool, true, false, List, All, Contains, Some, slice_get}
use Rattle.tagents.specs.WalkAccesses as walks
use Rattle.tprocesses.specs.Places.{Place, WordAt, Sending}
use Rattle.tprocesses.specs.Changes.{ChangeKind, Puts, Engages, Adds, Raises, Decrements}
use Rattle.tcertify.specs.declared.notes.Mode.{Mode}
use Rattle.tcertify.specs.declared.notes.Mode.TheVariants as noted
use Rattle.tcertify.specs.declared.notes.Note.{Note}
use Rattle.tcertify.specs.declared.notes.Notes.{Notes}
use Rattle.tcertify.specs.Priorities.{number_of}
use Rattle.tcertify.specs.Walked.{Accessed}

-- the number that notes have for each place
abbrev pub Numbering : Type 0
Numbering = Place → ℕ

-- a note at a place where a value stands tells of a look at it, or of a change of some kind
abbrev pub tells_of_value : Mode → walks.Mode ChangeKind → Bool
tells_of_value noted.Looks walks.Looks = true
tells_of_value noted.Claims walks.Looks = true
tells_of_value noted.Puts walks.Looks = true
tells_of_value noted.Puts (walks.Changes Puts) = true
tells_of_value noted.Engages (walks.Changes Engages) = true
tells_of_value (noted.CountsDown p) (walks.Changes (Decrements q)) = number_of p == q
tells_of_value noted.Adds (walks.Changes Adds) = true
tells_of_value noted.Raises (walks.Changes Raises) = true
tells_of_value _ _ = false

-- a note at a word tells of a look at how many pending outputs have a byte of it, or of a number that is added. Whoever
-- takes a channel word or counts down a count may have looked at its outputs: both collide with what adds to them
abbrev pub tells_of_outputs : Mode → walks.Mode ChangeKind → Bool
tells_of_outputs noted.Claims walks.Looks = true
tells_of_outputs noted.Puts walks.Looks = true
tells_of_outputs noted.Engages walks.Looks = true
tells_of_outputs (noted.CountsDown p) walks.Looks = true
tells_of_outputs noted.Lends (walks.Changes Adds) = true
tells_of_outputs _ _ = false

-- a note of this mode tells of an access of that mode to a place
abbrev pub tells_of : Mode → Place → walks.Mode ChangeKind → Bool
tells_of mode (Sending n k) access = tells_of_outputs mode access
tells_of mode _ access = tells_of_value mode access

-- one of the notes tells of the access
pub record IsNoted (numbering : Numbering) (notes : List Note) (access : Accessed) : Type 0 where
  pub note : Note
  pub there : Contains notes note
  pub place : numbering access.place ≡ note.place
  pub tells : tells_of note.mode access.place access.mode ≡ true

-- the notes still tell of each access of which they told, unless a note got lost; those of earlier steps are as they
-- were
pub record Keeps (old new : Notes) : Type 0 where
  pub lost : new.is_lost ≡ false → old.is_lost ≡ false
  pub notes : new.is_lost ≡ false → (numbering : Numbering) (access : Accessed)
      → IsNoted numbering old.items.items access → IsNoted numbering new.items.items access
  pub earlier : new.earlier ≡ old.earlier
  pub stay : (k : ℕ) (note : Note) → k < old.earlier → slice_get old.items.items k ≡ Some note
      → slice_get new.items.items k ≡ Some note

-- the notes tell of each access of which one of this mode at the place tells, unless a note got lost
pub record Tells (notes : Notes) (place : ℕ) (mode : Mode) : Type 0 where
  pub noted : notes.is_lost ≡ false → (numbering : Numbering) (access : Accessed) → numbering access.place ≡ place
      → tells_of mode access.place access.mode ≡ true → IsNoted numbering notes.items.items access

-- the note of this number is one of this step at the place, and one of this mode tells of each access of which it tells
pub record MayRaise (notes : Notes) (k place : ℕ) (mode : Mode) : Type 0 where
  pub note : Note
  pub there : slice_get notes.items.items k ≡ Some note
  pub late : notes.earlier ≤ k
  pub same : note.place ≡ place
  pub tells : (p : Place) (access : walks.Mode ChangeKind) → tells_of note.mode p access ≡ true
      → tells_of mode p access ≡ true

-- the accesses are noted, unless a note got lost
abbrev pub AreNoted : Numbering → Notes → List Accessed → Type 0
AreNoted numbering notes accesses =
    notes.is_lost ≡ false → All (IsNoted numbering notes.items.items) accesses

-- the words of a node, and how many pending outputs have a byte of each, are numbered from the first place on
pub record NumbersWords (numbering : Numbering) (node first : ℕ) : Type 0 where
  pub word : (k : ℕ) → numbering (WordAt node k) ≡ first + k
  pub sending : (k : ℕ) → numbering (Sending node k) ≡ first + k
