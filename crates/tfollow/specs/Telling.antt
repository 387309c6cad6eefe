-- How the notes of what a step has touched are told to the check of races.
-- Source: own choice.
use Rattle.std.specs.Prelude.{ℕ, ◌+◌, ◌⊎◌, List, All, map}
use Rattle.tclocks.specs.declared.mode.Mode as clocks
use Rattle.tclocks.specs.declared.mode.Mode.TheVariants as mode
use Rattle.tclocks.specs.Checks.{Check}
use Rattle.tclocks.specs.Own.{IsOwnYet}
use Rattle.tclocks.specs.Followed.{HasCover}
use Rattle.tcertify.specs.declared.notes.Mode.{Mode}
use Rattle.tcertify.specs.declared.notes.Mode.TheVariants.{Looks, Claims, Puts, Lends, Engages, CountsDown, Adds}
use Rattle.tcertify.specs.declared.notes.Mode.TheVariants.{Raises}
use Rattle.tcertify.specs.declared.notes.Note.{Note}
use Rattle.tcertify.specs.Priorities.{number_of}
use Rattle.tcertify.specs.Walked.{Accessed}
use Rattle.tcertify.specs.Notes.{IsNoted}
use Rattle.tfollow.specs.Numbering.{Places}
use Rattle.tfollow.specs.Following.{Told, IsTold, IsToldOrOwn}

-- the mode in which a note is told
abbrev pub told_mode : Mode → clocks.Mode
told_mode Looks = mode.Looks
told_mode Claims = mode.Claims
told_mode Puts = mode.Puts
told_mode Lends = mode.Lends
told_mode Engages = mode.Commutes 0
told_mode (CountsDown p) = mode.Commutes (number_of p + 1)
told_mode Adds = mode.Commutes 10
told_mode Raises = mode.Commutes 11

-- the access that is told
abbrev pub told_of : Note → Told
told_of note = record { place = note.place; mode = told_mode note.mode }

-- what notes tell of is told with them
abbrev pub NotesAreTold : Type 0
NotesAreTold =
    (places : Places) (notes : List Note) (accesses : List Accessed) → All (IsNoted places notes) accesses
    → All (IsTold places (map told_of notes)) accesses

-- the same, if notes need not be told of which nobody else knows
abbrev pub NotesAreToldOrOwn : Type 0
NotesAreToldOrOwn =
    (places : Places) (check : Check) (number : ℕ) (notes : List Note) (told : List Told) (accesses : List Accessed)
    → All (IsNoted places notes) accesses
    → All (λ note. HasCover told note.place (told_mode note.mode)
    ⊎ IsOwnYet check number note.place (told_mode note.mode)) notes
    → All (IsToldOrOwn places check number told) accesses
