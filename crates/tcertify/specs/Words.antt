-- The words of a node as places, and what a call on them does.
-- Source: own choice.
use Rattle.std.specs.Prelude.{ℕ, ◌≡◌, ◌+◌, ◌*◌, ◌==◌, pos, List, Option, Some, None, Result, Ok, Err, length}
use Rattle.std.specs.Prelude.{option_map, slice_get, slice_set}
use Rattle.std.specs.Prelude.{if◌then◌else◌}
use Rattle.tword.specs.Stores.{Store}
use Rattle.tprocesses.specs.Places.{WordAt, Sending}
use Rattle.tprocesses.specs.Values.{Value, IsWord, IsAmount, Use, Word}
use Rattle.tprocesses.specs.Values as value
use Rattle.tprocesses.specs.Parts.{Reason, Part}
use Rattle.tprocesses.specs.Parts as reason
use Rattle.tprocesses.specs.Changes.{free_word}
use Rattle.tprocesses.specs.Touching.{Site}
use Rattle.tcertify.specs.declared.notes.Mode.{Mode}
use Rattle.tcertify.specs.declared.cells.Cells.{Cells}
use Rattle.tcertify.specs.declared.priority.Priority.TheVariants.{High, Low}
use Rattle.tcertify.specs.declared.stop.Stop.{Stop}
use Rattle.tcertify.specs.declared.stop.Stop.TheVariants as stop
use Rattle.tcertify.specs.declared.word_use.WordUse.{WordUse}
use Rattle.tcertify.specs.declared.word_use.WordUse.TheVariants as uses
use Rattle.tcertify.specs.declared.stored.StoredWord.{StoredWord}
use Rattle.tcertify.specs.declared.stored.Words.{Words}
use Rattle.tcertify.specs.Cells.{cells_of}
use Rattle.tcertify.specs.Notes.{AreNoted, Keeps, Numbering, NumbersWords, Tells}
use Rattle.tcertify.specs.Running.{State, run_part}
use Rattle.tcertify.specs.Walked.{accesses}
pub use Rattle.tcertify.specs.Priorities.{number_of}

-- why a part stops
abbrev pub reason_of : Stop → Reason
reason_of (stop.Breaks b) = reason.Breaks b
reason_of stop.Halts = reason.Halts
reason_of stop.SawTheScheduler = reason.SawTheScheduler
reason_of stop.SeveralReady = reason.SeveralReady
reason_of stop.WordInUse = reason.WordInUse
reason_of stop.FullSink = reason.FullSink
reason_of stop.HasNoStep = reason.HasNoStep

-- what a word is in use for
abbrev pub use_of : WordUse → Use
use_of uses.Free = value.Free
use_of uses.Saved = value.Saved
use_of uses.Receiving = value.Receiving
use_of uses.Engaged = value.Engaged
use_of uses.Choosing = value.Choosing
use_of uses.Awaiting = value.Awaiting
use_of uses.LastHigh = value.Last (number_of High)
use_of uses.LastLow = value.Last (number_of Low)
use_of uses.Spoilt = value.Spoilt

-- a stored word
abbrev pub word_of : StoredWord → Word
word_of w = record { cells = cells_of w.cells; used = use_of w.used }

-- a word of a memory in which nothing was loaded: free, 0, and no pending output has a byte of it
abbrev pub IsFresh : StoredWord → Type 0
IsFresh w = (word_of w ≡ free_word 0) × (w.sending ≡ 0)

-- the node that words belong to
abbrev pub site_of : Words → Site
site_of w = record { number = w.number; size = 4 * length w.items.items; kind = w.kind }

-- what stands at the place of a word, and of the outputs that have a byte of it: what a state has there, if there is
-- no such word
abbrev pub word_or : Option StoredWord → Value → Value
word_or (Some w) v = IsWord (word_of w)
word_or None v = v

abbrev pub sending_or : Option StoredWord → Value → Value
sending_or (Some w) v = IsAmount (pos w.sending)
sending_or None v = v

-- a state in which the words of a node stand so
abbrev pub with_words : ℕ → List StoredWord → State → State
with_words n words s (WordAt m k) = if n == m then word_or (slice_get words k) (s (WordAt m k)) else s (WordAt m k)
with_words n words s (Sending m k) =
    if n == m then sending_or (slice_get words k) (s (Sending m k)) else s (Sending m k)
with_words n words s p = s p

-- how many pending outputs have a byte of a word
abbrev pub sending_of : Option StoredWord → ℕ
sending_of (Some w) = w.sending
sending_of None = 0

abbrev pub standing : Words → State → State
standing w s = with_words w.number w.items.items s

-- what a call answered, as a part does
abbrev pub told : {X A : Type 0} → (X → A) → Result X Stop → Result A Reason
told f (Ok x) = Ok (f x)
told f (Err why) = Err (reason_of why)

-- the word of this number has these bytes
abbrev pub HasCells : List StoredWord → ℕ → Store → Type 0
HasCells words k cells = Some cells ≡ option_map (λ w. cells_of w.cells) (slice_get words k)

-- the words are as they were, and the word of this number is noted as touched so
pub record IsTouched (old : Words) (k : ℕ) (mode : Mode) (new : Words) : Type 0 where
  pub items : new.items.items ≡ old.items.items
  pub number : new.number ≡ old.number
  pub kind : new.kind ≡ old.kind
  pub first : new.first_place ≡ old.first_place
  pub keeps : Keeps old.notes new.notes
  pub tells : Tells new.notes (new.first_place + k) mode

-- the words are as they were except for this one, whose pending outputs stay
pub record IsSet (old : Words) (k : ℕ) (cells : Cells) (used : WordUse) (new : Words) : Type 0 where
  pub items : new.items.items ≡ slice_set old.items.items k
      (record { cells = cells; used = used; sending = sending_of (slice_get old.items.items k) })
  pub number : new.number ≡ old.number
  pub kind : new.kind ≡ old.kind
  pub first : new.first_place ≡ old.first_place
  pub notes : new.notes ≡ old.notes

-- a call answered what a part does and left the words as it does, whatever stands elsewhere; it noted what the part
-- accesses, which is all in these words
pub record Runs {A : Type 0} (part : Part A) (old : Words) (answer : Result A Reason) (new : Words) : Type 0 where
  pub runs : (rest : State) → run_part part (standing old rest) ≡ (answer, standing new rest)
  pub node : new.number ≡ old.number
  pub first : new.first_place ≡ old.first_place
  pub keeps : Keeps old.notes new.notes
  pub noted : (numbering : Numbering) → NumbersWords numbering old.number old.first_place → (rest : State)
      → AreNoted numbering new.notes (accesses part (standing old rest))
