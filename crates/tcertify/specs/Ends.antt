-- What stands at only one place, as the messages of a source or of a sink do.
-- Source: own choice.
use Rattle.std.specs.Prelude.{ℕ, ◌≡◌, map, Result, Ok, Err, if◌then◌else◌}
use Rattle.tprocesses.specs.Parts.{Part, Reason}
use Rattle.tprocesses.specs.Places.{Place, same_place}
use Rattle.tprocesses.specs.Values.{Value, AreKept}
use Rattle.tcertify.specs.declared.fault.Fault.{Fault}
use Rattle.tcertify.specs.declared.fault.Fault.TheVariants as fault
use Rattle.tcertify.specs.declared.notes.Notes.{Notes}
use Rattle.tcertify.specs.declared.sink.Sink.{Sink}
use Rattle.tcertify.specs.Notes.{AreNoted, Keeps, Numbering}
use Rattle.tcertify.specs.Running.{State, run_part}
use Rattle.tcertify.specs.Walked.{accesses}
use Rattle.tcertify.specs.Words.{reason_of}

-- a state in which this stands at a place
abbrev pub standing_at : Place → Value → State → State
standing_at p v s q = if same_place p q then v else s q

-- a value at a place of this number, and the notes of the step so far
pub record Spot : Type 0 where
  pub value : Value
  pub notes : Notes

-- a call answered what a part does and left at the place what it does, whatever stands elsewhere; it noted what the
-- part accesses
pub record RunsThere {A : Type 0} (p : Place) (place : ℕ) (part : Part A) (old : Spot) (answer : Result A Reason)
    (new : Spot) : Type 0 where
  pub runs : (rest : State)
      → run_part part (standing_at p old.value rest) ≡ (answer, standing_at p new.value rest)
  pub keeps : Keeps old.notes new.notes
  pub noted : (numbering : Numbering) → numbering p ≡ place → (rest : State)
      → AreNoted numbering new.notes (accesses part (standing_at p old.value rest))

-- the same for a call that may find memory out, which tells nothing then
abbrev pub DoesThere : {X A : Type 0} → Place → ℕ → Part A → (X → A) → Spot → Result X Fault → Spot → Type 0
DoesThere p place part f old (Ok x) new = RunsThere p place part old (Ok (f x)) new
DoesThere p place part f old (Err (fault.Stops why)) new = RunsThere p place part old (Err (reason_of why)) new
DoesThere p place part f old (Err fault.OutOfMemory) new = Unit {0}

abbrev pub messages_kept : Sink → Value
messages_kept s = AreKept s.room (map (λ m. m.items) s.messages.items)
