-- Faults: which are lack of memory, and the exit statuses of all of them; which fault is answered, and what has gone
-- out then.
-- Source: own choice.
use Rattle.std.specs.Prelude.{ℕ, ◌≡◌, Bool, true, false, if◌then◌else◌, List, Option, Result, Err, IsOk, IsOkAnd}
use Rattle.tplan.specs.declared.plan.BuildFault.TheVariants as build
use Rattle.tplan.specs.declared.wiring.WiringFault.TheVariants as wiring
use Rattle.trounds.specs.declared.report.NetFault.TheVariants as rounds
use Rattle.trounds.specs.declared.replays.ReplayFault.TheVariants as replays
use Rattle.tfiles.specs.declared.image.ImageFault.TheVariants as image
use Rattle.tfiles.specs.declared.log_reading.LogFault.TheVariants as log
use Rattle.tnames.specs.declared.reading.NamesFault.TheVariants as names
use Rattle.tfiles.specs.Failures.{HasRisen}
use Rattle.tfiles.specs.Outputs.{IsCut}
use Rattle.topening.specs.declared.fault.Fault.{Fault}
use Rattle.topening.specs.declared.fault.Fault.TheVariants as fault

-- there was no memory, wherever that showed
abbrev pub wants_memory : Fault → Bool
wants_memory fault.Memory = true
wants_memory (fault.Wiring wiring.OutOfMemory) = true
wants_memory (fault.Image n image.OutOfMemory) = true
wants_memory (fault.Net build.OutOfMemory) = true
wants_memory (fault.Rounds rounds.OutOfMemory) = true
wants_memory (fault.Log log.OutOfMemory) = true
wants_memory (fault.Names names.OutOfMemory) = true
wants_memory (fault.Replay replays.OutOfMemory) = true
wants_memory f = false

-- the same fault, but lack of memory as `Memory`, wherever it showed
abbrev pub settled : Fault → Fault
settled f = if wants_memory f then fault.Memory else f

-- 3 where the output failed or no log was found, 4 where there was no memory, else the input was bad
abbrev pub status_of : Fault → ℕ
status_of (fault.Output f) = 3
status_of fault.NoLog = 3
status_of f = if wants_memory f then 4 else 2

-- ---- which fault is answered

-- a fault is the one that is due, unless there was no memory; nothing was to be written yet
abbrev pub IsFaultOf : {T : Type 0} → Result T Fault → Fault → Type 0
IsFaultOf due fault.Memory = Unit {0}
IsFaultOf due (fault.Output f) = ⊥
IsFaultOf due f = due ≡ Err f

-- a fault of a text call is the one that is due, unless there was no memory or the text that was due could not be
-- written
abbrev pub IsDue : {T : Type 0} → Result T Fault → Fault → Type 0
IsDue due (fault.Output f) = IsOk due
IsDue due f = IsFaultOf due f

-- what has gone out where a text call answers a fault: the beginning of the text that was due, or nothing
abbrev pub IsLeft : {T W : Type 0} → (W → Option (List ℕ)) → (T → List ℕ) → Result T Fault → W → W → Fault → Type 0
IsLeft contents text due old new (fault.Output f) =
    IsOkAnd due (λ r. IsCut (contents old) (contents new) (text r) f.written)
IsLeft contents text due old new f = new ≡ old

-- the output is said to have failed only where its writer has counted a failure
abbrev pub HasOutputCause : Option ℕ → Option ℕ → Fault → Type 0
HasOutputCause before after (fault.Output f) = HasRisen before after
HasOutputCause before after f = Unit {0}
