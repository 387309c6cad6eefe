-- How a command ends: its exit status, and what has gone out of a text that could not be written.
-- Source: own choice.
use Rattle.std.specs.Prelude.{ℕ, ◌⊎◌, List, Option, Result, Ok, Err}
use Rattle.std.specs.Io.KnownBytes.{Appends}
use Rattle.tfiles.specs.Failures.{HasRisen, HasStayed}
use Rattle.tfiles.specs.Outputs.{IsCut}
use Rattle.topening.specs.declared.fault.Fault.{Fault}
use Rattle.topening.specs.declared.verdict.Verdict.{Verdict}
use Rattle.topening.specs.Faults.{status_of}
use Rattle.topening.specs.Verdicts.{verdict_status}

-- the exit status of a command: that of its verdict, or that of its fault
abbrev pub exit_status : Result Verdict Fault → ℕ
exit_status (Ok v) = verdict_status v
exit_status (Err f) = status_of f

-- just the first bytes of a text went out, however many
abbrev pub IsBegun : Option (List ℕ) → Option (List ℕ) → List ℕ → Type 0
IsBegun old new text = (written : ℕ) × IsCut old new text written

-- a text went out whole, and no write failed; or its first bytes did, and a write failed
abbrev pub GoesOut : {W : Type 0} → (W → Option (List ℕ)) → (W → Option ℕ) → W → W → List ℕ → Type 0
GoesOut contents failures old new text =
    (Appends (contents old) (contents new) text × HasStayed (failures old) (failures new))
    ⊎ (IsBegun (contents old) (contents new) text × HasRisen (failures old) (failures new))
