-- Steps in a row.
-- Source: own choice, the result of several steps.
use Rattle.std.specs.Prelude.{◌≡◌, ◌⊎◌, ℕ, zero, suc, ◌+◌, ◌-◌, ◌<◌, Bool, true, false, [], Option, Some, None, Result}
use Rattle.std.specs.Prelude.{Ok, Err, unwrap_or, if◌then◌else◌}
use Rattle.tword.specs.declared.breaks.Break.{Break}
use Rattle.tproc.specs.declared.ran.Ran.{Ran}
use Rattle.tproc.specs.declared.ran.Ran.TheVariants as ran
use Rattle.tproc.specs.declared.ran.RanMany.{RanMany}
use Rattle.tproc.specs.Machine.{Control, Machine}
use Rattle.tproc.specs.Steps.{step, step_left_by, step_answered}

-- whether a row of steps goes on after a step that did this
abbrev pub goes_on : Ran → Bool
goes_on ran.Halting = false
goes_on ran.Idle = false
goes_on ran.Halted = false
goes_on _ = true

-- a row with k more steps in front
abbrev pub behind : ℕ → Machine × RanMany → Machine × RanMany
behind k (n, row) = (n, record { count = k + row.count; last = row.last })

-- no step, and then this answer, if there is one
abbrev pub ends_with : Option (Result Ran Break) → RanMany
ends_with last = record { count = 0; last = last }

-- a row whose first step answered this and left this machine: it goes on, or ends here
abbrev pub followed : (Machine → Machine × RanMany) → Result Ran Break → Machine → Machine × RanMany
followed rest (Ok r) n = if goes_on r then behind 1 (rest n) else (n, ends_with (Some (Ok r)))
followed rest (Err b) n = (n, ends_with (Some (Err b)))

-- at most this number of steps in a row: the machine after them, how many were done that may be followed by another,
-- and the answer of the step behind them, where that is the last one: it halted the processor, there was none, or it
-- breaks a rule
unfoldable pub row : ℕ → Machine → Machine × RanMany
row zero n = (n, ends_with None)
row (suc k) n = followed (λ m. row k m) (step_answered (step n)) (step_left_by n (step n))

-- what is left of a row that is done in part: its next step has answered this, or is due
abbrev pub rest_of_row : ℕ → Option (Result Ran Break) → Machine → Machine × RanMany
rest_of_row left None n = row left n
rest_of_row left (Some answer) n = followed (λ m. row (left - 1) m) answer n

-- the process that runs, of this priority, does its next instructions, this many, and no other may run: it is high,
-- or no high one is queued and its timeslice goes on behind them
pub record RunsAlone (priority count : ℕ) (m : Control) : Type 0 where
  pub going : m.halted ≡ false
  pub running : m.current ≡ Some priority
  pub alone : (priority ≡ 0) ⊎ ((priority ≡ 1) × (m.high ≡ []) × (m.count + count < m.timeslice))

-- the answer of an instruction, where none says that the process goes on
abbrev pub answer_of : Option (Result Ran Break) → Result Ran Break
answer_of answer = unwrap_or answer (Ok ran.Instruction)
