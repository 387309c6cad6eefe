-- Accesses of which nobody knows but the agent that made them: it need not tell again what they cover.
-- Source: own choice.
use Rattle.std.specs.Prelude.{ℕ, ◌≡◌, ◌≢◌, ◌<◌, ◌≤◌, true, Contains, slice_index}
use Rattle.tclocks.specs.declared.mode.Mode.{Mode}
use Rattle.tclocks.specs.declared.step.Access.{Access}
use Rattle.tclocks.specs.Modes.{covers}
use Rattle.tclocks.specs.Checks.{Check, clock_of, clock_in, accesses_at, steps_of}

-- nobody else knows of the agent's steps from this number on
pub record NoneKnowFrom (check : Check) (agent number : ℕ) : Type 0 where
  pub clocks : (other : ℕ) → other ≢ agent → slice_index (clock_of check other) agent < number
  pub slots : (slot : ℕ) → slice_index (clock_in check slot) agent < number

-- an access of the agent is kept at the place that collides with all that one of this mode collides with, and nobody
-- else knows of it
pub record IsOwnYet (check : Check) (agent place : ℕ) (mode : Mode) : Type 0 where
  pub access : Access
  pub there : Contains (accesses_at check place) access
  pub by : access.step.agent ≡ agent
  pub over : covers access.mode mode ≡ true
  pub unknown : NoneKnowFrom check agent access.step.number

-- each access that is kept is of a step that was begun
abbrev pub AreBegun : Check → Type 0
AreBegun check = (place : ℕ) (access : Access) → Contains (accesses_at check place) access
    → access.step.number ≤ steps_of check access.step.agent
