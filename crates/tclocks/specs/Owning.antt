-- How long nobody but the agent knows of an access: until the agent's clock is handed on.
-- Source: own choice.
use Rattle.std.specs.Prelude.{ℕ, ◌≢◌, ◌+◌, ◌<◌, ◌⊎◌, List, length}
use Rattle.tagents.specs.Agents.{Agents}
use Rattle.tagents.specs.Clocks.{Entry}
use Rattle.tagents.specs.Tables.{Access as PlaceAccess, Accesses}
use Rattle.tclocks.specs.declared.mode.Mode.{Mode}
use Rattle.tclocks.specs.Checks.{Check, steps_of, with_agent, with_slot, with_places, with_handed, with_added}
use Rattle.tclocks.specs.Checks.{with_cleared}
use Rattle.tclocks.specs.Numbers.{Numbers}
use Rattle.tclocks.specs.Own.{NoneKnowFrom, IsOwnYet, AreBegun}
use Rattle.tclocks.specs.Followed.{HasCover, IsStep}
use Rattle.tclocks.specs.Laws.{HasSeen}

-- this holds behind each call for the check, unless it hands on the clock of this agent
pub record StaysUntilHanded (P : Check → Type 0) (check : Check) (agent : ℕ) : Type 0 where
  pub by_step : (other : ℕ) (slots : List ℕ) (done : List (PlaceAccess ℕ Mode)) (after : Check)
      → other < length check.clocks → IsStep other slots done check after → P after
  pub by_handed : (other slot : ℕ) → other ≢ agent → P (with_handed other slot check)
  pub by_added : (other slot : ℕ) → other ≢ agent → P (with_added other slot check)
  pub by_cleared : (slot : ℕ) → P (with_cleared slot check)
  pub by_agent : P (with_agent check)
  pub by_slot : P (with_slot check)
  pub by_places : (count : ℕ) → P (with_places count check)

-- so long nobody else knows of its steps
abbrev pub StepsStayUnknown : Type 0
StepsStayUnknown =
    (check : Check) (agent number : ℕ) → NoneKnowFrom check agent number
    → StaysUntilHanded (λ c. NoneKnowFrom c agent number) check agent

-- and its accesses need not be told again
abbrev pub OwnAccessesStay : Type 0
OwnAccessesStay =
    (check : Check) (agent place : ℕ) (mode : Mode) → AreBegun check → IsOwnYet check agent place mode
    → StaysUntilHanded (λ c. IsOwnYet c agent place mode) check agent

-- nor need those that a step was told with
abbrev pub ToldAccessesAreOwn : Type 0
ToldAccessesAreOwn =
    (before after : Check) (agent : ℕ) (slots : List ℕ) (done : List (PlaceAccess ℕ Mode)) (place : ℕ) (mode : Mode)
    → agent < length before.clocks → NoneKnowFrom before agent (steps_of before agent + 1)
    → IsStep agent slots done before after → HasCover done place mode → IsOwnYet after agent place mode

-- what nobody else knows of behind a step was told with it, or nobody else knew of it before
abbrev pub OwnAccessesWereTold : Type 0
OwnAccessesWereTold =
    (before after : Check) (agent : ℕ) (slots : List ℕ) (done : List (PlaceAccess ℕ Mode)) (place : ℕ) (mode : Mode)
    → agent < length before.clocks → IsStep agent slots done before after → IsOwnYet after agent place mode
    → HasCover done place mode ⊎ IsOwnYet before agent place mode

-- nobody else knows of steps that were not begun, and no access of one is kept
pub record HasNoNewSteps (check : Check) : Type 0 where
  pub unknown : (agent : ℕ) → NoneKnowFrom check agent (steps_of check agent + 1)
  pub begun : AreBegun check

-- this holds of each check that has seen steps
abbrev pub NewStepsAreUnknown : (State Agent Label Place Kind : Type 0) → Type 0
NewStepsAreUnknown State Agent Label Place Kind =
    (m : Agents State Agent Label) (accesses : Accesses Place Kind Label) (numbers : Numbers Agent Place Kind)
    (entries : List (Entry Agent Label)) (writers : ℕ → List Label) (check : Check)
    → HasSeen m accesses numbers entries writers check → HasNoNewSteps check
