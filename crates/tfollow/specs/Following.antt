-- What a program knows that runs the process machine of a plan and tells each step to the check of races.
-- Source: own choice.
use Rattle.std.specs.Prelude.{ℕ, ◌≡◌, ◌<◌, ◌≤◌, ◌⊎◌, ◌==◌, true, List, [], ◌∷◌, ◌++◌, All, Contains, Ok, Some, length}
use Rattle.std.specs.Prelude.{reverse}
use Rattle.std.specs.List.{count_by}
use Rattle.tplan.specs.declared.plan.Plan.{Plan}
use Rattle.tagents.specs.Agents.{IsRun}
use Rattle.tagents.specs.Races.{TakesNothing}
use Rattle.tagents.specs.Clocks.{Entry, labels}
use Rattle.tagents.specs.Groups.{NoneHas, IsHeld, IsFree}
use Rattle.tagents.specs.Tables.{Access}
use Rattle.tagents.specs.Walks.{are_open}
use Rattle.tclocks.specs.declared.mode.Mode.{Mode}
use Rattle.tclocks.specs.Modes.{covers}
use Rattle.tclocks.specs.declared.step.Step.{Step}
use Rattle.tclocks.specs.declared.step.Access as kept
use Rattle.tclocks.specs.Checks.{Check, clock_of, accesses_at, steps_of}
use Rattle.tclocks.specs.Places.{first_race}
use Rattle.tclocks.specs.Own.{IsOwnYet}
use Rattle.tclocks.specs.Followed.{EachOf, IsStep}
use Rattle.tclocks.specs.NumberTurns.{HasSeenInTurn, grouped_entry}
use Rattle.tprocesses.specs.Places.{Standing}
use Rattle.tprocesses.specs.Values.{Ended, stand_in}
use Rattle.tprocesses.specs.Machine.{Agent, Process, step_of, process_machine}
use Rattle.tprocesses.specs.Certified.{ProcessStep, machine_of}
use Rattle.tprocesses.specs.Opening.{opening_state}
use Rattle.tcertify.specs.Running.{State, run_part}
use Rattle.tcertify.specs.Walked.{Accessed, accesses}
use Rattle.tfollow.specs.Modes.{accesses_in, mode_at}
use Rattle.tfollow.specs.Numbering.{Places, AgentNumbers, HasNumber, IsNew}
use Rattle.tfollow.specs.Leading.{leads_on}

-- an access that was told to the check
abbrev pub Told : Type 0
Told = Access ℕ Mode

-- an access that the check keeps
abbrev pub KeptAccess : Type 0
KeptAccess = kept.Access

-- one of the accesses that were told is at the place, and collides with all that this one collides with
pub record IsTold (places : Places) (told : List Told) (access : Accessed) : Type 0 where
  pub by : Told
  pub there : Contains told by
  pub place : by.place ≡ places access.place
  pub covers : covers by.mode (mode_at access.place access.mode) ≡ true

-- an access is told, or covered by an earlier one with this number of which nobody else knows
abbrev pub IsToldOrOwn : Places → Check → ℕ → List Told → Accessed → Type 0
IsToldOrOwn places check number told access =
    IsTold places told access ⊎ IsOwnYet check number (places access.place) (mode_at access.place access.mode)

-- the number of the agent of a step
abbrev pub number_by : AgentNumbers → ProcessStep → ℕ
number_by group e = group e.agent

-- how many of these steps were done with a number
abbrev pub count_with : AgentNumbers → ℕ → List ProcessStep → ℕ
count_with group n steps = count_by (λ e. group e.agent == n) steps

-- among steps, the last one first, the one that is counted so among those with its agent's number
pub record IsDone (group : AgentNumbers) (steps : List ProcessStep) (step : Step) : Type 0 where
  pub later : List ProcessStep
  pub label : ProcessStep
  pub before : List ProcessStep
  pub within : steps ≡ later ++ label ∷ before
  pub agent : group label.agent ≡ step.agent
  pub number : step.number ≡ count_with group step.agent (label ∷ before)

-- the check has counted the steps with each number, and each access that it keeps is of one of these
pub record AreCounted (group : AgentNumbers) (steps : List ProcessStep) (check : Check) : Type 0 where
  pub counts : (number : ℕ) → number < length check.clocks
      → steps_of check number ≡ count_with group number steps
  pub kept : (place : ℕ) (access : KeptAccess) → Contains (accesses_at check place) access
      → IsDone group steps access.step

-- the place of each of these entries, the last one first, is the number of steps with its number so far
abbrev pub ArePlaced : AgentNumbers → List (Entry ℕ ProcessStep) → Type 0
ArePlaced group [] = Unit {0}
ArePlaced group (z ∷ earlier) =
    (z.place ≡ count_with group (group z.label.agent) (labels (z ∷ earlier))) × ArePlaced group earlier

-- a process has ended
abbrev pub HasEnded : Agent → State → Type 0
HasEnded (Process x) s = stand_in (s (Standing x)) ≡ Ended
HasEnded _ s = ⊥

-- after these steps, the last one first, an agent may do the next one with a number
pub data HasTurn (plan : Plan) (group : AgentNumbers) (steps : List ProcessStep) (number : ℕ) (a : Agent) : Type 0 where
  -- no step has it
  First : NoneHas (number_by group) number steps → HasTurn plan group steps number a
  -- it did the last step with it
  Own : IsHeld (machine_of plan) (number_by group) number a steps → HasTurn plan group steps number a
  -- a step since which the number is free leads to it
  Next : (last : ProcessStep) → leads_on plan last a ≡ true
      → IsFree (machine_of plan) (number_by group) number last steps → HasTurn plan group steps number a

module _ (plan : Plan) (places : Places) (group : AgentNumbers) (agents : List Agent) where
  -- the check has seen these steps, the last one first, by numbers that their agents had in turn
  abbrev pub HasSeen : List (Entry ℕ ProcessStep) → (ℕ → List ProcessStep) → Check → Type 0
  HasSeen entries writers check =
      HasSeenInTurn (machine_of plan) (number_by group) (accesses_in plan) places mode_at entries writers check

  -- the clock of the last step is still that of its number
  abbrev pub IsLast : List (Entry ℕ ProcessStep) → Check → Type 0
  IsLast [] check = Unit {0}
  IsLast (z ∷ earlier) check =
      z ≡ grouped_entry (machine_of plan) (number_by group) (accesses_in plan) places mode_at z.label check

  -- the machine has done these steps, the last one first, and is in this state; the check was told of them. These
  -- agents have numbers now
  pub record IsFollowed (steps : List ProcessStep) (check : Check) (state : State) : Type 0 where
    -- the steps are a run of the machine, and none of them stops
    pub run : IsRun (machine_of plan) (opening_state plan) (reverse steps) state
    pub takes_nothing : TakesNothing (machine_of plan) (reverse steps)
    -- the check has seen them, and which of them wrote the clock in each slot
    pub entries : List (Entry ℕ ProcessStep)
    pub labels : labels entries ≡ steps
    pub writers : ℕ → List ProcessStep
    pub seen : HasSeen entries writers check
    pub placed : ArePlaced group entries
    pub last : IsLast entries check
    -- each number has its clock and its slot
    pub clocks : length check.clocks ≡ length agents
    pub slots : length check.slots ≡ length agents
    pub numbered : (number : ℕ) (a : Agent) → HasNumber agents a number → group a ≡ number
    pub counted : AreCounted group steps check
    -- the clock in the slot of an agent was written by steps that lead to its next one
    pub lead : (number : ℕ) (a : Agent) → HasNumber agents a number
        → EachOf (λ step. leads_on plan step a ≡ true) (writers number)
    -- and it may do that with its number
    pub turns : (number : ℕ) (a : Agent) → HasNumber agents a number → HasTurn plan group steps number a
    -- whoever has no number has had none, or has ended
    pub others : (a : Agent) → IsNew agents a → (length agents ≤ group a) ⊎ HasEnded a state

  -- an agent that has a step does it, and it does not stop. The check is told: the step begins, joins the clock in the
  -- agent's slot, and makes accesses that cover all of its own, but for those that it need not tell again
  pub record IsFollowedStep (number : ℕ) (a : Agent) (told : List Told) (before after : Check) (state state' : State)
      : Type 0 where
    pub listed : HasNumber agents a number
    pub opened : are_open (process_machine plan) a state ≡ true
    pub runs : run_part (step_of plan a) state ≡ (Ok tt, state')
    pub checked : IsStep number (number ∷ []) told before after
    pub covered : All (IsToldOrOwn places before number told) (accesses (step_of plan a) state)

  -- an agent that has a step does it, and it does not stop. The check begins it and is told some of its accesses, and
  -- refuses the next one, which races with a kept one
  pub record IsRefusedStep (number : ℕ) (a : Agent) (told : List Told) (access : Told) (kept : KeptAccess)
      (before after : Check) (state state' : State) : Type 0 where
    pub listed : HasNumber agents a number
    pub opened : are_open (process_machine plan) a state ≡ true
    pub runs : run_part (step_of plan a) state ≡ (Ok tt, state')
    pub checked : IsStep number (number ∷ []) told before after
    pub refused : first_race number (clock_of after number) access.mode (accesses_at after access.place) ≡ Some kept
