-- How a program follows a run step by step, and what it knows at the end.
-- Source: own choice.
use Rattle.std.specs.Prelude.{ℕ, ◌≡◌, ◌≢◌, ◌<◌, Ok, Err, Some, true, false, List, [], ◌∷◌, ◌++◌, length, reverse}
use Rattle.std.specs.Prelude.{slice_index, slice_set}
use Rattle.tplan.specs.declared.plan.Plan.{Plan}
use Rattle.tagents.specs.Agents.{IsRun}
use Rattle.tagents.specs.Races.{TakesNothing}
use Rattle.tagents.specs.Certificates.{IsTheOnlyRun}
use Rattle.tagents.specs.Groups.{AgreeOn}
use Rattle.tagents.specs.Walks.{label_of, are_open}
use Rattle.tclocks.specs.Modes.{collide}
use Rattle.tclocks.specs.Checks.{Check, nothing_checked, with_agent, with_slot, with_places, with_handed, with_added}
use Rattle.tclocks.specs.Checks.{with_cleared, clock_of, KnowsAll}
use Rattle.tclocks.specs.Owning.{HasNoNewSteps}
use Rattle.tprocesses.specs.Places.{Place}
use Rattle.tprocesses.specs.Parts.{Reason}
use Rattle.tprocesses.specs.Machine.{Agent, step_of, process_machine}
use Rattle.tprocesses.specs.Certified.{ProcessStep, machine_of, LiveFew, KeptFlags, IsCertificate}
use Rattle.tprocesses.specs.Opening.{opening_state}
use Rattle.tcertify.specs.Running.{State, run_part}
use Rattle.tfollow.specs.Numbering.{Places, AgentNumbers, HasNumber, IsNew}
use Rattle.tfollow.specs.Leading.{leads_on, RunLeads}
use Rattle.tfollow.specs.Following.{Told, KeptAccess, IsDone, IsFollowed, IsFollowedStep, IsRefusedStep, HasEnded}
use Rattle.tfollow.specs.Following.{number_by}

-- what is known to lead to the step of an agent leads to it, if that step does not stop
abbrev pub LeadsAreLeads : Type 0
LeadsAreLeads =
    (plan : Plan) (step : ProcessStep) (a : Agent) (state : State) → are_open (process_machine plan) a state ≡ true
    → (machine_of plan).stops (label_of (process_machine plan) a state) ≡ false → leads_on plan step a ≡ true
    → (machine_of plan).leads step (label_of (process_machine plan) a state) ≡ true

-- what a run tells of leads is known to lead
abbrev pub RunsTellLeads : Type 0
RunsTellLeads =
    (plan : Plan) (a b : Agent) (state state' : State) → are_open (process_machine plan) a state ≡ true
    → run_part (step_of plan a) state ≡ (Ok tt, state') → b ≢ a
    → RunLeads plan a state b → leads_on plan (label_of (process_machine plan) a state) b ≡ true

-- it begins with no steps, no agents and no places
abbrev pub FollowingBegins : Type 0
FollowingBegins =
    (plan : Plan) (places : Places) (group : AgentNumbers)
    → IsFollowed plan places group [] [] nothing_checked (opening_state plan)

-- a step that was done and told is one more
abbrev pub StepsAreFollowed : Type 0
StepsAreFollowed =
    (plan : Plan) (places : Places) (group : AgentNumbers) (agents : List Agent) (steps : List ProcessStep) (number : ℕ)
    (a : Agent) (told : List Told) (before after : Check) (state state' : State)
    → IsFollowed plan places group agents steps before state
    → IsFollowedStep plan places group agents number a told before after state state'
    → IsFollowed plan places group agents (label_of (process_machine plan) a state ∷ steps) after state'

-- the clock of the last step may be handed on to an agent to which it leads, alone or beside the clock there
pub record IsHandedOn (plan : Plan) (places : Places) (group : AgentNumbers) (agents : List Agent) (step : ProcessStep)
    (earlier : List ProcessStep) (check : Check) (state : State) (number : ℕ) : Type 0 where
  pub handed : IsFollowed plan places group agents (step ∷ earlier) (with_handed (group step.agent) number check)
      state
  pub added : IsFollowed plan places group agents (step ∷ earlier) (with_added (group step.agent) number check)
      state

abbrev pub ClocksAreHandedOn : Type 0
ClocksAreHandedOn =
    (plan : Plan) (places : Places) (group : AgentNumbers) (agents : List Agent) (step : ProcessStep)
    (earlier : List ProcessStep) (check : Check) (state : State) (number : ℕ) (a : Agent)
    → IsFollowed plan places group agents (step ∷ earlier) check state → HasNumber agents a number
    → leads_on plan step a ≡ true → IsHandedOn plan places group agents step earlier check state number

-- a slot may be cleared
abbrev pub SlotsMayBeCleared : Type 0
SlotsMayBeCleared =
    (plan : Plan) (places : Places) (group : AgentNumbers) (agents : List Agent) (steps : List ProcessStep)
    (check : Check) (state : State) (number : ℕ) → IsFollowed plan places group agents steps check state
    → IsFollowed plan places group agents steps (with_cleared number check) state

-- an agent has come, with a number; the steps that were done keep their numbers
pub record HasCome (plan : Plan) (places : Places) (old : AgentNumbers) (agents : List Agent) (steps : List ProcessStep)
    (check : Check) (state : State) : Type 0 where
  pub group : AgentNumbers
  pub kept : AgreeOn (number_by old) (number_by group) steps
  pub followed : IsFollowed plan places group agents steps check state

-- an agent that is not there yet may come, with a clock and a slot
abbrev pub AgentsMayCome : Type 0
AgentsMayCome =
    (plan : Plan) (places : Places) (group : AgentNumbers) (agents : List Agent) (steps : List ProcessStep)
    (check : Check) (state : State) (a : Agent) → IsFollowed plan places group agents steps check state
    → IsNew agents a → (HasEnded a state → ⊥)
    → HasCome plan places group (agents ++ a ∷ []) steps (with_slot (with_agent check)) state

-- or it takes the number of one that has ended, if the last step leads to it, and its clock has counted all steps with
-- that number
abbrev pub NumbersMayBeTaken : Type 0
NumbersMayBeTaken =
    (plan : Plan) (places : Places) (group : AgentNumbers) (agents : List Agent) (step : ProcessStep)
    (earlier : List ProcessStep) (check : Check) (state : State) (a b : Agent) (number : ℕ)
    → IsFollowed plan places group agents (step ∷ earlier) check state
    → IsNew agents a → (HasEnded a state → ⊥) → HasNumber agents b number → HasEnded b state
    → KnowsAll check (group step.agent) number → leads_on plan step a ≡ true
    → HasCome plan places group (slice_set agents number a) (step ∷ earlier) (with_cleared number check) state

-- places may come, and those that were not there yet may get other numbers
abbrev pub PlacesMayCome : Type 0
PlacesMayCome =
    (plan : Plan) (places more : Places) (group : AgentNumbers) (agents : List Agent) (steps : List ProcessStep)
    (check : Check) (state : State) (count : ℕ) → IsFollowed plan places group agents steps check state
    → ((p : Place) → places p < length check.places → more p ≡ places p)
    → IsFollowed plan more group agents steps (with_places count check) state

-- no agent has a step
pub record AreShut (plan : Plan) (agents : List Agent) (state : State) : Type 0 where
  pub listed : (number : ℕ) (a : Agent) → HasNumber agents a number
      → are_open (process_machine plan) a state ≡ false
  pub others : (a : Agent) → IsNew agents a → are_open (process_machine plan) a state ≡ false

-- what is known at the end: the run is a certificate, and so the only run
pub record IsCertified (plan : Plan) (steps : List ProcessStep) (state : State) : Type 0 where
  pub certificate : IsCertificate plan (reverse steps) state
  pub only : IsTheOnlyRun (machine_of plan) (opening_state plan) (reverse steps) state

abbrev pub FollowedRunsAreCertificates : Type 0
FollowedRunsAreCertificates =
    (plan : Plan) (places : Places) (group : AgentNumbers) (agents : List Agent) (steps : List ProcessStep)
    (check : Check) (state : State)
    → IsFollowed plan places group agents steps check state → AreShut plan agents state → LiveFew plan → KeptFlags state
    → IsCertified plan steps state

-- what is known where a step stops: the steps and this one are a run, and this is why it stops
pub record HasStopped (plan : Plan) (steps : List ProcessStep) (a : Agent) (why : Reason) (state state' : State)
    : Type 0 where
  pub run : IsRun (machine_of plan) (opening_state plan)
      (reverse (label_of (process_machine plan) a state ∷ steps)) state'
  pub stops : (label_of (process_machine plan) a state).deed.stops ≡ Some why

abbrev pub StopsAreTold : Type 0
StopsAreTold =
    (plan : Plan) (places : Places) (group : AgentNumbers) (agents : List Agent) (steps : List ProcessStep) (a : Agent)
    (check : Check) (why : Reason) (state state' : State)
    → IsFollowed plan places group agents steps check state → are_open (process_machine plan) a state ≡ true
    → run_part (step_of plan a) state ≡ (Err why, state') → HasStopped plan steps a why state state'

-- what is known where an access is refused: the steps and this one are a run of which none stops, an earlier step of
-- another agent was told with an access to the same place that collides with this one, and the clock of the step has
-- not counted that one
pub record HasRace (plan : Plan) (group : AgentNumbers) (steps : List ProcessStep) (number : ℕ) (a : Agent)
    (access : Told) (kept : KeptAccess) (after : Check) (state state' : State) : Type 0 where
  pub run : IsRun (machine_of plan) (opening_state plan)
      (reverse (label_of (process_machine plan) a state ∷ steps)) state'
  pub takes_nothing : TakesNothing (machine_of plan) (reverse (label_of (process_machine plan) a state ∷ steps))
  pub earlier : IsDone group steps kept.step
  pub other : kept.step.agent ≢ number
  pub collide : collide kept.mode access.mode ≡ true
  pub unknown : slice_index (clock_of after number) kept.step.agent < kept.step.number

abbrev pub RefusalsTellRaces : Type 0
RefusalsTellRaces =
    (plan : Plan) (places : Places) (group : AgentNumbers) (agents : List Agent) (steps : List ProcessStep) (number : ℕ)
    (a : Agent) (told : List Told) (access : Told) (kept : KeptAccess) (before after : Check) (state state' : State)
    → IsFollowed plan places group agents steps before state
    → IsRefusedStep plan places group agents number a told access kept before after state state'
    → HasRace plan group steps number a access kept after state state'

-- nobody else knows of steps that were not begun
abbrev pub NewStepsAreUnknown : Type 0
NewStepsAreUnknown =
    (plan : Plan) (places : Places) (group : AgentNumbers) (agents : List Agent) (steps : List ProcessStep)
    (check : Check) (state : State) → IsFollowed plan places group agents steps check state → HasNoNewSteps check
