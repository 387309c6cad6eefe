-- What is known of a race where all that the check is told is true.
-- Source: own choice.
use Rattle.std.specs.Prelude.{ℕ, ◌≡◌, ◌≢◌, ◌<◌, true, List, ◌∷◌, Contains, length, slice_index}
use Rattle.tplan.specs.declared.plan.Plan.{Plan}
use Rattle.tagents.specs.Groups.{AgreeOn}
use Rattle.tagents.specs.Tables.{HasAccess}
use Rattle.tagents.specs.Walks.{label_of}
use Rattle.tagents.specs.WalkAccesses.{accesses_of_step}
use Rattle.tclocks.specs.declared.mode.Mode.{Mode}
use Rattle.tclocks.specs.Modes.{collide}
use Rattle.tclocks.specs.Checks.{Check, clock_of, accesses_at, with_agent, with_slot, with_places}
use Rattle.tprocesses.specs.Places.{Place}
use Rattle.tprocesses.specs.Machine.{Agent, process_machine}
use Rattle.tprocesses.specs.Certified.{ProcessStep}
use Rattle.tcertify.specs.Running.{State}
use Rattle.tfollow.specs.Modes.{Manner, mode_at}
use Rattle.tfollow.specs.Numbering.{Places, AgentNumbers}
use Rattle.tfollow.specs.Following.{Told, KeptAccess, IsDone, IsFollowed, IsFollowedStep, IsRefusedStep}
use Rattle.tfollow.specs.Following.{number_by}

-- a step accesses a place of this number, in this mode
pub record Makes (plan : Plan) (places : Places) (step : ProcessStep) (number : ℕ) (mode : Mode) : Type 0 where
  pub place : Place
  pub manner : Manner
  pub made : HasAccess (accesses_of_step (process_machine plan) step) place manner
  pub numbered : places place ≡ number
  pub in_mode : mode_at place manner ≡ mode

-- all that a step was told with is true of it
abbrev pub AreTrue : Plan → Places → ProcessStep → List Told → Type 0
AreTrue plan places step told = (access : Told) → Contains told access → Makes plan places step access.place access.mode

-- each access that is kept was made by the step to which it belongs
abbrev pub KeepsTruth : Plan → Places → AgentNumbers → List ProcessStep → Check → Type 0
KeepsTruth plan places group steps check =
    (number : ℕ) (access : KeptAccess) → Contains (accesses_at check number) access
    → (done : IsDone group steps access.step) × Makes plan places done.label number access.mode

-- it is kept by a step that is told with true accesses, and where agents and places come. It speaks only of places,
-- so clocks and slots do not matter to it
pub record KeepsTruthOn (plan : Plan) (places : Places) (group : AgentNumbers) (agents : List Agent)
    (steps : List ProcessStep) (check : Check) (state : State) : Type 0 where
  pub by_step : (number : ℕ) (a : Agent) (told : List Told) (after : Check) (state' : State)
      → IsFollowedStep plan places group agents number a told check after state state'
      → AreTrue plan places (label_of (process_machine plan) a state) told
      → KeepsTruth plan places group (label_of (process_machine plan) a state ∷ steps) after
  pub by_agent : (more : AgentNumbers) → AgreeOn (number_by group) (number_by more) steps
      → KeepsTruth plan places more steps (with_slot (with_agent check))
  pub by_number : (more : AgentNumbers) → AgreeOn (number_by group) (number_by more) steps
      → KeepsTruth plan places more steps check
  pub by_places : (more : Places) (count : ℕ)
      → ((p : Place) → places p < length check.places → more p ≡ places p)
      → KeepsTruth plan more group steps (with_places count check)

abbrev pub TruthIsKept : Type 0
TruthIsKept =
    (plan : Plan) (places : Places) (group : AgentNumbers) (agents : List Agent) (steps : List ProcessStep)
    (check : Check) (state : State)
    → IsFollowed plan places group agents steps check state → KeepsTruth plan places group steps check
    → KeepsTruthOn plan places group agents steps check state

-- a race: an earlier step of another agent, and this one, access places of one number in modes that collide, and the
-- step does not know of the earlier one
pub record HasTrueRace (plan : Plan) (places : Places) (group : AgentNumbers) (steps : List ProcessStep) (number : ℕ)
    (step : ProcessStep) (access : Told) (kept : KeptAccess) (after : Check) : Type 0 where
  pub earlier : IsDone group steps kept.step
  pub other : kept.step.agent ≢ number
  pub before : Makes plan places earlier.label access.place kept.mode
  pub now : Makes plan places step access.place access.mode
  pub collide : collide kept.mode access.mode ≡ true
  pub unknown : slice_index (clock_of after number) kept.step.agent < kept.step.number

abbrev pub TrueRefusalsTellTrueRaces : Type 0
TrueRefusalsTellTrueRaces =
    (plan : Plan) (places : Places) (group : AgentNumbers) (agents : List Agent) (steps : List ProcessStep)
    (number : ℕ) (a : Agent)
    (told : List Told) (access : Told) (kept : KeptAccess) (before after : Check) (state state' : State)
    → IsFollowed plan places group agents steps before state → KeepsTruth plan places group steps before
    → IsRefusedStep plan places group agents number a told access kept before after state state'
    → Makes plan places (label_of (process_machine plan) a state) access.place access.mode
    → HasTrueRace plan places group steps number (label_of (process_machine plan) a state) access kept after
