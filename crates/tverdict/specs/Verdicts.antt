-- What the program says of a plan.
-- Source: own choice.
use Rattle.std.specs.Prelude.{ℕ, ◌≡◌, ◌≢◌, ◌≤◌, ◌<◌, ◌&&◌, true, false, All, List, Some, length, slice_get}
use Rattle.std.specs.Prelude.{Bool, nat_le, not, int_le, pos, ◌+◌, Result, Ok, Err}
use Rattle.tword.specs.Limits.{most_processes}
use Rattle.tplan.specs.declared.plan.Plan.{Plan}
use Rattle.tclocks.specs.Checks.{Check}
use Rattle.tprocesses.specs.Places.{Population, HasRun, FlagChanged}
use Rattle.tprocesses.specs.Values.{amount_in, flag_in}
use Rattle.tprocesses.specs.Parts.{Reason}
use Rattle.tprocesses.specs.Machine as machine
use Rattle.tprocesses.specs.Certified.{ProcessStep}
use Rattle.tcertify.specs.declared.node.Node.{Node}
use Rattle.tcertify.specs.Running.{State}
use Rattle.tcertify.specs.Words.{reason_of}
use Rattle.tfollow.specs.Numbering.{AgentNumbers, HasNumber}
use Rattle.tfollow.specs.Laws.{IsCertified, HasStopped, HasRace}
use Rattle.tverdict.specs.declared.lodging.Lodging.{Lodging}
use Rattle.tverdict.specs.declared.machine.Machine.{Machine}
use Rattle.tverdict.specs.declared.halt.Halt.{Halt}
use Rattle.tverdict.specs.declared.halt.Halt.TheVariants as halt
use Rattle.tverdict.specs.declared.verdict.Race.{Race}
use Rattle.tverdict.specs.declared.verdict.Refusal.{Refusal}
use Rattle.tverdict.specs.declared.verdict.Refusal.TheVariants as refusal
use Rattle.tverdict.specs.declared.verdict.Verdict.{Verdict}
use Rattle.tverdict.specs.declared.verdict.Verdict.TheVariants as verdict
use Rattle.tverdict.specs.Agents.{IsThere}
use Rattle.tverdict.specs.Lodging.{is_crowded}
use Rattle.tverdict.specs.Machines.{machine_at, agents, Follows, HasStep}

-- there is a run of as many steps as were done that is a certificate of the plan, so it is the only run, and the
-- machine stands at its end
pub record EndsCertified (plan : Plan) (m : Machine) : Type 0 where
  pub steps : List ProcessStep
  pub count : length steps ≡ m.done
  pub certified : IsCertified plan steps (machine_at plan m)

-- what its agents are named by is there, so they can be told of
pub record AreTellable (m : Machine) : Type 0 where
  pub there : All (IsThere m.nodes.items) m.agents.items
  pub numbers : (k : ℕ) (n : Node) → slice_get m.nodes.items k ≡ Some n → n.words.number ≡ k

-- there is a run, and the next step of an agent stops for this reason
pub record EndsStopped (plan : Plan) (m : Machine) (number : ℕ) (why : Reason) : Type 0 where
  pub steps : List ProcessStep
  pub count : length steps ≡ m.done
  pub agent : machine.Agent
  pub numbered : HasNumber (agents m) agent number
  pub state : State
  pub stopped : HasStopped plan steps agent why state (machine_at plan m)
  pub tellable : AreTellable m

-- there is a run of which no step stops, and its last step and an earlier one of another agent were told with accesses
-- to one place, in modes of which the order matters; the last step's clock has not counted the earlier one
pub record EndsInRace (plan : Plan) (m : Machine) (race : Race) : Type 0 where
  pub steps : List ProcessStep
  pub count : length steps ≡ m.done
  pub agent : machine.Agent
  pub numbered : HasNumber (agents m) agent race.step.agent
  -- the number that each agent has or had
  pub group : AgentNumbers
  pub numbers : (number : ℕ) (a : machine.Agent) → HasNumber (agents m) a number → group a ≡ number
  pub check : Check
  pub state : State
  pub found : HasRace plan group steps race.step.agent agent
      (record { place = race.place; mode = race.mode }) race.earlier check state (machine_at plan m)
  pub tellable : AreTellable m

-- what the step of an agent leaves: one more step is done, or it stops or has a race; nothing is told where memory is
-- out
abbrev pub IsStepped : Plan → Machine → ℕ → Result (Unit {0}) Halt → Machine → Type 0
IsStepped plan old agent (Ok x) new = Follows plan new × (new.done ≡ old.done + 1)
IsStepped plan old agent (Err (halt.Stops why)) new = EndsStopped plan new agent (reason_of why)
IsStepped plan old agent (Err (halt.Race race)) new = EndsInRace plan new race
IsStepped plan old agent (Err halt.OutOfMemory) new = Unit {0}

-- a node had more processes in all than may live there at the same time
abbrev pub HadMany : State → ℕ → Type 0
HadMany s n = int_le (amount_in (s (Population n))) (pos most_processes) ≢ true

-- a flag was changed at a node where processes of both priorities ran
abbrev pub ChangedFlags : State → ℕ → Type 0
ChangedFlags s n =
    (flag_in (s (FlagChanged n)) && flag_in (s (HasRun n 0)) && flag_in (s (HasRun n 1))) ≡ true

-- the same of a node of the program
abbrev pub had_many : Node → Bool
had_many n = not (nat_le n.population most_processes)

abbrev pub changed_flags : Node → Bool
changed_flags n = n.is_flag_changed && n.has_run_high && n.has_run_low

-- nothing is known of the berths of the node of this number
abbrev pub is_crowded_at : List Lodging → ℕ → Bool
is_crowded_at lodgings n = is_crowded (slice_get lodgings n)

-- the node of this number did
abbrev pub IsTooFull : List Node → ℕ → Type 0
IsTooFull nodes n = (node : Node) × (slice_get nodes n ≡ Some node) × (had_many node ≡ true)

-- of each of the first nodes that did, the berths are known
abbrev pub HaveRoom : List Node → List Lodging → (count : ℕ) → Type 0
HaveRoom nodes lodgings count =
    (n : ℕ) (node : Node) → n < count → slice_get nodes n ≡ Some node → had_many node ≡ true
    → is_crowded_at lodgings n ≡ false

-- why a plan is refused
abbrev pub IsRefusedBy : Plan → Machine → Refusal → Type 0
IsRefusedBy plan m (refusal.Stops agent why) = EndsStopped plan m agent (reason_of why)
IsRefusedBy plan m (refusal.TooManyProcesses n) = Follows plan m × HadMany (machine_at plan m) n
IsRefusedBy plan m (refusal.FlagsChanged n) = Follows plan m × ChangedFlags (machine_at plan m) n

-- a verdict tells the truth of the plan, with the machine as it is left
abbrev pub IsTold : Plan → (most_steps : ℕ) → Machine → Verdict → Type 0
IsTold plan most m verdict.Certified = EndsCertified plan m
IsTold plan most m (verdict.Race race) = EndsInRace plan m race
IsTold plan most m (verdict.Refused why) = IsRefusedBy plan m why
IsTold plan most m verdict.Cut = Follows plan m × (most ≤ m.done) × ((number : ℕ) × HasStep plan m number)
