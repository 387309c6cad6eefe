-- The step of an agent at a node, from the call that does it on.
-- Source: own choice.
use Rattle.std.specs.Prelude.{ℕ, ◌≡◌, ◌≢◌, ◌≤◌, ◌⊎◌, ◌+◌, ◌<◌, ◌^◌, true, List, [], ◌∷◌, ◌++◌, All, Contains, length}
use Rattle.std.specs.Prelude.{Option, Result, Ok, Err, Some, slice_get}
use Rattle.tplan.specs.declared.plan.End.{End}
use Rattle.tplan.specs.declared.plan.Plan.{Plan}
use Rattle.tplan.specs.Wires.{all_wires}
use Rattle.tplan.specs.Wires.{end_at}
use Rattle.tagents.specs.Walks.{are_open}
use Rattle.tclocks.specs.Checks.{with_added, with_cleared, with_places}
use Rattle.tclocks.specs.Own.{IsOwnYet}
use Rattle.tprocesses.specs.Parts.{Reason}
use Rattle.tprocesses.specs.Machine as machine
use Rattle.tprocesses.specs.Machine.{process_machine, sender_to, step_of}
use Rattle.tprocesses.specs.Certified.{ProcessStep}
use Rattle.tprocesses.specs.Lives.{TellsLives}
use Rattle.tcertify.specs.declared.fault.Fault.{Fault}
use Rattle.tcertify.specs.declared.fault.Fault.TheVariants as fault
use Rattle.tcertify.specs.declared.lead.Lead.{Lead}
use Rattle.tcertify.specs.declared.lead.Lead.TheVariants as lead
use Rattle.tcertify.specs.declared.node.Node.{Node}
use Rattle.tcertify.specs.declared.notes.Note.{Note}
use Rattle.tcertify.specs.declared.side.Side.{Side}
use Rattle.tcertify.specs.declared.sink.Sink.{Sink}
use Rattle.tcertify.specs.declared.side.Side.TheVariants.{Input, Output}
use Rattle.tcertify.specs.Nodes.{IsLed}
use Rattle.tcertify.specs.Notes.{AreNoted}
use Rattle.tcertify.specs.Running.{State, run_part}
use Rattle.tcertify.specs.Seeing.{sights}
use Rattle.tcertify.specs.Walked.{accesses, changes}
use Rattle.tcertify.specs.Words.{reason_of}
use Rattle.tfollow.specs.Following.{IsFollowed}
use Rattle.tfollow.specs.Leading.{leads_on}
use Rattle.tfollow.specs.Numbering.{AgentNumbers, HasNumber}
use Rattle.tfollow.specs.Telling.{told_mode}
use Rattle.tverdict.specs.declared.agent.Agent.{Agent}
use Rattle.tverdict.specs.declared.agent.Agent.TheVariants as agent
use Rattle.tverdict.specs.declared.machine.LastStep.{LastStep}
use Rattle.tverdict.specs.declared.machine.Machine.{Machine}
use Rattle.tverdict.specs.Agents.{agent_of, HasChannel, HasProcess, IsEnded, IsMet, IsThere}
use Rattle.tverdict.specs.Lodging.{WereHoused}
use Rattle.tverdict.specs.Verdicts.{AreTellable}
use Rattle.tverdict.specs.Machines.{AreNodesOf, AreOwn, agents, machine_at, places}

-- the parts of the machine fit together, whether or not all agents were found
pub record Fits (plan : Plan) (m : Machine) : Type 0 where
  pub nodes : AreNodesOf plan m.nodes.items
  pub sent : length m.sent.items ≡ length plan.sources
  pub sinks : length m.sinks.items ≡ length plan.sinks
  pub wires : m.wires ≡ all_wires plan
  pub there : All (IsThere m.nodes.items) m.agents.items
  pub candidates : All (λ number. number < length m.agents.items) m.candidates.items
  pub places : length m.check.places ≡ m.fresh_place
  pub few : m.fresh_place < 2 ^ 32
  pub kept_places : (k : ℕ) (s : Sink) → slice_get m.sinks.items k ≡ Some s
      → s.place ≡ m.first_script + (length plan.nodes + length plan.sources + k)

-- all agents were found, or have ended, except for processes and channels of two nodes from these numbers on
pub record AreFoundBefore (plan : Plan) (one first_process first_channel other next_process next_channel : ℕ)
    (m : Machine) : Type 0 where
  pub processes : (j k : ℕ) → HasProcess m.nodes.items j k → (j ≡ one → k < first_process)
      → (j ≡ other → k < next_process) → IsMet m.nodes.items m.agents.items (agent.Process j k)
  pub channels : (j k : ℕ) → HasChannel m.nodes.items j k → (j ≡ one → k < first_channel)
      → (j ≡ other → k < next_channel) → Contains m.agents.items (agent.Channel j k)
  pub wires : (e f : End) → sender_to plan e ≡ Some f → Contains m.agents.items (agent.Wire e)

-- the step of an agent is done and not told: the steps of a run, as many as were done, lead to a state in which the
-- agent of this number has a step. That answers this, and leaves what the machine has now
pub record IsAnswered (plan : Plan) (number : ℕ) (answer : Result (Unit {0}) Reason) (m : Machine) : Type 0 where
  pub steps : List ProcessStep
  pub count : length steps ≡ m.done
  pub agent : machine.Agent
  pub state : State
  pub numbered : HasNumber (agents m) agent number
  pub opened : are_open (process_machine plan) agent state ≡ true
  pub runs : run_part (step_of plan agent) state ≡ (answer, machine_at plan m)
  -- the number that each agent has or had
  pub group : AgentNumbers
  pub followed : IsFollowed plan (places m) group (agents m) steps m.check state
  pub tellable : AreTellable m

-- and it was done at a node, which has noted what it accesses and where it leads. What is noted of earlier steps need
-- not be told again
pub record IsUntold (plan : Plan) (number n : ℕ) (m : Machine) : Type 0 where
  pub answered : IsAnswered plan number (Ok tt) m
  pub node : Node
  pub there : slice_get m.nodes.items n ≡ Some node
  pub noted : AreNoted (places m) node.words.notes (accesses (step_of plan answered.agent) answered.state)
  pub led : (l : Lead) → Contains node.leads.items l
      → IsLed node (sights (step_of plan answered.agent) answered.state)
      (changes (step_of plan answered.agent) answered.state) l
  pub own : (k : ℕ) (note : Note) → k < node.words.notes.earlier → slice_get node.words.notes.items.items k ≡ Some note
      → IsOwnYet m.check number note.place (told_mode note.mode)
  pub fits : Fits plan m
  pub housed : WereHoused plan (n ∷ []) answered.agent answered.steps answered.state m.nodes.items answered.group
      m.lodgings.items

-- the same where the node had this number of processes and channels before, and all agents were found
pub record IsDone (plan : Plan) (number n processes channels : ℕ) (m : Machine) : Type 0 where
  pub untold : IsUntold plan number n m
  pub found : AreFoundBefore plan n processes channels n processes channels m

-- by what the call on the node answered
abbrev pub IsOutcome : Plan → (number n processes channels : ℕ) → Result (Unit {0}) Fault → Machine → Type 0
IsOutcome plan number n processes channels (Ok x) m = IsDone plan number n processes channels m
IsOutcome plan number n processes channels (Err (fault.Stops why)) m = IsAnswered plan number (Err (reason_of why)) m
IsOutcome plan number n processes channels (Err fault.OutOfMemory) m = Unit {0}

-- the end that receives over the wire of this end: itself for an input, the far end for an output
abbrev pub Receives : Plan → End → Side → End → Type 0
Receives plan e Input receiver = receiver ≡ e
Receives plan e Output receiver = sender_to plan receiver ≡ Some e

-- an agent that a lead of a node names
abbrev pub IsLedTo : Plan → ℕ → Lead → Agent → Type 0
IsLedTo plan n (lead.Process k) a = a ≡ agent.Process n k
IsLedTo plan n (lead.Channel k) a = a ≡ agent.Channel n k
IsLedTo plan n (lead.Link l side) a = (e : End) × Receives plan (end_at n l) side e × (a ≡ agent.Wire e)
IsLedTo plan n (lead.Count k) a = a ≡ agent.Successor n k

-- a lead of a node
abbrev pub HasLead : List Node → ℕ → Lead → Type 0
HasLead nodes n l = (node : Node) × (slice_get nodes n ≡ Some node) × Contains node.leads.items l

-- the last step, which the agent of this number did at these nodes, is told to the check but not counted, and leads to
-- each other agent that a lead of one of the nodes names. The berths of nodes have not followed it
pub record HasTold (plan : Plan) (number : ℕ) (at : List ℕ) (m : Machine) : Type 0 where
  pub step : ProcessStep
  pub earlier : List ProcessStep
  pub count : length earlier ≡ m.done
  pub numbered : HasNumber (agents m) step.agent number
  -- the number that each agent has or had
  pub group : AgentNumbers
  pub followed : IsFollowed plan (places m) group (agents m) (step ∷ earlier) m.check (machine_at plan m)
  pub leads : (n : ℕ) (l : Lead) (a : Agent) → Contains at n → HasLead m.nodes.items n l → IsLedTo plan n l a
      → agent_of m.nodes.items a ≢ step.agent → leads_on plan step (agent_of m.nodes.items a) ≡ true
  pub fits : Fits plan m
  pub before : State
  pub tells : (n : ℕ) → TellsLives n step before (machine_at plan m)
  pub housed : WereHoused plan at step.agent earlier before m.nodes.items group m.lodgings.items
  -- what a step at one node has noted need not be told again
  pub own : (n : ℕ) → at ≡ n ∷ [] → AreOwn m.nodes.items m.check number n

-- each agent that was there has its number still, or is a process that has ended
pub record KeepsAgents (old new : Machine) : Type 0 where
  pub many : length old.agents.items ≤ length new.agents.items
  pub kept : (number : ℕ) (a : Agent) → slice_get old.agents.items number ≡ Some a
      → (slice_get new.agents.items number ≡ Some a) ⊎ IsEnded new.nodes.items a

-- agents may have come; nodes, and how many steps are done, are as they were
pub record HasMore (old new : Machine) : Type 0 where
  pub nodes : new.nodes.items ≡ old.nodes.items
  pub done : new.done ≡ old.done
  pub kept : KeepsAgents old new

-- so they do, and what was told of a step at this node stays so
pub record KeepsTold (number n : ℕ) (old new : Machine) : Type 0 where
  pub more : HasMore old new
  pub told : (plan : Plan) (at : List ℕ) → Contains at n → HasTold plan number at old → HasTold plan number at new

-- a step of some plan at this node is told
abbrev pub IsTelling : (number n : ℕ) → Machine → Type 0
IsTelling number n m = (plan : Plan) × (at : List ℕ) × Contains at n × HasTold plan number at m

-- the check has `count` places more
pub record AddsPlaces (old : Machine) (count : ℕ) (new : Machine) : Type 0 where
  pub check : new.check ≡ with_places count old.check
  pub fresh : new.fresh_place ≡ old.fresh_place + count
  pub few : new.fresh_place < 2 ^ 32
  pub same : new ≡ record old { check = new.check; fresh_place = new.fresh_place }

-- the clock of the agent of this number is handed on to that of another one, which may have a step
pub record HandsOn (old : Machine) (number to : ℕ) (new : Machine) : Type 0 where
  pub check : new.check ≡ with_added number to old.check
  pub candidates : new.candidates.items ≡ old.candidates.items ++ to ∷ []
  pub same : new ≡ record old { check = new.check; candidates = new.candidates }

-- the step of the agent of this number is over: its slot is empty, and one more step is done. If it has ended, its
-- number may be taken. last: that step, if it was done at one node
pub record Closes (old : Machine) (number : ℕ) (last : Option LastStep) (new : Machine) : Type 0 where
  pub check : new.check ≡ with_cleared number old.check
  pub done : new.done ≡ old.done + 1
  pub same : new ≡ record old { check = new.check; spare = new.spare; done = new.done; last = last }
