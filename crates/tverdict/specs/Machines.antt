-- What stands at the places of the whole machine, and what holds of it while it follows a run.
-- Source: own choice, the state of `tprocesses` as the program keeps it.
use Rattle.std.specs.Prelude.{ℕ, ◌≡◌, ◌+◌, ◌-◌, ◌<◌, ◌^◌, List, [], map, length, Option, Some, None, slice_get}
use Rattle.std.specs.Prelude.{slice_index}
use Rattle.std.specs.Prelude.{All, Contains, true}
use Rattle.std.proofs.Math.ListN.{drop}
use Rattle.tplan.specs.declared.plan.End.{End}
use Rattle.tplan.specs.declared.plan.NodePlan.{NodePlan}
use Rattle.tplan.specs.declared.plan.SinkPlan.{SinkPlan}
use Rattle.tplan.specs.declared.plan.Plan.{Plan}
use Rattle.tplan.specs.Wires.{all_wires}
use Rattle.tprocesses.specs.Places.{Messages, Kept}
use Rattle.tprocesses.specs.Values.{Value, AreMessages, AreKept}
use Rattle.tprocesses.specs.Machine as machine
use Rattle.tprocesses.specs.Machine.{process_machine}
use Rattle.tagents.specs.Walks.{are_open}
use Rattle.tprocesses.specs.Opening.{opening_state, source_at, sink_at, messages_of}
use Rattle.tprocesses.specs.Certified.{ProcessStep}
use Rattle.tcertify.specs.declared.node.Node.{Node}
use Rattle.tcertify.specs.declared.notes.Note.{Note}
use Rattle.tcertify.specs.Nodes.{node_at, node_site}
use Rattle.tcertify.specs.Running.{State}
use Rattle.tclocks.specs.Checks.{Check}
use Rattle.tclocks.specs.Own.{IsOwnYet}
use Rattle.tfollow.specs.Laws.{AreShut}
use Rattle.tfollow.specs.Numbering.{AgentNumbers, HasNumber, Places}
use Rattle.tfollow.specs.Following.{IsFollowed}
use Rattle.tfollow.specs.Telling.{told_mode}
use Rattle.tverdict.specs.declared.machine.Machine.{Machine}
use Rattle.tcertify.specs.declared.sink.Sink.{Sink}
use Rattle.tverdict.specs.declared.agent.Agent.{Agent}
use Rattle.tverdict.specs.declared.agent.Agent.TheVariants as agent
use Rattle.tverdict.specs.Agents.{agent_of, HasChannel, HasProcess, IsMet, IsThere}
use Rattle.tverdict.specs.Lodging.{AreHoused}
use Rattle.tverdict.specs.Numbers.{node_in, numbering}

-- what a node has at a place, if there is the node
abbrev pub at_node : Option Node → State → State
at_node (Some n) s = node_at n s
at_node None s = s

-- what stands at the places of these nodes
abbrev pub at_nodes : List Node → State → State
at_nodes nodes s p = at_node (slice_get nodes (node_in p)) s p

-- what the sink of a plan has kept
abbrev pub kept_by : Option SinkPlan → Option Sink → Value
kept_by (Some plan) (Some sink) = AreKept sink.room (map (λ m. m.items) sink.messages.items)
kept_by _ _ = AreKept 0 []

-- a state in which sources and sinks stand so. sent: how many messages of each source have gone over
abbrev pub with_scripts : Plan → (sent : List ℕ) → List Sink → State → State
with_scripts plan sent sinks s (Messages e) =
    AreMessages (drop (slice_index sent (e.node - length plan.nodes)) (messages_of (source_at plan e)))
with_scripts plan sent sinks s (Kept e) =
    kept_by (sink_at plan e) (slice_get sinks (e.node - (length plan.nodes + length plan.sources)))
with_scripts plan sent sinks s p = s p

-- the state of the process machine that the program has
abbrev pub state_of : Plan → List Node → (sent : List ℕ) → List Sink → State
state_of plan nodes sent sinks = with_scripts plan sent sinks (at_nodes nodes (opening_state plan))

abbrev pub machine_at : Plan → Machine → State
machine_at plan m = state_of plan m.nodes.items m.sent.items m.sinks.items

-- the numbers of its places
abbrev pub places : Machine → Places
places m = numbering m.nodes.items m.first_script

-- its agents that have a number now, by it
abbrev pub agents : Machine → List machine.Agent
agents m = map (agent_of m.nodes.items) m.agents.items

-- the nodes are those of the plan, in its order
pub record AreNodesOf (plan : Plan) (nodes : List Node) : Type 0 where
  pub many : length nodes ≡ length plan.nodes
  pub numbers : (k : ℕ) (n : Node) → slice_get nodes k ≡ Some n → n.words.number ≡ k
  pub sites : (k : ℕ) (n : Node) (p : NodePlan) → slice_get nodes k ≡ Some n → slice_get plan.nodes k ≡ Some p
      → node_site n ≡ machine.site_of k p

-- each process of a node is an agent that was found, or has ended; each channel was found, and so was each wire
pub record AreFound (plan : Plan) (nodes : List Node) (found : List Agent) : Type 0 where
  pub processes : (n k : ℕ) → HasProcess nodes n k → IsMet nodes found (agent.Process n k)
  pub channels : (n k : ℕ) → HasChannel nodes n k → Contains found (agent.Channel n k)
  pub wires : (e f : End) → machine.sender_to plan e ≡ Some f → Contains found (agent.Wire e)

-- its parts fit together
pub record IsSound (plan : Plan) (m : Machine) : Type 0 where
  pub nodes : AreNodesOf plan m.nodes.items
  pub sent : length m.sent.items ≡ length plan.sources
  pub sinks : length m.sinks.items ≡ length plan.sinks
  pub wires : m.wires ≡ all_wires plan
  pub found : AreFound plan m.nodes.items m.agents.items
  pub there : All (IsThere m.nodes.items) m.agents.items
  pub candidates : All (λ number. number < length m.agents.items) m.candidates.items
  pub places : length m.check.places ≡ m.fresh_place
  pub few : m.fresh_place < 2 ^ 32
  pub kept_places : (k : ℕ) (s : Sink) → slice_get m.sinks.items k ≡ Some s
      → s.place ≡ m.first_script + (length plan.nodes + length plan.sources + k)

-- the last step was that of the agent of this number, at this node
abbrev pub IsLast : Machine → (number n : ℕ) → Type 0
IsLast m number n = m.last ≡ Some (record { number = number; node = n })

-- if the last step of this node led nowhere, nobody but the agent of this number knows of an access of it that covers
-- what a note tells of
abbrev pub AreOwn : List Node → Check → (number n : ℕ) → Type 0
AreOwn nodes check number n =
    (node : Node) (note : Note) → slice_get nodes n ≡ Some node → node.leads.items ≡ []
    → Contains node.words.notes.items.items note → IsOwnYet check number note.place (told_mode note.mode)

-- it has done these steps of a run, the last one first, its state is the one to which they lead, and the berths of its
-- nodes have followed them
pub record HasDone (plan : Plan) (m : Machine) (steps : List ProcessStep) : Type 0 where
  pub count : length steps ≡ m.done
  pub sound : IsSound plan m
  -- the number that each agent has or had
  pub group : AgentNumbers
  pub followed : IsFollowed plan (places m) group (agents m) steps m.check (machine_at plan m)
  pub housed : AreHoused plan steps m.nodes.items group m.lodgings.items
  -- what is noted of the last step need not be told again
  pub own : (number n : ℕ) → IsLast m number n → AreOwn m.nodes.items m.check number n

-- it follows a run
abbrev pub Follows : Plan → Machine → Type 0
Follows plan m = (steps : List ProcessStep) × HasDone plan m steps

-- it has done nothing yet
pub record IsAtStart (plan : Plan) (m : Machine) : Type 0 where
  pub opens : machine_at plan m ≡ opening_state plan
  pub nothing : HasDone plan m []

-- the agent of this number has a step
pub record HasStep (plan : Plan) (m : Machine) (number : ℕ) : Type 0 where
  pub agent : machine.Agent
  pub numbered : HasNumber (agents m) agent number
  pub opened : are_open (process_machine plan) agent (machine_at plan m) ≡ true

-- no agent has a step
abbrev pub HasNoStep : Plan → Machine → Type 0
HasNoStep plan m = AreShut plan (agents m) (machine_at plan m)
