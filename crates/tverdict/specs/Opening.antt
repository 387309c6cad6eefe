-- The whole machine before the first step, in its parts.
-- Source: own choice.
use Rattle.std.specs.Prelude.{ℕ, zero, suc, ◌≡◌, ◌+◌, ◌<◌, ◌≤◌, ◌^◌, List, [], ◌∷◌, ◌++◌, All, Contains, length, map}
use Rattle.std.specs.Prelude.{◌-◌, None, option_map, ◌⊎◌, Some, slice_get, take, unwrap_or}
use Rattle.std.specs.List.{range_with_len}
use Rattle.tword.specs.Accesses.{IsMemorySize}
use Rattle.tword.specs.Limits.{most_nodes}
use Rattle.tplan.specs.declared.plan.End.{End}
use Rattle.tplan.specs.declared.plan.NodePlan.{NodePlan}
use Rattle.tplan.specs.declared.plan.Plan.{Plan}
use Rattle.tplan.specs.declared.plan.SinkPlan.{SinkPlan}
use Rattle.tplan.specs.declared.plan.Wire.{Wire}
use Rattle.tplan.specs.Wires.{all_wires}
use Rattle.tnet.specs.Building.{fault_of, node_count}
use Rattle.tclocks.specs.Checks.{Check, nothing_checked, with_agent, with_places, with_slot}
use Rattle.tcertify.specs.declared.node.Node.{Node}
use Rattle.tcertify.specs.declared.sink.Sink.{Sink}
use Rattle.tcertify.specs.Finding.{AreApart}
use Rattle.tcertify.specs.NodeOpened.{HaveOwnWorkspaces, IsOpen}
use Rattle.tverdict.specs.declared.agent.Agent.{Agent}
use Rattle.tverdict.specs.declared.agent.Agent.TheVariants as agent
use Rattle.tverdict.specs.declared.machine.Machine.{Machine}

-- a plan has no fault, and these are its wires
pub record HasWires (plan : Plan) (ends : List Wire) : Type 0 where
  pub faultless : fault_of plan ≡ None
  pub wires : ends ≡ all_wires plan

-- nodes of a plan that have no fault
pub record CanOpen (plans : List NodePlan) : Type 0 where
  pub few : length plans ≤ most_nodes
  pub sizes : All (λ p. IsMemorySize p.kind p.memory) plans
  pub own : All (λ p. HaveOwnWorkspaces p.image.processes) plans

-- the lowest number that no place of these nodes has, if those of each come after those of the node before
abbrev pub fresh_after : List Node → ℕ
fresh_after nodes = unwrap_or (option_map (λ n. n.fresh_place) (slice_get nodes (length nodes - 1))) 0

-- these are the nodes of plans before the first step; the words of each have their places after those of the node
-- before
pub record AreOpen (plans : List NodePlan) (opened : List Node) : Type 0 where
  pub many : length opened ≡ length plans
  pub nodes : (k : ℕ) (plan : NodePlan) (node : Node) → slice_get plans k ≡ Some plan → slice_get opened k ≡ Some node
      → IsOpen plan k (fresh_after (take k opened)) node

-- these are the sinks of a plan before the first step; the first of them has this place
pub record AreEmpty (plans : List SinkPlan) (first : ℕ) (opened : List Sink) : Type 0 where
  pub many : length opened ≡ length plans
  pub sinks : (k : ℕ) (plan : SinkPlan) (sink : Sink) → slice_get plans k ≡ Some plan → slice_get opened k ≡ Some sink
      → (sink.room ≡ plan.capacity) × (sink.messages.items ≡ []) × (sink.place ≡ first + k)

-- the places of sources and sinks: where those of the sinks begin, and the first number after them
pub record AreScriptPlaces (plan : Plan) (first : ℕ) (places : ℕ × ℕ) : Type 0 where
  pub sinks : places.0 ≡ first + (length plan.nodes + length plan.sources)
  pub fresh : places.1 ≡ first + node_count plan
  pub fits : places.1 < 2 ^ 32

-- a check with n agents more, each with its slot
abbrev pub with_agents : ℕ → Check → Check
with_agents zero check = check
with_agents (suc n) check = with_slot (with_agent (with_agents n check))

-- the check of this number of places and agents before the first step
abbrev pub first_check : (places agents : ℕ) → Check
first_check places agents = with_agents agents (with_places places nothing_checked)

-- the wire to an end is found, once
pub record AddsEnd (old : List Agent) (e : End) (new : List Agent) : Type 0 where
  pub there : Contains new (agent.Wire e)
  pub same : (new ≡ old) ⊎ ((Contains old (agent.Wire e) → ⊥) × (new ≡ old ++ agent.Wire e ∷ []))

-- an agent is a wire
abbrev pub IsWire : Agent → Type 0
IsWire a = (e : End) × (a ≡ agent.Wire e)

-- these are the wires to all ends, each once
pub record AreEnds (wires : List Wire) (found : List Agent) : Type 0 where
  pub only : All IsWire found
  pub apart : AreApart (λ a. a) found
  pub ends : (w : Wire) → Contains wires w → Contains found (agent.Wire w.a) × Contains found (agent.Wire w.b)

-- the agents of a node: its processes, then its channels
abbrev pub agents_at : ℕ → Node → List Agent
agents_at n node =
    map (agent.Process n) (range_with_len 0 (length node.processes.items.items))
    ++ map (agent.Channel n) (range_with_len 0 (length node.channels.items.items))

-- those of nodes, which are numbered from this number on
abbrev pub agents_from : ℕ → List Node → List Agent
agents_from n [] = []
agents_from n (node ∷ nodes) = agents_at n node ++ agents_from (suc n) nodes

-- the agents that there are: the wires, then those of the nodes
pub record AreAgents (wires : List Wire) (nodes : List Node) (found : List Agent) : Type 0 where
  pub ends : List Agent
  pub known : AreEnds wires ends
  pub all : found ≡ ends ++ agents_from 0 nodes

-- each agent is one that may have a step
abbrev pub AllMayHaveSteps : Machine → Type 0
AllMayHaveSteps m = m.candidates.items ≡ range_with_len 0 (length m.agents.items)

-- the nodes have their places one after another, and then the sources and sinks have theirs, by the numbers that they
-- have as nodes
pub record HasPlacesInOrder (plan : Plan) (m : Machine) : Type 0 where
  pub nodes : AreOpen plan.nodes m.nodes.items
  pub scripts : m.first_script ≡ fresh_after m.nodes.items
  pub sinks : AreEmpty plan.sinks (m.first_script + (length plan.nodes + length plan.sources)) m.sinks.items
  pub fresh : m.fresh_place ≡ m.first_script + node_count plan
