-- The agents that the program has found.
-- Source: own choice.
use Rattle.std.specs.Prelude.{ℕ, ◌≡◌, ◌<◌, ◌⊎◌, Contains, List, [], option_map, length, Some, slice_get, unwrap_or}
use Rattle.tprocesses.specs.Places.{Name, Image}
use Rattle.tprocesses.specs.Machine as machine
use Rattle.tcertify.specs.declared.node.Node.{Node}
use Rattle.tcertify.specs.declared.process.Process.{Process}
use Rattle.tcertify.specs.declared.standing.Stand.TheVariants as stand
use Rattle.tcertify.specs.Nodes.{name_at, address_at}
use Rattle.tverdict.specs.declared.agent.Agent.{Agent}
use Rattle.tverdict.specs.declared.agent.Agent.TheVariants as agent

-- the name of a process by the numbers of its node and of itself; there is always one where it is asked for
abbrev pub name_there : List Node → ℕ → ℕ → Name
name_there nodes n k =
    unwrap_or (option_map (λ node. name_at node k) (slice_get nodes n)) (record { node = n; root = Image 0; path = [] })

-- the address of a channel alike
abbrev pub address_there : List Node → ℕ → ℕ → ℕ
address_there nodes n k = unwrap_or (option_map (λ node. address_at node k) (slice_get nodes n)) 0

-- an agent of the machine
abbrev pub agent_of : List Node → Agent → machine.Agent
agent_of nodes (agent.Process n k) = machine.Process (name_there nodes n k)
agent_of nodes (agent.Channel n k) = machine.Channel n (address_there nodes n k)
agent_of nodes (agent.Wire e) = machine.Wire e
agent_of nodes (agent.Successor n word) = machine.Successor n word

-- a node of this number has processes, or channels, or words, beyond this one
abbrev pub HasProcess : List Node → ℕ → ℕ → Type 0
HasProcess nodes n k = (node : Node) × (slice_get nodes n ≡ Some node) × (k < length node.processes.items.items)

abbrev pub HasChannel : List Node → ℕ → ℕ → Type 0
HasChannel nodes n k = (node : Node) × (slice_get nodes n ≡ Some node) × (k < length node.channels.items.items)

abbrev pub HasWord : List Node → ℕ → ℕ → Type 0
HasWord nodes n k = (node : Node) × (slice_get nodes n ≡ Some node) × (k < length node.words.items.items)

-- what an agent is named by is there
abbrev pub IsThere : List Node → Agent → Type 0
IsThere nodes (agent.Process n k) = HasProcess nodes n k
IsThere nodes (agent.Channel n k) = HasChannel nodes n k
IsThere nodes (agent.Wire e) = Unit {0}
IsThere nodes (agent.Successor n k) = HasWord nodes n k

-- a process of a node has ended
pub record HasEndedAt (nodes : List Node) (n k : ℕ) : Type 0 where
  pub node : Node
  pub there : slice_get nodes n ≡ Some node
  pub known : Process
  pub has : slice_get node.processes.items.items k ≡ Some known
  pub ended : known.stand ≡ stand.Ended

-- an agent is a process that has ended
abbrev pub IsEnded : List Node → Agent → Type 0
IsEnded nodes (agent.Process n k) = HasEndedAt nodes n k
IsEnded nodes (agent.Channel n k) = ⊥
IsEnded nodes (agent.Wire e) = ⊥
IsEnded nodes (agent.Successor n k) = ⊥

-- it is among agents that were found, or has ended
abbrev pub IsMet : List Node → List Agent → Agent → Type 0
IsMet nodes found a = Contains found a ⊎ IsEnded nodes a
