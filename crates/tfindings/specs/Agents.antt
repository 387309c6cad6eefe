-- Agents of the process machine, as they are printed.
-- Source: own choice, a format of this program.
use Rattle.std.specs.Prelude.{ℕ, ◌≡◌, ◌+◌, ◌*◌, Bool, true, List, ◌++◌, flat_map, reverse, codes, decimal, slice_get}
use Rattle.std.specs.Prelude.{Some, length, nat_lt, option_map, unwrap_or}
use Rattle.tword.specs.Words.{most_neg}
use Rattle.tfiles.specs.Texts.{end_text}
use Rattle.twhere.specs.Standing.{word_text}
use Rattle.tprocesses.specs.Places.{Name, Root, Image, After}
use Rattle.tprocesses.specs.Machine.{Agent, Process, Channel, Wire, Successor}
use Rattle.tcertify.specs.declared.node.Node.{Node}
use Rattle.tverdict.specs.declared.agent.Agent as found
use Rattle.tverdict.specs.declared.agent.Agent.TheVariants as agent

-- where a name begins: at a process of the image, by its number, or at a successor, by its workspace and how many went
-- on there before
abbrev pub root_text : Root → List ℕ
root_text (Image k) = decimal k
root_text (After w k) = codes "after " ++ (word_text w ++ (codes "." ++ decimal k))

-- a child, by its number
abbrev pub child_text : ℕ → List ℕ
child_text k = codes "." ++ decimal k

-- the name of a process: where it begins, and the children that lead to it
abbrev pub name_text : Name → List ℕ
name_text x = root_text x.root ++ flat_map child_text (reverse x.path)

-- a node, and what of it is meant
abbrev pub node_head : ℕ → List ℕ → List ℕ
node_head n what = codes "node " ++ (decimal n ++ (codes " " ++ (what ++ codes " ")))

-- something of a node, by what it is called
abbrev pub at_node : ℕ → List ℕ → List ℕ → List ℕ
at_node n what which = node_head n what ++ which

-- the address of the word of a number
abbrev pub word_address : ℕ → List ℕ
word_address k = word_text (most_neg + 4 * k)

-- the nodes have the numbers of their places
abbrev pub AreNumbered : List Node → Type 0
AreNumbered nodes = (k : ℕ) (n : Node) → slice_get nodes k ≡ Some n → n.words.number ≡ k

-- an agent
abbrev pub agent_text : Agent → List ℕ
agent_text (Process x) = at_node x.node (codes "process") (name_text x)
agent_text (Channel n c) = at_node n (codes "channel") (word_text c)
agent_text (Wire e) = codes "wire to " ++ end_text e
agent_text (Successor n k) = at_node n (codes "successor") (word_address k)

-- how many things a node has, if there is the node
abbrev pub count_at : (Node → ℕ) → List Node → ℕ → ℕ
count_at count nodes n = unwrap_or (option_map count (slice_get nodes n)) 0

-- what an agent is named by is there
abbrev pub is_there : List Node → found.Agent → Bool
is_there nodes (agent.Process n k) = nat_lt k (count_at (λ node. length node.processes.items.items) nodes n)
is_there nodes (agent.Channel n k) = nat_lt k (count_at (λ node. length node.channels.items.items) nodes n)
is_there nodes (agent.Wire e) = true
is_there nodes (agent.Successor n k) = nat_lt k (count_at (λ node. length node.words.items.items) nodes n)
