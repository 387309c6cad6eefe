-- Sets of nodes, and which set of nodes each node waits for.
-- Source: own choice, what is proved of the sets.
use Rattle.std.specs.Prelude.{ℕ, ◌≡◌, Bool, ◌||◌, ◌==◌, List, slice_index_or}
use Rattle.std.specs.Int.{bit_at}
use Rattle.tnet.specs.Net.{NetState}
use Rattle.twhere.specs.declared.node_set.NodeSet.{NodeSet}
use Rattle.twhere.specs.declared.waits.Wait.{Wait}
use Rattle.twhere.specs.Circles.{is_among}
use Rattle.twhere.specs.Waits.{leads_to}

-- a node is in a set
abbrev pub has_node : NodeSet → ℕ → Bool
has_node s n = bit_at s.nodes n == 1

-- no node
abbrev pub no_nodes : NodeSet
no_nodes = record { nodes = 0 }

-- a set has just these nodes
abbrev pub IsSetOf : NodeSet → List ℕ → Type 0
IsSetOf s xs = (n : ℕ) → has_node s n ≡ is_among xs n

-- what a node waits for, by the sets of some nodes from the first one on
abbrev pub set_waits : List NodeSet → ℕ → ℕ → Bool
set_waits sets a b = has_node (slice_index_or sets a no_nodes) b

-- a set gets the nodes to which waits of a node of this number lead
pub record Adds (net : NetState) (k : ℕ) (old new : NodeSet) (waits : List Wait) : Type 0 where
  pub each : (n : ℕ) → has_node new n ≡ (has_node old n || leads_to net.wires k n waits)
