-- Sets of nodes that may have something to do: the others rest.
-- Source: own choice, how rounds are shared out.
use Rattle.std.specs.Prelude.{◌≡◌, ℕ, ◌<◌, ◌≤◌, List, [], length, slice_index_or, true}
use Rattle.std.specs.Int.{bit_at}
use Rattle.tword.specs.Limits.{most_nodes}
use Rattle.trounds.specs.declared.awake.Awake.{Awake}
use Rattle.trounds.specs.declared.round_node.RoundNode.{RoundNode}
use Rattle.trounds.specs.RoundNodes.{told_of}

-- of a set the nodes from a place on are left: the place is that of one of them, where there is a node
pub record IsLeft (all left : Awake) (place : ℕ) : Type 0 where
  pub passed : (n : ℕ) → n < place → bit_at left.nodes n ≡ 0
  pub same : (n : ℕ) → place ≤ n → bit_at left.nodes n ≡ bit_at all.nodes n
  pub found : place < most_nodes → bit_at all.nodes place ≡ 1

-- the nodes that are not in a set rest: they have nothing to do, and nothing of their last round is left
pub record RestOutside (awake : Awake) (round_nodes : List RoundNode) : Type 0 where
  pub rest : (n : ℕ) (d : RoundNode) → n < length round_nodes → bit_at awake.nodes n ≡ 0
      → (slice_index_or round_nodes n d).rests ≡ true

-- the nodes that are in neither of two sets rest
pub record RestOutsideBoth (one other : Awake) (round_nodes : List RoundNode) : Type 0 where
  pub rest : (n : ℕ) (d : RoundNode) → n < length round_nodes → bit_at one.nodes n ≡ 0 → bit_at other.nodes n ≡ 0
      → (slice_index_or round_nodes n d).rests ≡ true

-- the nodes that are not in a set have sent, done and told nothing
pub record SilentOutside (awake : Awake) (round_nodes : List RoundNode) : Type 0 where
  pub silent : (n : ℕ) (d : RoundNode) → n < length round_nodes → bit_at awake.nodes n ≡ 0
      → told_of (slice_index_or round_nodes n d) ≡ ([], [], [])
