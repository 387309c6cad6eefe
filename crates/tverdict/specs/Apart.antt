-- A call on one node as a call on the whole machine: the other nodes, sources and sinks stay as they are.
-- Source: own choice.
use Rattle.std.specs.Prelude.{ℕ, ◌≡◌, List, Result, Some, slice_get, slice_set}
use Rattle.tplan.specs.declared.plan.Plan.{Plan}
use Rattle.tprocesses.specs.Parts.{Part, Reason}
use Rattle.tcertify.specs.declared.node.Node.{Node}
use Rattle.tcertify.specs.Nodes.{node_at, RunsAt}
use Rattle.tcertify.specs.Running.{State, run_part}
use Rattle.tcertify.specs.declared.sink.Sink.{Sink}
use Rattle.tverdict.specs.Machines.{state_of}

-- the state of the whole machine as that of one of its nodes, in a state that stays as it is where the node changes
pub record IsApart (plan : Plan) (nodes : List Node) (sent : List ℕ) (sinks : List Sink) (k : ℕ) (node : Node)
    : Type 0 where
  pub rest : State
  pub before : node_at node rest ≡ state_of plan nodes sent sinks
  pub after : (new : Node) → new.words.number ≡ k
      → node_at new rest ≡ state_of plan (slice_set nodes k new) sent sinks

-- the same holds for each of its nodes
abbrev pub NodesAreApart : Type 0
NodesAreApart =
    (plan : Plan) (nodes : List Node) (sent : List ℕ) (sinks : List Sink) (k : ℕ) (node : Node)
    → slice_get nodes k ≡ Some node → node.words.number ≡ k → IsApart plan nodes sent sinks k node

-- a call on a node runs the part on the whole machine
abbrev pub CallsAtNodesRun : Type 0 → Type 0
CallsAtNodesRun A =
    (plan : Plan) (nodes : List Node) (sent : List ℕ) (sinks : List Sink) (k : ℕ) (old new : Node)
    (part : Part A) (answer : Result A Reason)
    → slice_get nodes k ≡ Some old → old.words.number ≡ k → RunsAt part old answer new
    → run_part part (state_of plan nodes sent sinks)
    ≡ (answer, state_of plan (slice_set nodes k new) sent sinks)
