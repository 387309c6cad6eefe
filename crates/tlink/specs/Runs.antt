-- Runs of a node in a row.
-- Source: own choice, the result of several events of the processor.
use Rattle.std.specs.Prelude.{ℕ, zero, suc, ◌+◌, Bool, true, false, Option, Some, None, Result, Ok, Err, if◌then◌else◌}
use Rattle.tlink.specs.declared.event.Emitted.{Emitted}
use Rattle.tlink.specs.declared.event.Mark.{Mark}
use Rattle.tlink.specs.declared.event.Mark.TheVariants.{Nothing}
use Rattle.tlink.specs.declared.event.NodeEvent.TheVariants.{Run}
use Rattle.tlink.specs.declared.event.Runs.{Runs}
use Rattle.tlink.specs.declared.event.StepFault.{StepFault}
use Rattle.tlink.specs.Node.{NodeState}
use Rattle.tlink.specs.Events.{happens, node_answered, node_left_by}

-- a mark that tells nothing
abbrev pub is_nothing : Mark → Bool
is_nothing Nothing = true
is_nothing _ = false

-- a row with k more runs in front
abbrev pub behind : ℕ → NodeState × Runs → NodeState × Runs
behind k (n, row) = (n, record { count = k + row.count; last = row.last })

-- no run, and then this answer, if there is one
abbrev pub ends_with : Option (Result Emitted StepFault) → Runs
ends_with last = record { count = 0; last = last }

-- a row whose first run answered this and left this node: it goes on, or ends here
abbrev pub followed : (NodeState → NodeState × Runs) → Result Emitted StepFault → NodeState → NodeState × Runs
followed rest (Ok e) n = if is_nothing e.mark then behind 1 (rest n) else (n, ends_with (Some (Ok e)))
followed rest (Err f) n = (n, ends_with (Some (Err f)))

-- at most this number of runs in a row: the node after them, how many were done that told nothing, and the answer of
-- the run behind them, where that is the last one: it halted the processor, was not enabled, or froze the node
unfoldable pub runs : ℕ → NodeState → NodeState × Runs
runs zero n = (n, ends_with None)
runs (suc k) n = followed (λ m. runs k m) (node_answered (happens Run n)) (node_left_by n (happens Run n))
