use Rattle.std.proofs.Common.{◌≡◌, ℕ, List, length}
use Rattle.std.specs.Prelude.{◌||◌, filter}
use Rattle.std.specs.List.{list_any}
use Rattle.twhere.specs.Circles.{is_among, numbers_from, waiting_for}
use Rattle.twhere.specs.NodeSets.{IsSetOf, has_node, set_waits}
use Rattle.twhere.proofs.circles.waiting_for.Given as goal

-- those that were put in, and those that are left
abbrev pub invariant-loop-node : goal.invariant-loop-node
invariant-loop-node l =
    (xs : List ℕ) → IsSetOf l.ends xs → (n : ℕ)
    → (has_node l.all n
    || is_among (filter (λ a. list_any (set_waits l.waits a) xs) (numbers_from l.node (length l.waits))) n)
    ≡ is_among (waiting_for (length l.waits) (set_waits l.waits) l.lowest xs) n
