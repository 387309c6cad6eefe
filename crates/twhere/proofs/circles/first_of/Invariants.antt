use Rattle.std.proofs.Common.{◌≡◌, ℕ, List, length}
use Rattle.std.specs.Prelude.{◌&&◌}
use Rattle.std.specs.List.{find}
use Rattle.twhere.specs.Circles.{is_among, numbers_from}
use Rattle.twhere.specs.NodeSets.{IsSetOf, set_waits}
use Rattle.twhere.proofs.circles.first_of.Given as goal

-- none of those before is one
abbrev pub invariant-loop-other : goal.invariant-loop-other
invariant-loop-other l =
    (xs : List ℕ) → IsSetOf l.fn.ends xs
    → find (λ c. set_waits l.waits l.node c && is_among xs c) (numbers_from l.other (length l.waits))
    ≡ find (λ c. set_waits l.waits l.node c && is_among xs c) (numbers_from l.lowest (length l.waits))
