use Rattle.std.proofs.Common.{length}
use Rattle.twhere.specs.Circles.{leading}
use Rattle.twhere.specs.NodeSets.{IsSetOf, set_waits}
use Rattle.twhere.proofs.circles.leading.Given as goal

-- as far as the steps go
abbrev pub invariant-loop-done : goal.invariant-loop-done
invariant-loop-done l = IsSetOf l.ends (leading (length l.waits) (set_waits l.waits) l.lowest l._done)
