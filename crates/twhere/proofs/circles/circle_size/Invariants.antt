use Rattle.std.proofs.Common.{◌≡◌, ◌+◌, suc, length}
use Rattle.std.specs.List.{find}
use Rattle.twhere.specs.Circles.{circle_size, comes_round, leading, numbers_from}
use Rattle.twhere.specs.NodeSets.{IsSetOf, set_waits}
use Rattle.twhere.proofs.circles.circle_size.Given as goal

-- no circle has as few steps as were tried so far
abbrev pub invariant-loop-done : goal.invariant-loop-done
invariant-loop-done l = record {
  so_far : IsSetOf l.ends (leading (length l.waits) (set_waits l.waits) l.lowest l.done);
  left : find (comes_round (length l.waits) (set_waits l.waits) l.lowest)
      (numbers_from (l.done + 1) (suc (length l.waits)))
      ≡ circle_size (length l.waits) (set_waits l.waits) l.lowest;
}
