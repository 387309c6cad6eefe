use Rattle.std.proofs.Common.{◌≤◌, ◌-◌}
use Rattle.tverdict.specs.Still.{AreStill, GoesOnAt}
use Rattle.tverdict.proofs.calls.do_steps.Given as goal

abbrev pub invariant-loop-still : goal.invariant-loop-still
invariant-loop-still l =
    record {
      still : AreStill l.still l.process l.fn.node l.node;
      goes : GoesOnAt l.node l.process;
      few : l.still ≤ l.most;
    }

abbrev pub decreases-loop-still : goal.decreases-loop-still
decreases-loop-still l = l.most - l.still
