use Rattle.tverdict.specs.Still.{AreStill, GoesOnAt, IsSettled}
use Rattle.std.proofs.Common.{◌<◌, length}
use Rattle.tverdict.proofs.calls.do_quiet_steps.Given as goal

abbrev pub invariant-loop-done : goal.invariant-loop-done
invariant-loop-done l =
    record {
      still : AreStill l.done l.process l.fn.node l.node;
      settled : IsSettled l.node;
      there : l.process < length l.node.processes.items.items;
      goes : GoesOnAt l.fn.node l.process → GoesOnAt l.node l.process;
    }
