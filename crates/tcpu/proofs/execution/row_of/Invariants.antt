use Rattle.std.proofs.Common.{◌≡◌, ◌≤◌, ◌-◌, Some, length}
use Rattle.tcode.specs.Known.{AreFetched}
use Rattle.tcpu.specs.Stretches.{gone_on}
use Rattle.tcpu.proofs.execution.row_of.Given as goal

abbrev pub invariant-loop-done : goal.invariant-loop-done
invariant-loop-done l = record {
  done :
      gone_on l.done l.fn.memory.kind l.fn.marks l.fn.registers l.fn.memory.bytes ≡ Some (l.registers, l.memory.bytes);
  within : l.done ≤ l.most;
  fetched : AreFetched l.codes.entries.items l.memory.bytes l.fn.marks;
  sized : length l.memory.bytes ≡ length l.fn.memory.bytes;
  kind : l.memory.kind ≡ l.fn.memory.kind;
}

abbrev pub decreases-loop-done : goal.decreases-loop-done
decreases-loop-done l = l.most - l.done
