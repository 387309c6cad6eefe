use Rattle.std.proofs.Common.{◌≡◌, ◌≤◌, ◌-◌, Some, length}
use Rattle.tcode.specs.Known.{Knows}
use Rattle.tcpu.specs.Stretches.{gone_on}
use Rattle.tcpu.proofs.execution.short_row.Given as goal

abbrev pub invariant-loop-left : goal.invariant-loop-left
invariant-loop-left l = record {
  done :
      gone_on (l.most - l.left) l.fn.memory.kind l.fn.marks l.fn.registers l.fn.memory.bytes
      ≡ Some (l.registers, l.memory.bytes);
  within : l.left ≤ l.most;
  knows : Knows l.fn.entries l.fn.words l.memory.bytes l.fn.marks;
  sized : length l.memory.bytes ≡ length l.fn.memory.bytes;
  kind : l.memory.kind ≡ l.fn.memory.kind;
}

abbrev pub decreases-loop-left : goal.decreases-loop-left
decreases-loop-left l = l.left
