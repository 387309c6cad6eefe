use Rattle.std.proofs.Common.{◌≡◌, ◌+◌, ◌≤◌, length}
use Rattle.tnet.specs.Net.{sinks_from}
use Rattle.tnet.proofs.scripts.Sinks.take_first.Given as goal

-- none was passed over, and the numbers stay small
abbrev pub invariant-loop-node : goal.invariant-loop-node
invariant-loop-node l =
    record {
      same : sinks_from l.initial.self-inside.parts.now.wires l.initial.self-inside.number
          l.initial.self-inside.nodes.now
          ≡ sinks_from l.self-inside.parts.now.wires l.self-inside.number l.self-inside.nodes.now;
      few : l.self-inside.number + length l.self-inside.nodes.now ≤ 64;
    }

abbrev pub decreases-loop-node : goal.decreases-loop-node
decreases-loop-node l = length l.self-inside.nodes.now
