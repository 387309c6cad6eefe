use Rattle.std.proofs.Common.{◌≡◌, ◌-◌}
use Rattle.tnet.specs.NetParts.{net_of_parts}
use Rattle.tnet.specs.Quiet.{is_quiet, is_quiet_from}
use Rattle.tnet.proofs.parts.NetParts.is_quiet.Given as goal

-- the nodes from this one on decide
abbrev pub invariant-loop-node : goal.invariant-loop-node
invariant-loop-node l =
    is_quiet (net_of_parts l.self) ≡ is_quiet_from (net_of_parts l.self) l.node (l.node-end - l.node)
