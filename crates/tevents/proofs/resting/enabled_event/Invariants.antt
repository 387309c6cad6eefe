use Rattle.std.proofs.Common.{◌≡◌, ◌-◌}
use Rattle.tnet.specs.Quiet.{is_quiet, is_quiet_from}
use Rattle.tevents.proofs.resting.enabled_event.Given as goal

-- the nodes from this one on decide
abbrev pub invariant-loop-node : goal.invariant-loop-node
invariant-loop-node l = is_quiet l.net ≡ is_quiet_from l.net l.node (l.nodes - l.node)
