use Rattle.std.proofs.Common.{◌≡◌}
use Rattle.tnet.specs.Net.{node_at}
use Rattle.tchart.specs.Plots.{over}
use Rattle.tchart.proofs.layout.end_pauses.Given as goal

abbrev pub invariant-loop-lane : goal.invariant-loop-lane
invariant-loop-lane l = l.plot ≡ over l.lane l.node l.number (node_at l.net l.node) l.initial.plot
