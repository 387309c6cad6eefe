use Rattle.std.proofs.Common.{◌≡◌}
use Rattle.tchart.specs.Plots.{lanes_ended}
use Rattle.tchart.proofs.plot.Plot.end_lanes.Given as goal

abbrev pub invariant-loop-lane : goal.invariant-loop-lane
invariant-loop-lane l = l.self ≡ lanes_ended l.lane l.node l.to l.initial.self
