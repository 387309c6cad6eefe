use Rattle.std.proofs.Common.{◌≡◌}
use Rattle.tchart.specs.Plots.{ended}
use Rattle.tchart.proofs.plot.Plot.end.Given as goal

abbrev pub invariant-loop-node : goal.invariant-loop-node
invariant-loop-node l = l.self ≡ ended l.node l.to l.initial.self
