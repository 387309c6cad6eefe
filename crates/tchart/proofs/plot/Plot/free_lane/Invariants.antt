use Rattle.std.proofs.Common.{◌≡◌, ◌-◌}
use Rattle.tchart.specs.Plots.{free_lane}
use Rattle.tchart.proofs.plot.Plot.free_lane.Given as goal

-- none of the lanes so far is free
abbrev pub invariant-loop-lane : goal.invariant-loop-lane
invariant-loop-lane l = free_lane (6 - l.lane) l.self l.node l.lane ≡ free_lane 6 l.self l.node 0
