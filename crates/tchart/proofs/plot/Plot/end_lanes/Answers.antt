use Rattle.std.proofs.Common.{ℕ, arith}
use Rattle.tchart.specs.Plots.{lanes_ended}
use Rattle.tchart.proofs.Counts.{at_last}
use Rattle.tchart.proofs.plot.Plot.end_lanes.Goals as goal

pub returns : goal.returns
returns c =
    at_last (λ (n : ℕ). lanes_ended n c.args.node c.args.to c.args.self.now) c.loop-lane.self c.loop-lane.lane 6
    c.loop-lane.invariant (omega arith)
