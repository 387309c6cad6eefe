use Rattle.std.proofs.Common.{ℕ, arith}
use Rattle.tnet.specs.Net.{node_at}
use Rattle.tchart.specs.Plots.{over}
use Rattle.tchart.proofs.Counts.{at_last}
use Rattle.tchart.proofs.layout.end_pauses.Goals as goal

pub returns : goal.returns
returns c =
    at_last (λ (n : ℕ). over n c.args.node c.args.number (node_at c.args.net.now c.args.node) c.args.plot.now)
    c.loop-lane.plot c.loop-lane.lane 6 c.loop-lane.invariant (omega arith)
