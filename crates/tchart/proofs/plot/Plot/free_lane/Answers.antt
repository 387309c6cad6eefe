use Rattle.std.proofs.Common.{◌≡◌, ◌<◌, ◌∙◌, sym, false, arith, rules}
use Rattle.std.specs.Prelude.{is_none}
use Rattle.tchart.specs.Plots.{lane_at}
use Rattle.tchart.proofs.FreeLanes.{free_behind}
use Rattle.tchart.proofs.plot.Plot.free_lane.Goals as goal

pub loop-lane-preserved : goal.loop-lane-preserved
loop-lane-preserved c =
    let few : c.loop-lane.lane < 6 = omega (arith, c.loop-lane-test.true) in
    let taken : is_none c.lane.result ≡ false = search rules in
    let used : is_none (lane_at c.args.self.now c.args.node c.loop-lane.lane) ≡ false = rw c.lane.ensures at taken in
    sym (free_behind c.args.self.now c.args.node c.loop-lane.lane few used) ∙ c.loop-lane.invariant
