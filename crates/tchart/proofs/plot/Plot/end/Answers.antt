use Rattle.std.proofs.Common.{◌≡◌, ℕ, suc, ◌+◌, ap, sym, ◌∙◌, arith}
use Rattle.tword.specs.Limits.{most_nodes}
use Rattle.tchart.specs.Plots.{PlotState, closed, ended, lanes_ended}
use Rattle.tchart.proofs.Counts.{at_last}
use Rattle.tchart.proofs.plot.Plot.end.Goals as goal

pub loop-node-preserved : goal.loop-node-preserved
loop-node-preserved c =
    let next : c.loop-node.node + 1 ≡ suc c.loop-node.node = omega arith in
    c.in_ok-end_node.ensures
    ∙ ap (λ (p : PlotState). lanes_ended 6 c.loop-node.node c.args.to (closed c.loop-node.node p))
    c.loop-node.invariant
    ∙ sym (ap (λ (n : ℕ). ended n c.args.to c.args.self.now) next)

pub returns : goal.returns
returns c =
    at_last (λ (n : ℕ). ended n c.args.to c.args.self.now) c.loop-node.self c.loop-node.node most_nodes
    c.loop-node.invariant (omega arith)
