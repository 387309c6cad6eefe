use Rattle.std.proofs.Common.{ℕ, ◌∙◌, arith}
use Rattle.tword.specs.Limits.{most_nodes}
use Rattle.tchart.specs.Layout.{columns_below}
use Rattle.tchart.proofs.Counts.{at_last}
use Rattle.tchart.proofs.layout.columns.Goals as goal

pub returns : goal.returns
returns c =
    c.new.ensures
    ∙ at_last (λ (n : ℕ). columns_below n c.args.net.now.nodes) c.loop-number.columns.items c.loop-number.number
    most_nodes c.loop-number.invariant (omega arith)
