use Rattle.std.proofs.Common.{◌≡◌}
use Rattle.tchart.specs.Layout.{columns_below}
use Rattle.tchart.proofs.layout.columns.Given as goal

abbrev pub invariant-loop-number : goal.invariant-loop-number
invariant-loop-number l = l.columns.items ≡ columns_below l.number l.net.nodes
