use Rattle.std.proofs.Common.{◌≡◌, ◌++◌, take}
use Rattle.tverdict.specs.Opening.{agents_from}
use Rattle.tverdict.proofs.finding.find_at_nodes.Given as goal

abbrev pub invariant-loop-number : goal.invariant-loop-number
invariant-loop-number l = l.agents.items ≡ l.fn.agents.items ++ agents_from 0 (take l.number l.nodes)
