use Rattle.std.proofs.Common.{take}
use Rattle.tverdict.specs.Opening.{AreOpen}
use Rattle.tverdict.proofs.opening.opened_nodes.Given as goal

abbrev pub invariant-loop-number : goal.invariant-loop-number
invariant-loop-number l = AreOpen (take l.number l.plans) l.nodes.items
