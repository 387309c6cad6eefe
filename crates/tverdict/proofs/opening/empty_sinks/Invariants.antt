use Rattle.std.proofs.Common.{take}
use Rattle.tverdict.specs.Opening.{AreEmpty}
use Rattle.tverdict.proofs.opening.empty_sinks.Given as goal

abbrev pub invariant-loop-number : goal.invariant-loop-number
invariant-loop-number l = AreEmpty (take l.number l.plans) l.first_place l.sinks.items
