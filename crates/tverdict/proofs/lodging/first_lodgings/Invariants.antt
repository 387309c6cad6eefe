use Rattle.tverdict.proofs.Berths.{AreFirstBefore}
use Rattle.tverdict.proofs.lodging.first_lodgings.Given as goal

abbrev pub invariant-loop-node : goal.invariant-loop-node
invariant-loop-node l = AreFirstBefore l.nodes l.lodgings.items l.node-index
