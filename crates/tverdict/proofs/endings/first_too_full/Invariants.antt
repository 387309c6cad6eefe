use Rattle.tverdict.specs.Verdicts.{HaveRoom}
use Rattle.tverdict.proofs.endings.first_too_full.Given as goal

abbrev pub invariant-loop-number : goal.invariant-loop-number
invariant-loop-number l = HaveRoom l.nodes l.lodgings l.number
