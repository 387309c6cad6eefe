use Rattle.tverdict.proofs.Looked.{IsSeeking}
use Rattle.tverdict.proofs.machine.Machine.find_candidates.Given as goal

abbrev pub invariant-loop-number : goal.invariant-loop-number
invariant-loop-number l = IsSeeking l.plan l.fn.self l.number l.self
