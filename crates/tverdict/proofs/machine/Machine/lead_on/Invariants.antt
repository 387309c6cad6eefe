-- What was told stays so.
use Rattle.tverdict.specs.Stepping.{KeepsTold}
use Rattle.tverdict.proofs.machine.Machine.lead_on.Given as goal

abbrev pub invariant-loop-index : goal.invariant-loop-index
invariant-loop-index l = KeepsTold l.number l.node l.initial.self l.self
