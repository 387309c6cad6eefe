-- Raised so far, the counts come to the same joined clock, and none of the first ones is below the other clock's.
use Rattle.tclocks.proofs.ClockLemmas.{AreRaised}
use Rattle.tclocks.proofs.clock.raise_each.Given as goal

abbrev pub invariant-loop-place : goal.invariant-loop-place
invariant-loop-place l = AreRaised l.counts l.others l.initial.counts l.place
