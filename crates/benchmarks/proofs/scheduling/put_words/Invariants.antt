use Rattle.tproc.specs.Opening.{HasNobody}
use Rattle.benchmarks.proofs.scheduling.put_words.Given as goal

abbrev pub invariant-loop-word : goal.invariant-loop-word
invariant-loop-word l = HasNobody l.p
