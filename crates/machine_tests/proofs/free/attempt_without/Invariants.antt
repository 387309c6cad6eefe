use Rattle.tfree.specs.Opened.{ComeFromOneOpen}
use Rattle.machine_tests.proofs.free.attempt_without.Given as goal

abbrev pub invariant-loop-place : goal.invariant-loop-place
invariant-loop-place l = ComeFromOneOpen l.workers.items
