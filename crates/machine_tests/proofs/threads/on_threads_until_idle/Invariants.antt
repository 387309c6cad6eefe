use Rattle.tfree.specs.Opened.{ComeFromOneOpen}
use Rattle.machine_tests.proofs.threads.on_threads_until_idle.Given as goal

abbrev pub invariant-loop-time : goal.invariant-loop-time
invariant-loop-time g l = ComeFromOneOpen l.workers.items
