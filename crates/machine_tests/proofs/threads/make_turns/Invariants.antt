use Rattle.std.proofs.Common.{◌≡◌}
use Rattle.machine_tests.proofs.threads.make_turns.Given as goal

abbrev pub invariant-loop-turn : goal.invariant-loop-turn
invariant-loop-turn l = l.worker.share ≡ l.initial.worker.share
