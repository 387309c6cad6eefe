use Rattle.std.proofs.Common.{ℕ, ◌<◌}
use Rattle.tfree.specs.Resting.{NodeRests}
use Rattle.tfree.proofs.worker.Worker.has_nothing_left.Given as goal

abbrev pub invariant-loop-i : goal.invariant-loop-i
invariant-loop-i l = (k : ℕ) → k < l.i → NodeRests l.workers l.self k
