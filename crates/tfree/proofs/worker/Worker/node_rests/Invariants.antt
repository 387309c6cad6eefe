use Rattle.std.proofs.Common.{ℕ, ◌<◌}
use Rattle.tfree.specs.Resting.{LinkRests}
use Rattle.tfree.proofs.worker.Worker.node_rests.Given as goal

abbrev pub invariant-loop-link : goal.invariant-loop-link
invariant-loop-link l = (k : ℕ) → k < l.link → LinkRests l.workers l.self l.i k
