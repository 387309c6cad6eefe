use Rattle.std.proofs.Common.{◌≡◌}
use Rattle.std.specs.Prelude.{replicate, Ok}
use Rattle.tfree.proofs.turning.going.Given as goal

abbrev pub invariant-loop-worker : goal.invariant-loop-worker
invariant-loop-worker l = l.endings.items ≡ replicate l._worker (Ok tt)
