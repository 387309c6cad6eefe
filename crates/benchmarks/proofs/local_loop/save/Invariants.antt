use Rattle.std.specs.Prelude.{◌≡◌, length}
use Rattle.benchmarks.proofs.local_loop.save.Given as goal

abbrev pub invariant-loop-number : goal.invariant-loop-number
invariant-loop-number l = length l.marks.saved ≡ l.number
