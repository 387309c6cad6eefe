use Rattle.std.specs.Prelude.{negsuc}
use Rattle.tprocesses.specs.Touching.{word_number}
use Rattle.tcertify.proofs.Counting.{CountedSoFar}
use Rattle.tcertify.proofs.stored.Words.take_one.Given as goal

-- the counts of the first words have changed
abbrev pub invariant-loop-k : goal.invariant-loop-k
invariant-loop-k l = CountedSoFar l.fn.self (word_number l.span.start) l.k (negsuc 0) l.self
