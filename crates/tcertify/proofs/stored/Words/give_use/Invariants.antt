use Rattle.tprocesses.specs.Touching.{word_number}
use Rattle.tcertify.proofs.Marking.{GivenSoFar}
use Rattle.tcertify.proofs.stored.Words.give_use.Given as goal

-- the first words have the use
abbrev pub invariant-loop-k : goal.invariant-loop-k
invariant-loop-k l = GivenSoFar l.fn.self (word_number l.span.start) l.k l.used l.self
