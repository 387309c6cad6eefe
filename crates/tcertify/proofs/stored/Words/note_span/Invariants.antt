use Rattle.tprocesses.specs.Touching.{word_number}
use Rattle.tcertify.proofs.Marking.{NotedSoFar}
use Rattle.tcertify.proofs.stored.Words.note_span.Given as goal

-- the first words are noted
abbrev pub invariant-loop-k : goal.invariant-loop-k
invariant-loop-k l = NotedSoFar l.fn.self (word_number l.span.start) l.k l.mode l.self
