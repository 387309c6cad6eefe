use Rattle.tprocesses.specs.Touching.{word_count, word_for, word_number}
use Rattle.tcertify.specs.Words.{site_of, use_of}
use Rattle.tcertify.proofs.Rows.{Leads}
use Rattle.tcertify.proofs.stored.Words.expect_span.Given as goal

-- the first words have the use
abbrev pub invariant-loop-k : goal.invariant-loop-k
invariant-loop-k l =
    Leads (word_for (site_of l.fn.self) (use_of l.used)) (word_number l.span.start) (word_count l.span) l.fn.self l.k
    l.self
