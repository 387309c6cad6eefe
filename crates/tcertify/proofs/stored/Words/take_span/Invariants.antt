use Rattle.tword.specs.Touches.{Writes}
use Rattle.tprocesses.specs.Touching.{touch_word, word_count, word_number}
use Rattle.tcertify.specs.Words.{site_of}
use Rattle.tcertify.proofs.Rows.{Leads}
use Rattle.tcertify.proofs.stored.Words.take_span.Given as goal

-- the first words are touched
abbrev pub invariant-loop-k : goal.invariant-loop-k
invariant-loop-k l =
    Leads (touch_word (site_of l.fn.self) Writes) (word_number l.span.start) (word_count l.span) l.fn.self l.k l.self
