use Rattle.std.proofs.Common.{drop, get_or, None}
use Rattle.tfiles.specs.Logs.{line}
use Rattle.tfiles.proofs.Told.{GoesOn}
use Rattle.tcheck.specs.Summaries.{texts_from}
use Rattle.tcheck.specs.TextSentences.{flaws_text, told_text}
use Rattle.tcheck.proofs.text_sentences.put_flaws.Given as goal

-- what was told and what is left
abbrev pub invariant-loop-number : goal.invariant-loop-number
invariant-loop-number g l =
    GoesOn g.W.Write.contents g.W.CountedWrite.failures l.initial.out l.out
    (texts_from (λ k f. line (told_text (get_or l.lines k None) f)) l.number (drop l.number l.flaws))
    (flaws_text l.lines l.flaws)
