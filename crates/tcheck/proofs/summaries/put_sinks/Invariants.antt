use Rattle.std.proofs.Common.{drop}
use Rattle.tfiles.proofs.Told.{GoesOn}
use Rattle.tcheck.specs.Summaries.{texts_from, sink_text}
use Rattle.tcheck.proofs.summaries.put_sinks.Given as goal

-- what was told and what is left
abbrev pub invariant-loop-number : goal.invariant-loop-number
invariant-loop-number g l =
    GoesOn g.W.Write.contents g.W.CountedWrite.failures l.initial.out l.out
    (texts_from sink_text l.number (drop l.number l.sinks)) (texts_from sink_text 0 l.sinks)
