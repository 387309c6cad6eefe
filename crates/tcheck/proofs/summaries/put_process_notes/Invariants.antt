use Rattle.std.proofs.Common.{drop}
use Rattle.tfiles.proofs.Told.{GoesOn}
use Rattle.tcheck.specs.Summaries.{texts_from, process_note}
use Rattle.tcheck.proofs.summaries.put_process_notes.Given as goal

-- what was told and what is left
abbrev pub invariant-loop-number : goal.invariant-loop-number
invariant-loop-number g l =
    GoesOn g.W.Write.contents g.W.CountedWrite.failures l.initial.out l.out
    (texts_from (process_note l.node l.segments) l.number (drop l.number l.processes))
    (texts_from (process_note l.node l.segments) 0 l.processes)
