use Rattle.std.proofs.Common.{drop}
use Rattle.tfiles.specs.Texts.{trace_text}
use Rattle.tfiles.proofs.Told.{GoesOn}
use Rattle.tfiles.proofs.writing.trace.put_trace.Given as goal

-- what was told and what is left
abbrev pub invariant-loop-note : goal.invariant-loop-note
invariant-loop-note g l =
    GoesOn g.W.Write.contents g.W.CountedWrite.failures l.initial.out l.out
    (trace_text (drop l.note-index l.notes)) (trace_text l.notes)
