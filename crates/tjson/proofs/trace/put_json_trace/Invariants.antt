use Rattle.std.proofs.Common.{drop}
use Rattle.tfiles.proofs.Told.{GoesOn}
use Rattle.tjson.specs.Runs.{json_trace}
use Rattle.tjson.proofs.trace.put_json_trace.Given as goal

-- what was told and what is left
abbrev pub invariant-loop-note : goal.invariant-loop-note
invariant-loop-note g l =
    GoesOn g.W.Write.contents g.W.CountedWrite.failures l.initial.out l.out
    (json_trace (drop l.note-index l.notes)) (json_trace l.notes)
