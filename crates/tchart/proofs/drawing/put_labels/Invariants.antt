use Rattle.std.proofs.Common.{drop}
use Rattle.std.specs.Prelude.{flat_map}
use Rattle.tfiles.proofs.Told.{GoesOn}
use Rattle.tchart.specs.Drawing.{label_text}
use Rattle.tchart.proofs.drawing.put_labels.Given as goal

-- what was told and what is left
abbrev pub invariant-loop-mark : goal.invariant-loop-mark
invariant-loop-mark g l =
    GoesOn g.W.Write.contents g.W.CountedWrite.failures l.initial.out l.out
    (flat_map label_text (drop l.mark-index l.marks)) (flat_map label_text l.marks)
