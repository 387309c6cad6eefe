use Rattle.std.proofs.Common.{drop}
use Rattle.std.specs.Prelude.{flat_map}
use Rattle.tfiles.proofs.Told.{GoesOn}
use Rattle.tchart.specs.Drawing.{column_text}
use Rattle.tchart.proofs.drawing.put_columns.Given as goal

-- what was told and what is left
abbrev pub invariant-loop-column : goal.invariant-loop-column
invariant-loop-column g l =
    GoesOn g.W.Write.contents g.W.CountedWrite.failures l.initial.out l.out
    (flat_map (column_text l.rows) (drop l.column-index l.columns)) (flat_map (column_text l.rows) l.columns)
