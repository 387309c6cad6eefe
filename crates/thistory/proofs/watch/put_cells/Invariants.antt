use Rattle.std.proofs.Common.{drop}
use Rattle.tfiles.proofs.Told.{GoesOn}
use Rattle.thistory.specs.Watch.{cells_text}
use Rattle.thistory.proofs.watch.put_cells.Given as goal

-- what was told and what is left
abbrev pub invariant-loop-cell : goal.invariant-loop-cell
invariant-loop-cell g l =
    GoesOn g.W.Write.contents g.W.CountedWrite.failures l.initial.out l.out (cells_text (drop l.cell-index l.cells))
    (cells_text l.cells)
