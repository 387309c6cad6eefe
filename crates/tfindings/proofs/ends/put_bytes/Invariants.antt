use Rattle.std.proofs.Common.{drop, flat_map}
use Rattle.tfiles.proofs.Told.{GoesOn}
use Rattle.tfindings.specs.Cells.{known_text}
use Rattle.tfindings.proofs.ends.put_bytes.Given as goal

-- what was told and what is left
abbrev pub invariant-loop-cell : goal.invariant-loop-cell
invariant-loop-cell g l =
    GoesOn g.W.Write.contents g.W.CountedWrite.failures l.initial.out l.out
    (flat_map known_text (drop l.cell-index l.cells)) (flat_map known_text l.cells)
