use Rattle.tword.specs.Stores.{as_cells, hiding}
use Rattle.tfiles.specs.Texts.{is_pending, lines_of}
use Rattle.tfiles.proofs.DumpLines.{blocks_from}
use Rattle.tfiles.proofs.Told.{GoesOn}
use Rattle.tfiles.proofs.writing.node_dump.put_lines.Given as goal

-- what was told and what is left
abbrev pub invariant-loop-block : goal.invariant-loop-block
invariant-loop-block g l =
    GoesOn g.W.Write.contents g.W.CountedWrite.failures l.initial.out l.out
    (blocks_from l.block (hiding (is_pending l.pending) (as_cells l.bytes)))
    (lines_of (hiding (is_pending l.pending) (as_cells l.bytes)))
