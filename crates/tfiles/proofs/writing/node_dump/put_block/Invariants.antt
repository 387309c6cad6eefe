use Rattle.std.proofs.Common.{length}
use Rattle.tword.specs.Stores.{as_cells, hiding_from}
use Rattle.tfiles.specs.Texts.{is_pending, dump_lines}
use Rattle.tfiles.proofs.DumpLines.{lines_from}
use Rattle.tfiles.proofs.Told.{GoesOn}
use Rattle.tfiles.proofs.writing.node_dump.put_block.Given as goal

-- what was told and what is left
abbrev pub invariant-loop-line : goal.invariant-loop-line
invariant-loop-line g l =
    GoesOn g.W.Write.contents g.W.CountedWrite.failures l.initial.out l.out
    (lines_from l.address l.line (hiding_from (is_pending l.pending) l.address (as_cells l.bytes)))
    (dump_lines (length l.bytes) l.address (hiding_from (is_pending l.pending) l.address (as_cells l.bytes)))
