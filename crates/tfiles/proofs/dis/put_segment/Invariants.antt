use Rattle.std.proofs.Common.{length}
use Rattle.tfiles.specs.Disassembly.{segment_lines}
use Rattle.tfiles.proofs.DisLines.{lines_at}
use Rattle.tfiles.proofs.Told.{GoesOn}
use Rattle.tfiles.proofs.dis.put_segment.Given as goal

-- what was told and what is left
abbrev pub invariant-loop-byte : goal.invariant-loop-byte
invariant-loop-byte g l =
    GoesOn g.W.Write.contents g.W.CountedWrite.failures l.initial.out l.out
    (lines_at l.kind l.address l.rest) (segment_lines l.kind l.segment)

abbrev pub decreases-loop-byte : goal.decreases-loop-byte
decreases-loop-byte g l = length l.rest
