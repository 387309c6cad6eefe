use Rattle.std.proofs.Common.{drop, flat_map}
use Rattle.tfiles.specs.Disassembly.{dis_text, segment_lines}
use Rattle.tfiles.proofs.Told.{GoesOn}
use Rattle.tfiles.proofs.dis.put_image.Given as goal

-- what was told and what is left
abbrev pub invariant-loop-segment : goal.invariant-loop-segment
invariant-loop-segment g l =
    GoesOn g.W.Write.contents g.W.CountedWrite.failures l.initial.out l.out
    (flat_map (segment_lines l.kind) (drop l.segment-index l.image.segments))
    (dis_text l.kind l.image)
