use Rattle.std.proofs.Common.{◌≡◌, drop}
use Rattle.std.specs.Prelude.{fold}
use Rattle.tproc.specs.Opening.{HasNobody}
use Rattle.tnet.specs.Building.{IsUnstarted}
use Rattle.tcheck.specs.Wrongs.{loaded_if}
use Rattle.tcheck.proofs.nodes.load_segments.Given as goal

-- the segments from this one on are left
abbrev pub invariant-loop-segment : goal.invariant-loop-segment
invariant-loop-segment l =
    (fold (loaded_if l.memory) l.initial.processor l.segments
    ≡ fold (loaded_if l.memory) l.processor (drop l.segment-index l.segments))
    × IsUnstarted l.memory l.processor × HasNobody l.processor
