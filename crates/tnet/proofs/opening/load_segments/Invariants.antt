use Rattle.std.proofs.Common.{◌≡◌, drop}
use Rattle.std.specs.Prelude.{fold}
use Rattle.tproc.specs.Opening.{HasNobody, loaded}
use Rattle.tnet.specs.Building.{IsUnstarted}
use Rattle.tnet.proofs.opening.load_segments.Given as goal

-- the segments from this one on are left
abbrev pub invariant-loop-segment : goal.invariant-loop-segment
invariant-loop-segment l =
    (fold (λ m s. loaded s.address s.bytes m) l.initial.processor l.segments
    ≡ fold (λ m s. loaded s.address s.bytes m) l.processor (drop l.segment-index l.segments))
    × IsUnstarted l.memory l.processor × HasNobody l.processor
