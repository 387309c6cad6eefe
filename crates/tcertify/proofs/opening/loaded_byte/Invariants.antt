use Rattle.std.proofs.Common.{◌≡◌, take}
use Rattle.std.specs.Prelude.{fold}
use Rattle.tprocesses.specs.Opening.{after_segment}
use Rattle.tcertify.proofs.opening.loaded_byte.Given as goal

abbrev pub invariant-loop-segment : goal.invariant-loop-segment
invariant-loop-segment l = l.byte ≡ fold (after_segment l.address) 0 (take l.segment-index l.segments)
