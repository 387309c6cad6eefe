use Rattle.std.proofs.Common.{◌≡◌, Some}
use Rattle.tfiles.specs.Images.{segment_in, parts_in}
use Rattle.tfiles.proofs.image.segments.Given as goal

-- as many parts are read as the loop has run, and the rest stands behind them
abbrev pub invariant-loop-place : goal.invariant-loop-place
invariant-loop-place l = parts_in segment_in l._place l.bytes ≡ Some (l.segments.items, l.rest)
