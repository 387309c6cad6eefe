use Rattle.std.proofs.Common.{◌≡◌, Some}
use Rattle.tfiles.specs.Images.{process_in, parts_in}
use Rattle.tfiles.proofs.image.processes.Given as goal

-- as many parts are read as the loop has run, and the rest stands behind them
abbrev pub invariant-loop-place : goal.invariant-loop-place
invariant-loop-place l = parts_in process_in l._place l.bytes ≡ Some (l.processes.items, l.rest)
