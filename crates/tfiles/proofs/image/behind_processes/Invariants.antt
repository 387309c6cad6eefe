use Rattle.std.proofs.Common.{◌≡◌, Some}
use Rattle.tfiles.specs.Images.{left_over, process_in, parts_in}
use Rattle.tfiles.proofs.image.behind_processes.Given as goal

-- as many parts are there as the loop has run, and the rest stands behind them
abbrev pub invariant-loop-place : goal.invariant-loop-place
invariant-loop-place l = Some l.rest ≡ left_over (parts_in process_in l._place l.bytes)
