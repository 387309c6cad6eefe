use Rattle.std.proofs.Common.{◌≡◌, take}
use Rattle.std.specs.List.{list_any}
use Rattle.tcertify.specs.Opened.{is_saved_below}
use Rattle.tcertify.proofs.opening.is_saved.Given as goal

abbrev pub invariant-loop-process : goal.invariant-loop-process
invariant-loop-process l = l.is_below ≡ list_any (is_saved_below l.address) (take l.process-index l.processes)
