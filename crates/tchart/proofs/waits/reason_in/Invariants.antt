use Rattle.std.proofs.Common.{◌≡◌, drop}
use Rattle.tproc.specs.Entries.{waiting_in}
use Rattle.tchart.specs.Waits.{reason_in}
use Rattle.tchart.proofs.waits.reason_in.Given as goal

-- it is among those that are left, if it is there
abbrev pub invariant-loop-entry : goal.invariant-loop-entry
invariant-loop-entry l =
    reason_in l.process (waiting_in (drop l.entry-index l.entries)) ≡ reason_in l.process (waiting_in l.entries)
