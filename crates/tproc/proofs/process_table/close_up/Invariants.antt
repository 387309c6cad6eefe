use Rattle.std.proofs.Common.{◌≡◌}
use Rattle.std.specs.Prelude.{vec_capacity}
use Rattle.tproc.proofs.Entries.{AreClosedUpTo}
use Rattle.tproc.proofs.process_table.close_up.Given as goal

abbrev pub invariant-loop-place : goal.invariant-loop-place
invariant-loop-place l =
    AreClosedUpTo l.kept l.place l.entries.items l.initial.entries.items
    × (vec_capacity l.entries ≡ vec_capacity l.initial.entries)
