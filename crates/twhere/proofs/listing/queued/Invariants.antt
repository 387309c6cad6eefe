use Rattle.std.proofs.Common.{◌≡◌, ◌++◌, drop}
use Rattle.tproc.specs.Entries.{queue_in}
use Rattle.twhere.specs.Standing.{descriptors}
use Rattle.twhere.proofs.listing.queued.Given as goal

-- what was listed, and what is left
abbrev pub invariant-loop-entry : goal.invariant-loop-entry
invariant-loop-entry l =
    l.all.items ++ descriptors l.priority (queue_in l.priority (drop l.entry-index l.entries))
    ≡ descriptors l.priority (queue_in l.priority l.entries)
