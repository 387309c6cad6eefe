use Rattle.std.proofs.Common.{◌≡◌, drop}
use Rattle.std.specs.Prelude.{fold}
use Rattle.tproc.specs.Entries.{waiting_in}
use Rattle.twhere.specs.Standing.{by_descriptor, inserted}
use Rattle.twhere.proofs.listing.waiting.Given as goal

-- what was put into its place, and what is left
abbrev pub invariant-loop-entry : goal.invariant-loop-entry
invariant-loop-entry l =
    fold inserted l.all.items (waiting_in (drop l.entry-index l.entries)) ≡ by_descriptor (waiting_in l.entries)
