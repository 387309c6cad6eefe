use Rattle.std.proofs.Common.{◌≡◌, drop}
use Rattle.thistory.specs.Watch.{has_changed}
use Rattle.thistory.proofs.watch.has_changed.Given as goal

-- those before are not changed
abbrev pub invariant-loop-index : goal.invariant-loop-index
invariant-loop-index l =
    has_changed (drop l.index l.before) (drop l.index l.after) ≡ has_changed l.before l.after
