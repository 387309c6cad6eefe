use Rattle.std.proofs.Common.{◌≡◌, ◌<◌, ℕ, false, get_or}
use Rattle.std.specs.Prelude.{nat_le}
use Rattle.tproc.specs.declared.waiter.Waiter.{Waiter}
use Rattle.twhere.proofs.listing.place_of.Given as goal

-- those before are all below
abbrev pub invariant-loop-place : goal.invariant-loop-place
invariant-loop-place l =
    (k : ℕ) (d : Waiter) → k < l.place → nat_le l.process (get_or l.sorted k d).process ≡ false
