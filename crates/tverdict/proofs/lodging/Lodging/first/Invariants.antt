use Rattle.std.proofs.Common.{◌≡◌, length}
use Rattle.tverdict.proofs.lodging.Lodging.first.Given as goal

abbrev pub invariant-loop-home : goal.invariant-loop-home
invariant-loop-home l = length l.homes.items ≡ l.home
