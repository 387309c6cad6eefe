use Rattle.std.proofs.Common.{◌≡◌, ℕ, ◌<◌, ◌≤◌, false, length}
use Rattle.twhere.specs.NodeSets.{set_waits}
use Rattle.twhere.specs.Waits.{waits_for}
use Rattle.twhere.proofs.awaited.all_awaited.Given as goal

-- those before have what they wait for, and the others nothing
abbrev pub invariant-loop-number : goal.invariant-loop-number
invariant-loop-number l = record {
  size : length l.all ≡ 64;
  so_far : (a b : ℕ) → a < l.number → set_waits l.all a b ≡ waits_for l.net a b;
  others : (a b : ℕ) → l.number ≤ a → set_waits l.all a b ≡ false;
}
