use Rattle.std.proofs.Common.{◌≡◌, ℕ, ◌<◌, false}
use Rattle.twiring.specs.NearKeys.{differ_at}
use Rattle.twiring.proofs.near.differ_once.Given as goal

-- the names do not differ at a place before this one
abbrev pub invariant-loop-place : goal.invariant-loop-place
invariant-loop-place l = (k : ℕ) → k < l.place → differ_at l.a l.b k ≡ false
