use Rattle.std.proofs.Common.{◌≡◌, ℕ, ◌<◌, false}
use Rattle.tplan.specs.Wires.{all_wires}
use Rattle.tnet.specs.Building.{has_end_twice}
use Rattle.tnet.proofs.faults.first_end_twice.Given as goal

-- no wire so far has an end of an earlier one
abbrev pub invariant-loop-place : goal.invariant-loop-place
invariant-loop-place l = (k : ℕ) → k < l.place → has_end_twice (all_wires l.plan) k ≡ false
