-- The first lane of a node that is free, lane by lane.
use Rattle.std.proofs.Common.{◌≡◌, ℕ, suc, ◌+◌, ◌-◌, ◌<◌, refl, true, false, arith}
use Rattle.std.specs.Prelude.{Some, is_none}
use Rattle.tchart.specs.Plots.{PlotState, free_lane, lane_at}

module _ (p : PlotState) (n k : ℕ) (few : k < 6) where
  -- it is this one
  pub free_here : is_none (lane_at p n k) ≡ true → free_lane (6 - k) p n k ≡ Some k
  free_here h =
      let left : 6 - k ≡ suc (5 - k) = omega arith in
      rw (left, h) refl

  -- it is one behind this one, if there is one
  pub free_behind : is_none (lane_at p n k) ≡ false
      → free_lane (6 - k) p n k ≡ free_lane (6 - (k + 1)) p n (k + 1)
  free_behind h =
      let left : 6 - k ≡ suc (6 - (k + 1)) = omega arith in
      rw (left, h) refl
