use Rattle.std.proofs.Common.{◌≡◌, ℕ, ◌<◌, Some}
use Rattle.std.specs.Prelude.{slice_get}
use Rattle.tfree.specs.Resting.{IsIdle}
use Rattle.tfree.specs.Turning.{Ended}
use Rattle.tfree.specs.Views.{View}
use Rattle.tfree.proofs.resting.are_idle.Given as goal

abbrev pub invariant-loop-place : goal.invariant-loop-place
invariant-loop-place l = (k : ℕ) → k < l.place → (e : Ended) (w : View) → slice_get l.endings k ≡ Some e
    → slice_get l.workers k ≡ Some w → IsIdle l.workers e w
