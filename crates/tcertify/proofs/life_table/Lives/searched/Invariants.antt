use Rattle.std.proofs.Common.{◌≡◌, ◌<◌, ℕ, Some}
use Rattle.std.specs.Prelude.{slice_get}
use Rattle.tcertify.specs.declared.life.Life.{Life}
use Rattle.tcertify.proofs.life_table.Lives.searched.Given as goal

abbrev pub invariant-loop-number : goal.invariant-loop-number
invariant-loop-number l =
    (i : ℕ) (x : Life) → i < l.number → slice_get l.self.items.items i ≡ Some x → x.workspace ≡ l.workspace → ⊥
