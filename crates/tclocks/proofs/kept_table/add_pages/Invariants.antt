-- Some pages were added, and there is room for the others.
use Rattle.std.proofs.Common.{◌≡◌, ℕ, ◌+◌, ◌-◌, ◌≤◌, List, [], ◌++◌, replicate, vec_len, vec_capacity}
use Rattle.tclocks.specs.declared.kept.Kept.{Kept}
use Rattle.tclocks.proofs.kept_table.add_pages.Given as goal

pub record AreAdded (old new : List (List Kept)) (added left length capacity : ℕ) : Type 0 where
  pub items : new ≡ old ++ replicate added []
  pub room : length + left ≤ capacity

abbrev pub invariant-loop : goal.invariant-loop
invariant-loop l =
    AreAdded l.initial.pages.items l.pages.items l.counter (l.count - l.counter) (vec_len l.pages)
    (vec_capacity l.pages)
