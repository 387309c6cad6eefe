-- Some places were added, and there is room for the others.
use Rattle.std.proofs.Common.{false, ◌≡◌, ℕ, ◌+◌, ◌-◌, ◌≤◌, List, ◌++◌, replicate, vec_len, vec_capacity}
use Rattle.tclocks.specs.declared.kept.Kept.{Kept}
use Rattle.tclocks.specs.declared.kept.Kept.TheVariants.{OfOne}
use Rattle.tclocks.proofs.kept_table.add_nothing.Given as goal

pub record AreAdded (old new : List Kept) (added left length capacity : ℕ) : Type 0 where
  pub items : new ≡ old ++ replicate added (OfOne false 0 0 0)
  pub room : length + left ≤ capacity

abbrev pub invariant-loop : goal.invariant-loop
invariant-loop l =
    AreAdded l.initial.kept.items l.kept.items l.counter (l.count - l.counter) (vec_len l.kept) (vec_capacity l.kept)
