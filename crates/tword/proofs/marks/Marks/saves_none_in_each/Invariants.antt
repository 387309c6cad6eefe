use Rattle.std.proofs.Common.{◌≡◌, ◌<◌, ◌≤◌, ℕ}
use Rattle.tword.specs.Slots.{saved_in}
use Rattle.tword.proofs.marks.Marks.saves_none_in_each.Given as goal

abbrev pub invariant-loop-word : goal.invariant-loop-word
invariant-loop-word l = (k : ℕ) → l.first ≤ k → k < l.word → saved_in k l.self.saved ≡ 0
