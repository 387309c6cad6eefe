use Rattle.std.proofs.Common.{◌≡◌, ◌<◌, ℕ, ◌+◌, Some}
use Rattle.std.specs.Prelude.{slice_get}
use Rattle.tprocesses.specs.Touching.{word_number}
use Rattle.tcertify.specs.Spans.{sent_or}
use Rattle.tcertify.proofs.stored.Words.has_count.Given as goal

-- none of the first words has the count
abbrev pub invariant-loop-k : goal.invariant-loop-k
invariant-loop-k l =
    (j : ℕ) → j < l.k → sent_or (slice_get l.self.items.items (word_number l.span.start + j)) ≡ Some l.count → ⊥
