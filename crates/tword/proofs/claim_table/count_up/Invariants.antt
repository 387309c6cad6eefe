use Rattle.std.proofs.Common.{◌≡◌, ◌+◌, ◌<◌, ℕ, get_or, length}
use Rattle.tword.specs.Slots.{is_among}
use Rattle.tword.proofs.claim_table.count_up.Given as goal

abbrev pub invariant-loop-slot : goal.invariant-loop-slot
invariant-loop-slot l =
    (slot : ℕ) → slot < length l.fn.counts
    → get_or l.counts slot 0 ≡ get_or l.fn.counts slot 0 + is_among l.first l.slot slot
