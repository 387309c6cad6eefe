use Rattle.std.proofs.Common.{◌+◌, ◌-◌}
use Rattle.std.specs.Prelude.{slice_range}
use Rattle.tcertify.specs.Spans.{IsWritten, bytes_in}
use Rattle.tcertify.proofs.stored.Words.copy_up.Given as goal

-- the highest bytes are copied
abbrev pub invariant-loop-k : goal.invariant-loop-k
invariant-loop-k l =
    IsWritten l.fn.self (l.to + (l.size - l.k))
    (slice_range (bytes_in l.fn.self.items.items) (l.from + (l.size - l.k)) (l.from + l.size)) l.self
