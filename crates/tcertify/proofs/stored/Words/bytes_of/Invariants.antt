use Rattle.std.proofs.Common.{◌+◌}
use Rattle.std.specs.Prelude.{slice_range}
use Rattle.tcertify.specs.Spans.{bytes_in}
use Rattle.std.proofs.Common.{◌≡◌}
use Rattle.tcertify.proofs.stored.Words.bytes_of.Given as goal

-- the first bytes are there
abbrev pub invariant-loop-k : goal.invariant-loop-k
invariant-loop-k l = l.bytes.items ≡ slice_range (bytes_in l.self.items.items) l.place (l.place + l.k)
