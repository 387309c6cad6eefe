use Rattle.std.proofs.Common.{take}
use Rattle.tcertify.specs.Spans.{IsWritten}
use Rattle.tcertify.proofs.stored.Words.set_bytes.Given as goal

-- the first bytes are set
abbrev pub invariant-loop-k : goal.invariant-loop-k
invariant-loop-k l = IsWritten l.fn.self l.place (take l.k l.bytes) l.self
