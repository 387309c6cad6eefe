use Rattle.std.proofs.Common.{replicate, None}
use Rattle.tcertify.specs.Spans.{IsWritten}
use Rattle.tcertify.proofs.stored.Words.forget_bytes.Given as goal

-- the first bytes are not known
abbrev pub invariant-loop-k : goal.invariant-loop-k
invariant-loop-k l = IsWritten l.fn.self l.place (replicate l.k None) l.self
