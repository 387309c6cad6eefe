use Rattle.std.proofs.Common.{length, ◌-◌, ◌≤◌, take}
use Rattle.std.specs.Io.KnownBytes.{Appends}
use Rattle.tfiles.specs.Failures.{HasStayed}
use Rattle.tfiles.proofs.writing.output.write_while_taken.Given as goal

-- the first bytes were taken, as many as were counted, and no write has failed yet
abbrev pub invariant-loop-taken : goal.invariant-loop-taken
invariant-loop-taken g l = record {
  within : l.taken ≤ length l.bytes;
  out : Appends (g.W.Write.contents l.initial.writer) (g.W.Write.contents l.writer) (take l.taken l.bytes);
  stayed : HasStayed (g.W.CountedWrite.failures l.initial.writer) (g.W.CountedWrite.failures l.writer);
}

abbrev pub decreases-loop-taken : goal.decreases-loop-taken
decreases-loop-taken g l = length l.bytes - l.taken
