use Rattle.std.proofs.Common.{◌-◌, ◌≤◌, length}
use Rattle.std.specs.Io.KnownBytes.{Consumes}
use Rattle.tfiles.specs.Failures.{HasStayed}
use Rattle.tfiles.proofs.reading.read_by_pieces.Given as goal

-- what was read is what the reader gave, no read has failed yet, and it is not too long
abbrev pub invariant-loop-count : goal.invariant-loop-count
invariant-loop-count g l = record {
  bytes : Consumes (g.R.Read.remaining l.initial.reader) (g.R.Read.remaining l.reader) l.bytes.items;
  stayed : HasStayed (g.R.CountedRead.failures l.initial.reader) (g.R.CountedRead.failures l.reader);
  within : length l.bytes.items ≤ 1073741824;
}

abbrev pub decreases-loop-count : goal.decreases-loop-count
decreases-loop-count g l = 1073741824 - length l.bytes.items
