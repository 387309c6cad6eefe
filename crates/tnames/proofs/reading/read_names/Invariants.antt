use Rattle.std.proofs.Common.{◌≡◌, length}
use Rattle.tnames.specs.Lines.{names_of}
use Rattle.tnames.proofs.NameLines.{then_names, rest_of}
use Rattle.tnames.proofs.reading.read_names.Given as goal

-- the names that are read, and what the rest stands for
abbrev pub invariant-loop-end : goal.invariant-loop-end
invariant-loop-end l = names_of l.bytes ≡ then_names l.list.items (rest_of l.list.items l.rest)

abbrev pub decreases-loop-end : goal.decreases-loop-end
decreases-loop-end l = length l.rest
