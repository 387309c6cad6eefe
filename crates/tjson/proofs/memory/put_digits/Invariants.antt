use Rattle.std.proofs.Common.{◌+◌, drop, flat_map}
use Rattle.tword.specs.Stores.{as_cells, hiding_from}
use Rattle.tfiles.specs.Texts.{is_pending}
use Rattle.tfiles.proofs.Told.{GoesOn}
use Rattle.tjson.specs.Runs.{cell_digits}
use Rattle.tjson.proofs.memory.put_digits.Given as goal

-- what was told and what is left
abbrev pub invariant-loop-i : goal.invariant-loop-i
invariant-loop-i g l =
    GoesOn g.W.Write.contents g.W.CountedWrite.failures l.initial.out l.out
    (flat_map cell_digits (hiding_from (is_pending l.pending) (l.address + l.i) (as_cells (drop l.i l.bytes))))
    (flat_map cell_digits (hiding_from (is_pending l.pending) l.address (as_cells l.bytes)))
