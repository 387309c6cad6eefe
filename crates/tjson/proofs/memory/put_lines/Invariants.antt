use Rattle.tword.specs.Stores.{as_cells, hiding}
use Rattle.tword.specs.Words.{most_neg}
use Rattle.tfiles.specs.Texts.{is_pending}
use Rattle.tfiles.proofs.Told.{GoesOn}
use Rattle.tjson.specs.Json.{listed, listed_from}
use Rattle.tjson.specs.Runs.{memory_values}
use Rattle.tjson.proofs.Memories.{values_from}
use Rattle.tjson.proofs.memory.put_lines.Given as goal

-- what was told and what is left
abbrev pub invariant-loop-line : goal.invariant-loop-line
invariant-loop-line g l =
    GoesOn g.W.Write.contents g.W.CountedWrite.failures l.initial.out l.out
    (listed_from l.is_first (values_from most_neg l.line (hiding (is_pending l.pending) (as_cells l.bytes))))
    (listed (memory_values (hiding (is_pending l.pending) (as_cells l.bytes))))
