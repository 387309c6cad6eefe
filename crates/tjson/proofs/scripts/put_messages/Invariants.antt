use Rattle.std.proofs.Common.{length, map}
use Rattle.tfiles.proofs.Told.{GoesOn}
use Rattle.tjson.specs.Json.{listed, listed_from}
use Rattle.tjson.specs.Runs.{bytes_value}
use Rattle.tjson.proofs.scripts.put_messages.Given as goal

-- what was told and what is left
abbrev pub invariant-loop-message : goal.invariant-loop-message
invariant-loop-message g l =
    GoesOn g.W.Write.contents g.W.CountedWrite.failures l.initial.out l.out
    (listed_from l.is_first (map bytes_value l.messages)) (listed (map bytes_value l.fn.kept))

abbrev pub decreases-loop-message : goal.decreases-loop-message
decreases-loop-message g l = length l.messages
