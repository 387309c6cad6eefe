use Rattle.std.proofs.Common.{flat_map, length}
use Rattle.tfiles.specs.Texts.{kept_line}
use Rattle.tfiles.proofs.Told.{GoesOn}
use Rattle.tfiles.proofs.writing.scripts.put_messages.Given as goal

-- what was told and what is left
abbrev pub invariant-loop-message : goal.invariant-loop-message
invariant-loop-message g l =
    GoesOn g.W.Write.contents g.W.CountedWrite.failures l.initial.out l.out
    (flat_map kept_line l.messages) (flat_map kept_line l.fn.kept)

abbrev pub decreases-loop-message : goal.decreases-loop-message
decreases-loop-message g l = length l.messages
