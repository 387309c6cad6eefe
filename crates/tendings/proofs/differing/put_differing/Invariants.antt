use Rattle.std.proofs.Common.{[], length}
use Rattle.tfiles.proofs.Told.{GoesOn}
use Rattle.tendings.specs.Differences.{differing, text_lines}
use Rattle.tendings.proofs.differing.put_differing.Given as goal

-- what was told and what is left
abbrev pub invariant-loop-left : goal.invariant-loop-left
invariant-loop-left g l =
    GoesOn g.W.Write.contents g.W.CountedWrite.failures l.initial.out l.out
    (differing l.heading (text_lines l.left) (text_lines l.other_left))
    (differing [] (text_lines l.one) (text_lines l.other))

abbrev pub decreases-loop-left : goal.decreases-loop-left
decreases-loop-left g l = length l.left
