use Rattle.std.proofs.Common.{flat_map, length}
use Rattle.tfiles.proofs.Told.{GoesOn}
use Rattle.twhere.specs.Circles.{circle, numbers_from}
use Rattle.twhere.specs.NodeSets.{set_waits}
use Rattle.twhere.specs.Standing.{circle_fact, circle_facts}
use Rattle.twhere.proofs.circles.put_all.Given as goal

-- what was told and what is left
abbrev pub invariant-loop-lowest : goal.invariant-loop-lowest
invariant-loop-lowest g l =
    GoesOn g.W.Write.contents g.W.CountedWrite.failures l.initial.out l.out
    (flat_map (λ n. circle_fact n (circle (length l.waits) (set_waits l.waits) n))
    (numbers_from l.lowest (length l.waits)))
    (circle_facts (length l.waits) (set_waits l.waits))
