use Rattle.std.proofs.Common.{drop}
use Rattle.tfiles.proofs.Told.{GoesOn}
use Rattle.twhere.specs.Standing.{waiting_facts}
use Rattle.twhere.proofs.waiting.put_waiting.Given as goal

-- what was told and what is left
abbrev pub invariant-loop-waiter : goal.invariant-loop-waiter
invariant-loop-waiter g l =
    GoesOn g.W.Write.contents g.W.CountedWrite.failures l.initial.out l.out
    (waiting_facts l.at.net.now l.at.number l.at.node.now (drop l.waiter-index l.waiting))
    (waiting_facts l.at.net.now l.at.number l.at.node.now l.waiting)
