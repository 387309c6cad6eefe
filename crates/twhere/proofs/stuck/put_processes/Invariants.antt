use Rattle.std.proofs.Common.{drop, flat_map}
use Rattle.tfiles.proofs.Told.{GoesOn}
use Rattle.twhere.specs.Standing.{waiter_stuck}
use Rattle.twhere.proofs.stuck.put_processes.Given as goal

-- what was told and what is left
abbrev pub invariant-loop-waiter : goal.invariant-loop-waiter
invariant-loop-waiter g l =
    GoesOn g.W.Write.contents g.W.CountedWrite.failures l.initial.out l.out
    (flat_map (waiter_stuck l.at.net.now l.at.number l.at.node.now) (drop l.waiter-index l.waiting))
    (flat_map (waiter_stuck l.at.net.now l.at.number l.at.node.now) l.waiting)
