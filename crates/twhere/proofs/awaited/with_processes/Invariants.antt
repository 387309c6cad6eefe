use Rattle.std.proofs.Common.{drop}
use Rattle.std.specs.List.{flat_map}
use Rattle.twhere.specs.Waits.{waiter_waits}
use Rattle.twhere.proofs.AwaitedNodes.{AddsOn}
use Rattle.twhere.proofs.awaited.with_processes.Given as goal

-- what was added, and what is left
abbrev pub invariant-loop-waiter : goal.invariant-loop-waiter
invariant-loop-waiter l =
    AddsOn l.at.net.now l.at.number l.initial.all l.all
    (flat_map (waiter_waits l.at.node.now.machine.control) (drop l.waiter-index l.waiting))
    (flat_map (waiter_waits l.at.node.now.machine.control) l.waiting)
