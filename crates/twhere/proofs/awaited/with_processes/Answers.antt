use Rattle.std.proofs.Common.{ap, flat_map, List}
use Rattle.std.proofs.Math.ListN.{drop_of_length-le}
use Rattle.tproc.specs.declared.waiter.Waiter.{Waiter}
use Rattle.twhere.specs.Waits.{waiter_waits}
use Rattle.twhere.proofs.AwaitedNodes.{adds_as, adds_on-end, adds_on-next, adds_on-start, waits_next}
use Rattle.twhere.proofs.awaited.with_processes.Goals as goal

pub loop-waiter-init : goal.loop-waiter-init
loop-waiter-init c =
    adds_on-start c.args.set (flat_map (waiter_waits c.args.at.now.node.now.machine.control) c.args.waiting.now)

pub loop-waiter-preserved : goal.loop-waiter-preserved
loop-waiter-preserved c =
    adds_on-next _ _ c.loop-waiter.invariant
    (waits_next (waiter_waits c.args.at.now.node.now.machine.control) c.args.waiting.now c.loop-waiter.waiter-index
    c.waiter-item.result c.loop-waiter-test.true)
    (adds_as c.with_process-all.ensures (ap (waiter_waits c.args.at.now.node.now.machine.control) c.waiter-item.is))

pub returns : goal.returns
returns c =
    adds_on-end c.loop-waiter.invariant
    (ap (λ (ws : List Waiter). flat_map (waiter_waits c.args.at.now.node.now.machine.control) ws)
    (drop_of_length-le c.args.waiting.now c.loop-waiter-test.false))
