use Rattle.std.proofs.Common.{ap, flat_map}
use Rattle.tfiles.proofs.LeftText.{flat_map-next, flat_map-end}
use Rattle.tfiles.proofs.Told.{tells_as, goes_on-start, goes_on-next, goes_on-end}
use Rattle.twhere.specs.Standing.{waiter_stuck}
use Rattle.twhere.proofs.stuck.put_processes.Goals as goal

pub loop-waiter-init : goal.loop-waiter-init
loop-waiter-init g c =
    goes_on-start c.args.out.now
    (flat_map (waiter_stuck c.args.at.now.net.now c.args.at.now.number c.args.at.now.node.now) c.args.waiting.now)

pub loop-waiter-preserved : goal.loop-waiter-preserved
loop-waiter-preserved g c =
    goes_on-next _ _ c.loop-waiter.invariant
    (flat_map-next (waiter_stuck c.args.at.now.net.now c.args.at.now.number c.args.at.now.node.now) c.args.waiting.now
    c.loop-waiter.waiter-index c.waiter-item.result c.loop-waiter-test.true)
    (tells_as c.put_waiter.ensures
    (ap (waiter_stuck c.args.at.now.net.now c.args.at.now.number c.args.at.now.node.now) c.waiter-item.is))

pub returns : goal.returns
returns g c =
    goes_on-end c.loop-waiter.invariant
    (flat_map-end (waiter_stuck c.args.at.now.net.now c.args.at.now.number c.args.at.now.node.now) c.args.waiting.now
    c.loop-waiter.waiter-index c.loop-waiter-test.false)
