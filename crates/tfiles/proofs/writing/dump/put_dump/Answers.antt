-- Each node's dump comes behind those of the nodes before it, and all are those of what is seen of the net.
use Rattle.std.proofs.Common.{◌≡◌, ◌≤◌, ◌<◌, length, get_or}
use Rattle.tfiles.proofs.NetDumps.{dumps, dumps_next, dumps_end, dumps_all}
use Rattle.tfiles.proofs.Told.{tells_as, goes_on-start, goes_on-next, goes_on-end}
use Rattle.tfiles.proofs.writing.dump.put_dump.Goals as goal

pub loop-number-init : goal.loop-number-init
loop-number-init g c = goes_on-start c.args.out.now (dumps 0 c.args.net.now.nodes)

pub loop-number-preserved : goal.loop-number-preserved
loop-number-preserved g c =
    let below : c.loop-number.number < length c.args.net.now.nodes =
    rw c.nodes-node-items.ensures.held at c.loop-number-test.true in
    let is : c.node-item.result ≡ get_or c.args.net.now.nodes c.loop-number.number c.node-item.result =
    rw c.nodes-node-items.ensures.held at c.node-item.is in
    goes_on-next _ _ c.loop-number.invariant
    (dumps_next c.loop-number.number c.args.net.now.nodes c.node-item.result below is) c.put_node.ensures

pub returns : goal.returns
returns g c =
    let over : length c.args.net.now.nodes ≤ c.loop-number.number =
    rw c.nodes-node-items.ensures.held at c.loop-number-test.false in
    tells_as (goes_on-end c.loop-number.invariant (dumps_end c.loop-number.number c.args.net.now.nodes over))
    (dumps_all c.args.net.now c.nodes-node-items.ensures.sound)
