-- Each node's line comes behind those of the nodes before it, and all are those of what is seen of the net.
use Rattle.std.proofs.Common.{◌≡◌, ◌≤◌, ◌<◌, length, get_or}
use Rattle.tfiles.proofs.Told.{tells_as, goes_on-start, goes_on-next, goes_on-end}
use Rattle.tjson.proofs.NodeLines.{lines, lines_next, lines_end, lines_all}
use Rattle.tjson.proofs.nodes.put_json_nodes.Goals as goal

pub loop-number-init : goal.loop-number-init
loop-number-init g c = goes_on-start c.args.out.now (lines 0 c.args.net.now.nodes)

pub loop-number-preserved : goal.loop-number-preserved
loop-number-preserved g c =
    let below : c.loop-number.number < length c.args.net.now.nodes =
    rw c.nodes-node-items.ensures.held at c.loop-number-test.true in
    let is : c.node-item.result ≡ get_or c.args.net.now.nodes c.loop-number.number c.node-item.result =
    rw c.nodes-node-items.ensures.held at c.node-item.is in
    goes_on-next _ _ c.loop-number.invariant
    (lines_next c.loop-number.number c.args.net.now.nodes c.node-item.result below is) c.put_line.ensures

pub returns : goal.returns
returns g c =
    let over : length c.args.net.now.nodes ≤ c.loop-number.number =
    rw c.nodes-node-items.ensures.held at c.loop-number-test.false in
    tells_as (goes_on-end c.loop-number.invariant (lines_end c.loop-number.number c.args.net.now.nodes over))
    (lines_all c.args.net.now c.nodes-node-items.ensures.sound)
