use Rattle.std.proofs.Common.{◌≡◌, ◌≤◌, ◌<◌, sym, ap, ◌∙◌, List, length, get_or}
use Rattle.tproc.specs.declared.waiter.Waiter.{Waiter}
use Rattle.twhere.specs.declared.listing.Listed.{Listed}
use Rattle.tlink.specs.Node.{NodeState}
use Rattle.twhere.specs.Standing.{listed_of, node_stuck, role_stuck, texts_from}
use Rattle.twhere.proofs.WhereNodes.{listed_at, texts_end, texts_next}
use Rattle.tfiles.proofs.Told.{tells_as, goes_on-start, goes_on-next, goes_on-end}
use Rattle.twhere.proofs.stuck.put_nodes.Goals as goal

pub loop-number-init : goal.loop-number-init
loop-number-init g c =
    goes_on-start c.args.out.now (texts_from (node_stuck c.args.net.now) 0 c.args.net.now.nodes)

pub loop-number-preserved : goal.loop-number-preserved
loop-number-preserved g c =
    let below : c.loop-number.number < length c.args.net.now.nodes =
    rw c.nodes-node-items.ensures.held at c.loop-number-test.true in
    let is : c.node-item.result ≡ get_or c.args.net.now.nodes c.loop-number.number c.node-item.result =
    rw c.nodes-node-items.ensures.held at c.node-item.is in
    let listed : c.index-listed-number.result ≡ listed_of c.node-item.result.machine.control =
    listed_at c.loop-number.number c.args.net.now.nodes c.args.listed.now c.node-item.result
    c.index-listed-number.result c.requires.listed below c.index-listed-number.is ∙ ap (λ (n : NodeState).
    listed_of n.machine.control) (sym is) in
    goes_on-next _ _ c.loop-number.invariant
    (texts_next (node_stuck c.args.net.now) c.loop-number.number c.args.net.now.nodes c.node-item.result below)
    (tells_as c.put_node.ensures
    (ap (λ (ws : List Waiter). role_stuck c.node-item.result.role c.args.net.now c.loop-number.number
    c.node-item.result ws) (c.as_slice.ensures ∙ ap (λ (l : Listed). l.waiting)
    (sym c.index-listed-number.is ∙ listed))
    ∙ ap (λ (n : NodeState). node_stuck c.args.net.now c.loop-number.number n) is))

pub returns : goal.returns
returns g c =
    let over : length c.args.net.now.nodes ≤ c.loop-number.number =
    rw c.nodes-node-items.ensures.held at c.loop-number-test.false in
    goes_on-end c.loop-number.invariant
    (texts_end (node_stuck c.args.net.now) c.loop-number.number c.args.net.now.nodes over)
