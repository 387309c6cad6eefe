use Rattle.std.proofs.Common.{◌≡◌, ◌≤◌, ◌<◌, List, ℕ, sym, ap, ◌∙◌, length, get_or}
use Rattle.tlink.specs.Node.{NodeState}
use Rattle.tnames.specs.Nodes.{text_of_node}
use Rattle.twhere.specs.Standing.{listed_of, node_where, texts_from}
use Rattle.twhere.proofs.WhereNodes.{listed_at, texts_end, texts_next}
use Rattle.tfiles.proofs.Told.{tells_as, goes_on-start, goes_on-next, goes_on-end}
use Rattle.tstanding.specs.NetStanding.{named_node}
use Rattle.tstanding.proofs.net_standing.put_nodes.Goals as goal

pub loop-number-init : goal.loop-number-init
loop-number-init g c =
    goes_on-start c.args.out.now (texts_from (named_node c.args.names.now c.args.net.now) 0 c.args.net.now.nodes)

pub node_text-requires-clause-listed : goal.node_text-requires-clause-listed
node_text-requires-clause-listed g c =
    let below : c.loop-number.number < length c.args.net.now.nodes =
    rw c.nodes-node-items.ensures.held at c.loop-number-test.true in
    let is : c.node-item.result ≡ get_or c.args.net.now.nodes c.loop-number.number c.node-item.result =
    rw c.nodes-node-items.ensures.held at c.node-item.is in
    listed_at c.loop-number.number c.args.net.now.nodes c.args.listed.now c.node-item.result
    c.index-listed-number.result c.requires.listed below c.index-listed-number.is ∙ ap (λ (n : NodeState).
    listed_of n.machine.control) (sym is)

pub loop-number-preserved : goal.loop-number-preserved
loop-number-preserved g c =
    let below : c.loop-number.number < length c.args.net.now.nodes =
    rw c.nodes-node-items.ensures.held at c.loop-number-test.true in
    let is : c.node-item.result ≡ get_or c.args.net.now.nodes c.loop-number.number c.node-item.result =
    rw c.nodes-node-items.ensures.held at c.node-item.is in
    let text : c.as_slice.result.now ≡ node_where c.args.net.now c.loop-number.number c.node-item.result =
    c.as_slice.ensures ∙ c.in_ok-text.ensures in
    goes_on-next _ _ c.loop-number.invariant
    (texts_next (named_node c.args.names.now c.args.net.now) c.loop-number.number c.args.net.now.nodes
    c.node-item.result below)
    (tells_as c.put_of_node.ensures
    (ap (λ (t : List ℕ). text_of_node c.args.names.now c.loop-number.number t) text
    ∙ ap (λ (n : NodeState). named_node c.args.names.now c.args.net.now c.loop-number.number n) is))

pub returns : goal.returns
returns g c =
    let over : length c.args.net.now.nodes ≤ c.loop-number.number =
    rw c.nodes-node-items.ensures.held at c.loop-number-test.false in
    goes_on-end c.loop-number.invariant
    (texts_end (named_node c.args.names.now c.args.net.now) c.loop-number.number c.args.net.now.nodes over)
