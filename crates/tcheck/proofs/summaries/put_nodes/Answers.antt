use Rattle.tfiles.proofs.Told.{goes_on-start, goes_on-next, goes_on-end}
use Rattle.tcheck.specs.Summaries.{texts_from, node_text}
use Rattle.tcheck.proofs.Rests.{texts_end, texts_next}
use Rattle.tcheck.proofs.summaries.put_nodes.Goals as goal

pub loop-number-init : goal.loop-number-init
loop-number-init g c =
    goes_on-start c.args.out.now (texts_from (node_text c.args.named.now c.args.wires.now) 0 c.args.nodes.now)

pub loop-number-preserved : goal.loop-number-preserved
loop-number-preserved g c =
    goes_on-next _ _ c.loop-number.invariant
    (texts_next (node_text c.args.named.now c.args.wires.now) c.loop-number.number c.args.nodes.now
    c.index-nodes-number.result c.loop-number-test.true c.index-nodes-number.is)
    c.put_node.ensures

pub returns : goal.returns
returns g c =
    goes_on-end c.loop-number.invariant
    (texts_end (node_text c.args.named.now c.args.wires.now) c.loop-number.number c.args.nodes.now
    c.loop-number-test.false)
