use Rattle.tcheck.specs.Wrongs.{node_wrongs}
use Rattle.tcheck.proofs.Found.{each_more, each_done}
use Rattle.tcheck.proofs.nodes.add_nodes_wrongs.Goals as goal

pub loop-number-preserved : goal.loop-number-preserved
loop-number-preserved c =
    each_more (node_wrongs c.args.timeslice) c.loop-number.number c.args.nodes.now c.index-nodes-number.result
    c.args.found.now.items
    c.loop-number.found.items _ c.loop-number-test.true c.index-nodes-number.is c.loop-number.invariant
    c.in_ok-add_node_wrongs.ensures

pub returns : goal.returns
returns c =
    each_done (node_wrongs c.args.timeslice) c.loop-number.number c.args.nodes.now c.args.found.now.items
    c.loop-number.found.items c.loop-number-test.false c.loop-number.invariant
