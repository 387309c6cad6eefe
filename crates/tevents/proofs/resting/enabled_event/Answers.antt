use Rattle.std.proofs.Common.{refl, ◌∙◌, length}
use Rattle.tevents.proofs.Tested.{node_more, all_tested}
use Rattle.tevents.proofs.resting.enabled_event.Goals as goal

pub loop-node-preserved : goal.loop-node-preserved
loop-node-preserved c =
    c.loop-node.invariant
    ∙ node_more c.args.net.now c.loop-node.node (length c.nodes-nodes.result.now) c.loop-node-test.true
    (c.in_default.ensures.none refl)

pub returns : goal.returns
returns c few =
    all_tested c.args.net.now c.loop-node.node (length c.nodes-nodes.result.now) c.know_sound.ensures
    c.loop-node-test.false c.loop-node.invariant
