use Rattle.std.proofs.Common.{ap}
use Rattle.tfiles.proofs.Told.{tells_as, goes_on-start, goes_on-next, goes_on-end}
use Rattle.tfindings.specs.Ends.{each_from, kept_node}
use Rattle.tfindings.proofs.EndParts.{each_next, each_end}
use Rattle.tfindings.proofs.ends.put_nodes.Goals as goal

pub loop-number-init : goal.loop-number-init
loop-number-init g c = goes_on-start _ (each_from kept_node 0 c.args.nodes.now)

pub loop-number-preserved : goal.loop-number-preserved
loop-number-preserved g c =
    goes_on-next _ _ c.loop-number.invariant
    (each_next kept_node c.loop-number.number c.loop-number.number c.args.nodes.now c.index-nodes-number.result
    c.loop-number-test.true) (tells_as c.put_node.ensures (ap (kept_node c.loop-number.number) c.index-nodes-number.is))

pub returns : goal.returns
returns g c =
    goes_on-end c.loop-number.invariant
    (each_end kept_node _ c.loop-number.number c.args.nodes.now c.loop-number-test.false)
