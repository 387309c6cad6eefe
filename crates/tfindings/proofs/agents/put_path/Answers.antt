use Rattle.std.proofs.Common.{flat_map}
use Rattle.tfiles.proofs.LeftText.{flat_map-next, flat_map-end}
use Rattle.tfiles.proofs.Told.{goes_on-start, goes_on-next, goes_on-end}
use Rattle.tfindings.specs.Agents.{child_text}
use Rattle.tfindings.proofs.agents.put_path.Goals as goal

pub loop-child-init : goal.loop-child-init
loop-child-init g c = goes_on-start _ (flat_map child_text c.args.path.now)

pub loop-child-preserved : goal.loop-child-preserved
loop-child-preserved g c =
    goes_on-next _ _ c.loop-child.invariant
    (flat_map-next child_text c.args.path.now c.loop-child.child-index 0 c.loop-child-test.true) c.put_child.ensures

pub returns : goal.returns
returns g c =
    goes_on-end c.loop-child.invariant
    (flat_map-end child_text c.args.path.now c.loop-child.child-index c.loop-child-test.false)
