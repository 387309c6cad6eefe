use Rattle.std.proofs.Common.{ap}
use Rattle.std.specs.Prelude.{flat_map}
use Rattle.tfiles.proofs.LeftText.{flat_map-next, flat_map-end}
use Rattle.tfiles.proofs.Told.{tells_as, goes_on-start, goes_on-next, goes_on-end}
use Rattle.tchart.specs.Drawing.{layer_text}
use Rattle.tchart.proofs.drawing.put_layer.Goals as goal

pub loop-mark-init : goal.loop-mark-init
loop-mark-init g c = goes_on-start c.args.out.now (flat_map (layer_text c.args.layer) c.args.marks.now)

pub loop-mark-preserved : goal.loop-mark-preserved
loop-mark-preserved g c =
    goes_on-next _ _ c.loop-mark.invariant
    (flat_map-next (layer_text c.args.layer) c.args.marks.now c.loop-mark.mark-index c.mark-item.result
    c.loop-mark-test.true)
    (tells_as c.put_in_layer.ensures (ap (layer_text c.args.layer) c.mark-item.is))

pub returns : goal.returns
returns g c =
    goes_on-end c.loop-mark.invariant
    (flat_map-end (layer_text c.args.layer) c.args.marks.now c.loop-mark.mark-index c.loop-mark-test.false)
