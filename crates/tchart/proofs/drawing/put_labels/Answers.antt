use Rattle.std.proofs.Common.{ap}
use Rattle.std.specs.Prelude.{flat_map}
use Rattle.tfiles.proofs.LeftText.{flat_map-next, flat_map-end}
use Rattle.tfiles.proofs.Told.{tells_as, goes_on-start, goes_on-next, goes_on-end}
use Rattle.tchart.specs.Drawing.{label_text}
use Rattle.tchart.proofs.drawing.put_labels.Goals as goal

pub loop-mark-init : goal.loop-mark-init
loop-mark-init g c = goes_on-start c.args.out.now (flat_map label_text c.args.marks.now)

pub loop-mark-preserved : goal.loop-mark-preserved
loop-mark-preserved g c =
    goes_on-next _ _ c.loop-mark.invariant
    (flat_map-next label_text c.args.marks.now c.loop-mark.mark-index c.mark-item.result c.loop-mark-test.true)
    (tells_as c.put_label.ensures (ap label_text c.mark-item.is))

pub returns : goal.returns
returns g c =
    goes_on-end c.loop-mark.invariant
    (flat_map-end label_text c.args.marks.now c.loop-mark.mark-index c.loop-mark-test.false)
