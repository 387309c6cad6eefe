use Rattle.std.proofs.Common.{◌≡◌, ◌<◌, ◌≤◌, length, get_or, ap}
use Rattle.tfiles.specs.Disassembly.{dis_text, segment_lines}
use Rattle.tfiles.proofs.LeftText.{flat_map-next, flat_map-end}
use Rattle.tfiles.proofs.Told.{tells_as, goes_on-start, goes_on-next, goes_on-end}
use Rattle.tplan.specs.declared.plan.Segment.{Segment}
use Rattle.tfiles.proofs.dis.put_image.Goals as goal

pub loop-segment-init : goal.loop-segment-init
loop-segment-init g c = goes_on-start c.args.out.now (dis_text c.args.kind c.args.image.now)

pub loop-segment-preserved : goal.loop-segment-preserved
loop-segment-preserved g c =
    let below : c.loop-segment.segment-index < length c.args.image.now.segments =
    rw c.as_slice-segment-items.ensures at c.loop-segment-test.true in
    let is : c.segment-item.result ≡ get_or c.args.image.now.segments c.loop-segment.segment-index
    c.segment-item.result = rw c.as_slice-segment-items.ensures at c.segment-item.is in
    goes_on-next _ _ c.loop-segment.invariant
    (flat_map-next (segment_lines c.args.kind) c.args.image.now.segments c.loop-segment.segment-index
    c.segment-item.result below)
    (tells_as c.put_segment.ensures (ap (λ (s : Segment). segment_lines c.args.kind s) is))

pub returns : goal.returns
returns g c =
    let over : length c.args.image.now.segments ≤ c.loop-segment.segment-index =
    rw c.as_slice-segment-items.ensures at c.loop-segment-test.false in
    goes_on-end c.loop-segment.invariant
    (flat_map-end (segment_lines c.args.kind) c.args.image.now.segments c.loop-segment.segment-index over)
