use Rattle.tcheck.specs.Wrongs.{segment_wrongs}
use Rattle.tcheck.proofs.Found.{each_more, each_done}
use Rattle.tcheck.proofs.nodes.add_segments_wrongs.Goals as goal

pub loop-number-preserved : goal.loop-number-preserved
loop-number-preserved c =
    each_more (segment_wrongs c.args.memory c.args.node) c.loop-number.number c.args.segments.now
    c.index-segments-number.result c.args.found.now.items
    c.loop-number.found.items _ c.loop-number-test.true c.index-segments-number.is c.loop-number.invariant
    c.in_ok-add_segment_wrong.ensures

pub returns : goal.returns
returns c =
    each_done (segment_wrongs c.args.memory c.args.node) c.loop-number.number c.args.segments.now c.args.found.now.items
    c.loop-number.found.items c.loop-number-test.false c.loop-number.invariant
