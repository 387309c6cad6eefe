use Rattle.tcheck.specs.Wrongs.{source_wrongs}
use Rattle.tcheck.proofs.Found.{each_more, each_done}
use Rattle.tcheck.proofs.plans.add_sources_wrongs.Goals as goal

pub loop-number-preserved : goal.loop-number-preserved
loop-number-preserved c =
    each_more (source_wrongs c.args.nodes) c.loop-number.number c.args.sources.now c.index-sources-number.result
    c.args.found.now.items
    c.loop-number.found.items _ c.loop-number-test.true c.index-sources-number.is c.loop-number.invariant
    c.in_ok-add_source_wrongs.ensures

pub returns : goal.returns
returns c =
    each_done (source_wrongs c.args.nodes) c.loop-number.number c.args.sources.now c.args.found.now.items
    c.loop-number.found.items c.loop-number-test.false c.loop-number.invariant
