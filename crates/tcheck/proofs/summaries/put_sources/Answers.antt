use Rattle.tfiles.proofs.Told.{goes_on-start, goes_on-next, goes_on-end}
use Rattle.tcheck.specs.Summaries.{texts_from, source_text}
use Rattle.tcheck.proofs.Rests.{texts_end, texts_next}
use Rattle.tcheck.proofs.summaries.put_sources.Goals as goal

pub loop-number-init : goal.loop-number-init
loop-number-init g c = goes_on-start c.args.out.now (texts_from source_text 0 c.args.sources.now)

pub loop-number-preserved : goal.loop-number-preserved
loop-number-preserved g c =
    goes_on-next _ _ c.loop-number.invariant
    (texts_next source_text c.loop-number.number c.args.sources.now c.index-sources-number.result
    c.loop-number-test.true c.index-sources-number.is)
    c.put_source.ensures

pub returns : goal.returns
returns g c =
    goes_on-end c.loop-number.invariant
    (texts_end source_text c.loop-number.number c.args.sources.now c.loop-number-test.false)
