use Rattle.tfiles.proofs.Told.{goes_on-start, goes_on-next, goes_on-end}
use Rattle.tcheck.specs.Summaries.{texts_from, sink_text}
use Rattle.tcheck.proofs.Rests.{texts_at, texts_end}
use Rattle.tcheck.proofs.summaries.put_sinks.Goals as goal

pub loop-number-init : goal.loop-number-init
loop-number-init g c = goes_on-start c.args.out.now (texts_from sink_text 0 c.args.sinks.now)

pub loop-number-preserved : goal.loop-number-preserved
loop-number-preserved g c =
    goes_on-next _ _ c.loop-number.invariant
    (texts_at sink_text c.loop-number.number c.args.sinks.now _ c.loop-number-test.true) c.put_sink.ensures

pub returns : goal.returns
returns g c =
    goes_on-end c.loop-number.invariant
    (texts_end sink_text c.loop-number.number c.args.sinks.now c.loop-number-test.false)
