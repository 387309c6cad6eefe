use Rattle.tfiles.proofs.Told.{goes_on-start, goes_on-next, goes_on-end}
use Rattle.tcheck.specs.Summaries.{texts_from, wire_text}
use Rattle.tcheck.proofs.Rests.{texts_at, texts_end}
use Rattle.tcheck.proofs.summaries.put_wires.Goals as goal

pub loop-number-init : goal.loop-number-init
loop-number-init g c = goes_on-start c.args.out.now (texts_from wire_text 0 c.args.wires.now)

pub loop-number-preserved : goal.loop-number-preserved
loop-number-preserved g c =
    goes_on-next _ _ c.loop-number.invariant
    (texts_at wire_text c.loop-number.number c.args.wires.now _ c.loop-number-test.true) c.put_wire.ensures

pub returns : goal.returns
returns g c =
    goes_on-end c.loop-number.invariant
    (texts_end wire_text c.loop-number.number c.args.wires.now c.loop-number-test.false)
