use Rattle.tfiles.proofs.Told.{goes_on-start, goes_on-next, goes_on-end}
use Rattle.tcheck.specs.Summaries.{texts_from, process_note}
use Rattle.tcheck.proofs.Rests.{texts_end, texts_next}
use Rattle.tcheck.proofs.summaries.put_process_notes.Goals as goal

pub loop-number-init : goal.loop-number-init
loop-number-init g c =
    goes_on-start c.args.out.now (texts_from (process_note c.args.node c.args.segments.now) 0 c.args.processes.now)

pub loop-number-preserved : goal.loop-number-preserved
loop-number-preserved g c =
    goes_on-next _ _ c.loop-number.invariant
    (texts_next (process_note c.args.node c.args.segments.now) c.loop-number.number c.args.processes.now
    c.index-processes-number.result c.loop-number-test.true c.index-processes-number.is)
    c.put_process_note.ensures

pub returns : goal.returns
returns g c =
    goes_on-end c.loop-number.invariant
    (texts_end (process_note c.args.node c.args.segments.now) c.loop-number.number c.args.processes.now
    c.loop-number-test.false)
