use Rattle.std.proofs.Common.{ap}
use Rattle.tfiles.proofs.LeftText.{flat_map-next, flat_map-end}
use Rattle.tfiles.proofs.Told.{tells_as, goes_on-start, goes_on-next, goes_on-end}
use Rattle.twhere.specs.Standing.{queued_fact, queue_facts}
use Rattle.twhere.proofs.processes.put_queue.Goals as goal

pub loop-process-init : goal.loop-process-init
loop-process-init g c =
    goes_on-start c.args.out.now (queue_facts c.args.name.now c.args.processor.now c.args.processes.now)

pub loop-process-preserved : goal.loop-process-preserved
loop-process-preserved g c =
    goes_on-next _ _ c.loop-process.invariant
    (flat_map-next (queued_fact c.args.name.now c.args.processor.now) c.args.processes.now
    c.loop-process.process-index c.process-item.result c.loop-process-test.true)
    (tells_as c.put_queued.ensures (ap (queued_fact c.args.name.now c.args.processor.now) c.process-item.is))

pub returns : goal.returns
returns g c =
    goes_on-end c.loop-process.invariant
    (flat_map-end (queued_fact c.args.name.now c.args.processor.now) c.args.processes.now
    c.loop-process.process-index c.loop-process-test.false)
