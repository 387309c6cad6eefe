use Rattle.tcheck.proofs.Found.{found_more, found_all}
use Rattle.tcheck.proofs.Refusals.{processes_next, processes_end}
use Rattle.tcheck.proofs.nodes.add_processes_wrongs.Goals as goal

pub loop-number-preserved : goal.loop-number-preserved
loop-number-preserved c =
    found_more c.args.found.now.items c.loop-number.found.items _ _ _ _ _ c.loop-number.invariant
    (processes_next c.args.node c.loop-number.number c.args.processes.now c.index-processes-number.result
    c.loop-number.processor _ c.loop-number-test.true c.index-processes-number.is
    c.in_ok-add_process_wrong.ensures.left)
    c.in_ok-add_process_wrong.ensures.found

pub returns : goal.returns
returns c =
    found_all c.args.found.now.items c.loop-number.found.items _ _ c.loop-number.invariant
    (processes_end c.args.node c.loop-number.number c.args.processes.now c.loop-number.processor
    c.loop-number-test.false)
