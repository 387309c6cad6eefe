use Rattle.std.proofs.Common.{drop}
use Rattle.tfiles.proofs.Told.{GoesOn}
use Rattle.twhere.specs.Standing.{queue_facts}
use Rattle.twhere.proofs.processes.put_queue.Given as goal

-- what was told and what is left
abbrev pub invariant-loop-process : goal.invariant-loop-process
invariant-loop-process g l =
    GoesOn g.W.Write.contents g.W.CountedWrite.failures l.initial.out l.out
    (queue_facts l.name l.processor (drop l.process-index l.processes)) (queue_facts l.name l.processor l.processes)
