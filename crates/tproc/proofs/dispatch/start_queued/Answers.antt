use Rattle.std.proofs.Common.{[]}
use Rattle.tproc.proofs.Agreeing.{agrees_freed}
use Rattle.tproc.proofs.dispatch.start_queued.Goals as goal

pub returns-clause-agrees : goal.returns-clause-agrees
returns-clause-agrees c =
    c.begin.ensures.agrees [] _
    (agrees_freed _ _ _ _ c.requires c.free.ensures.frees c.free.ensures.counts c.free.ensures.same)
