use Rattle.std.proofs.Common.{[]}
use Rattle.tproc.proofs.queues.wait.Goals as goal

pub returns-clause-agrees : goal.returns-clause-agrees
returns-clause-agrees c = c.begin_waiting.ensures.settles [] _ c.requires.agrees
