use Rattle.std.proofs.Common.{◌∙◌, ap}
use Rattle.tproc.specs.Machine.{priority_of}
use Rattle.tproc.specs.Queues.{last_of}
use Rattle.tproc.specs.contracts.state.State.{the_view}
use Rattle.tproc.proofs.StateLists.{same_queue}
use Rattle.tproc.proofs.state.State.last.Goals as goal

pub returns : goal.returns
returns c =
    rw (← c.self.view_is)
    (c.last.ensures ∙ ap last_of (same_queue (the_view c.self.inside) (priority_of c.args.process)))
