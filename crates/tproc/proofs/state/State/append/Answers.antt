use Rattle.std.proofs.Common.{subst, sym}
use Rattle.tproc.specs.Machine.{workspace_of, priority_of}
use Rattle.tproc.specs.Agreement.{Settles}
use Rattle.tproc.proofs.Agreeing.{settles_appended}
use Rattle.tproc.proofs.StateLists.{with_queued}
use Rattle.tproc.proofs.state.State.append.Goals as goal

pub returns-clause-done : goal.returns-clause-done
returns-clause-done c =
    rw (← c.self.view_is, c.queue.ensures) (with_queued (workspace_of c.args.process) (priority_of c.args.process) _)

pub returns-clause-settles : goal.returns-clause-settles
returns-clause-settles c =
    let w = workspace_of c.args.process in
    subst (Settles w c.args.self.now) (sym (returns-clause-done c))
    (settles_appended w (priority_of c.args.process) c.args.self.now)
