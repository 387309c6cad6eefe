use Rattle.std.proofs.Common.{refl, subst, sym}
use Rattle.tproc.specs.Machine.{workspace_of}
use Rattle.tproc.specs.Agreement.{Settles}
use Rattle.tproc.proofs.Agreeing.{settles_waiting}
use Rattle.tproc.proofs.state.State.begin_waiting.Goals as goal

pub returns-clause-done : goal.returns-clause-done
returns-clause-done c = rw (← c.self.view_is, c.rest.ensures.done, c.wait.ensures) refl

pub returns-clause-settles : goal.returns-clause-settles
returns-clause-settles c =
    subst (Settles (workspace_of c.args.process) c.args.self.now) (sym (returns-clause-done c))
    (settles_waiting c.args.process c.args.reason c.args.self.now)
