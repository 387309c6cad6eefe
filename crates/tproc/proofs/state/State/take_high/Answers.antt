use Rattle.tproc.proofs.Agreeing.{leaves_high}
use Rattle.tproc.proofs.state.State.take_high.Goals as goal

pub returns-clause-unsettles : goal.returns-clause-unsettles
returns-clause-unsettles c =
    rw (← c.self.view_is, c.take_high.ensures.rest)
    (leaves_high c.take_high.result _ c.take_high.new.self.high c.take_high.ensures.first)
