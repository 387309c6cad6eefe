use Rattle.tproc.proofs.Agreeing.{leaves_low}
use Rattle.tproc.proofs.state.State.take_low.Goals as goal

pub returns-clause-unsettles : goal.returns-clause-unsettles
returns-clause-unsettles c =
    rw (← c.self.view_is, c.take_low.ensures.rest)
    (leaves_low c.take_low.result _ c.take_low.new.self.low c.take_low.ensures.first)
