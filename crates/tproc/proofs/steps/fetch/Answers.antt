use Rattle.tproc.proofs.Quiet.{begins_decode}
use Rattle.tproc.proofs.steps.fetch.Goals as goal

pub returns : goal.returns
returns c = rw (← c.state.view_is) (begins_decode _ _ _ _ _ c.decode.ensures)
