use Rattle.tproc.proofs.Placed.{step_keeps_placed}
use Rattle.tproc.proofs.laws.steps_keep_processes_placed.Goals as goal

pub returns : goal.returns
returns c = record { placed = step_keeps_placed; apart = λ n n' r p e. (step_keeps_placed n n' r p e).apart }
