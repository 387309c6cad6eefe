use Rattle.tprocesses.proofs.EndedStay.{ended_stay_ended}
use Rattle.tprocesses.proofs.laws.ended_stay_ended.Goals as goal

pub returns : goal.returns
returns c = ended_stay_ended
