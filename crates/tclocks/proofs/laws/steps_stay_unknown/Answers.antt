use Rattle.tclocks.proofs.Owning.{steps_stay_unknown}
use Rattle.tclocks.proofs.laws.steps_stay_unknown.Goals as goal

pub returns : goal.returns
returns c = steps_stay_unknown
