use Rattle.tseen.proofs.SteadyRuns.{runs_stay_steady}
use Rattle.tseen.proofs.laws.runs_stay_steady.Goals as goal

pub returns : goal.returns
returns c = runs_stay_steady
