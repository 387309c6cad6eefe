use Rattle.tprocesses.proofs.Living.{had_few_is_enough}
use Rattle.tprocesses.proofs.laws.had_few_is_enough.Goals as goal

pub returns : goal.returns
returns c = had_few_is_enough
