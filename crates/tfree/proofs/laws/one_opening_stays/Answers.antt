use Rattle.tfree.proofs.OpenedWorkers.{opening_stays}
use Rattle.tfree.proofs.laws.one_opening_stays.Goals as goal

pub returns : goal.returns
returns c = opening_stays
