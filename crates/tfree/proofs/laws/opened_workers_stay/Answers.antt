use Rattle.tfree.proofs.OpenedWorkers.{workers_stay}
use Rattle.tfree.proofs.laws.opened_workers_stay.Goals as goal

pub returns : goal.returns
returns c = workers_stay
