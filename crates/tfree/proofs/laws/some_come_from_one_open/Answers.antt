use Rattle.tfree.proofs.OpenedWorkers.{some_come}
use Rattle.tfree.proofs.laws.some_come_from_one_open.Goals as goal

pub returns : goal.returns
returns c = some_come
