use Rattle.tproc.proofs.Threads.{empty_threaded, queues_stay_threaded}
use Rattle.tproc.proofs.laws.queues_stay_threaded.Goals as goal

pub returns : goal.returns
returns c = record { first = empty_threaded; moves = queues_stay_threaded }
