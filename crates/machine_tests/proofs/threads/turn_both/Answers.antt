use denote.Param.Send.{sendable}
use Rattle.std.proofs.Crossing as heap
use Rattle.tfree.proofs.Crossings.{worker_send}
use Rattle.machine_tests.proofs.threads.turn_both.Goals as goal

pub join_mut-first-requires-send-F : goal.join_mut-first-requires-send-F
join_mut-first-requires-send-F g c κs within = search (sendable, worker_send, heap.send, heap.sync) depth 40
