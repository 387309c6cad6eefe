use denote.Param.Send.{sendable}
use Rattle.tfree.proofs.Crossings.{worker_send}
use Rattle.machine_tests.proofs.threads.fn.on_threads.scope.Goals as goal

pub spawn_with-requires-send-F : goal.spawn_with-requires-send-F
spawn_with-requires-send-F g c κs = search (sendable, worker_send) depth 40

pub spawn_with-requires-send-T : goal.spawn_with-requires-send-T
spawn_with-requires-send-T g c κs = search (sendable, worker_send) depth 40

pub spawn_with-requires-2-send-F : goal.spawn_with-requires-2-send-F
spawn_with-requires-2-send-F g c κs = search (sendable, worker_send) depth 40

pub spawn_with-requires-2-send-T : goal.spawn_with-requires-2-send-T
spawn_with-requires-2-send-T g c κs = search (sendable, worker_send) depth 40

pub spawn_with-requires-3-send-F : goal.spawn_with-requires-3-send-F
spawn_with-requires-3-send-F g c κs = search (sendable, worker_send) depth 40
