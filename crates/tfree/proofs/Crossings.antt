-- A worker, and how its turns ended, may go to another thread.
use denote.Param.Send.{IsSend, sendable}
use denote.Struct.Field.{unit-field}
use Rattle.std.proofs.Crossing.{crosses}
use Rattle.tlink.proofs.node.Node.TheSendSync as node
use Rattle.tnet.proofs.wires.Wires.TheSendSync as wires
use Rattle.tfree.proofs.ends.InEnd.TheSendSync as in_end
use Rattle.tfree.proofs.ends.OutEnd.TheSendSync as out_end
use Rattle.tfree.proofs.log.Log.TheSendSync as log
use Rattle.std.specs.contracts.result.Result as Result
use Rattle.tfree.proofs.log.TurnFault.TheSendSync as fault
use Rattle.tfree.specs.contracts.log.TurnFault as TurnFault
use Rattle.tfree.specs.contracts.worker.Worker as Worker

pub worker_send : IsSend Worker.the_row
worker_send =
    search (
      sendable,
      crosses,
      node.the_send,
      wires.the_send,
      in_end.the_field_send,
      out_end.the_field_send,
      log.the_field_send,
    ) depth 40

pub fault_send : IsSend TurnFault.the_row
fault_send = search (sendable, crosses, fault.the_send) depth 40

pub ended_send : IsSend (Result.the_row (unit-field).row TurnFault.the_row)
ended_send = search (sendable, crosses, fault_send) depth 40
