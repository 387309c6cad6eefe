use Rattle.std.proofs.Common.{◌+◌, arith, rules}
use Rattle.tfree.specs.Turns.{Receives, IsPacketDue}
use Rattle.tfree.specs.Views.{Share}
use Rattle.tfree.proofs.Nexts.{at_some_fault, fault_of, next_step}
use Rattle.tfree.proofs.worker.Worker.packets.Goals as goal

pub returns-in_err-receive-clause-next : goal.returns-in_err-receive-clause-next
returns-in_err-receive-clause-next c =
    let l = c.loop-done in
    at_some_fault c.from_residual.result _
    (λ f e. next_step (λ (s : Share). Receives s (s.first + c.args.i) c.args.link)
    (λ (s : Share). IsPacketDue s (s.first + c.args.i) c.args.link) 2 l._done c.args.self.now l.self
    c.receive.new.self f
    (omega (arith, c.loop-done-test.true)) l.invariant.same l.invariant.done
    (fault_of c.receive.result f _ (search rules) c.receive.ensures.next))
