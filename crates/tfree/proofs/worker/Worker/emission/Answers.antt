use Rattle.std.proofs.Common.{◌+◌, refl, arith, rules}
use Rattle.tfree.specs.Turns.{Emits, IsEmissionDue}
use Rattle.tfree.specs.Views.{Share}
use Rattle.tfree.proofs.Nexts.{at_some_fault, fault_of, next_step}
use Rattle.tfree.proofs.worker.Worker.emission.Goals as goal

pub returns-in_err-emit-clause-next : goal.returns-in_err-emit-clause-next
returns-in_err-emit-clause-next c =
    at_some_fault c.from_residual.result _
    (λ f e. next_step (λ (s : Share). Emits s (s.first + c.args.i) c.args.link c.args.event)
    (λ (s : Share). IsEmissionDue s (s.first + c.args.i) c.args.link c.args.event) 1 0 c.args.self.now c.args.self.now
    c.emit.new.self f (omega arith) refl refl
    (fault_of c.emit.result f _ (search rules) c.emit.ensures.next))
