use Rattle.tcertify.specs.Carried.{followed}
use Rattle.tcertify.specs.Contexts.{context_of}
use Rattle.tcertify.specs.Words.{reason_of}
use Rattle.tcertify.proofs.Completing.{executes, instructs_not}
use Rattle.tcertify.proofs.node.Node.executes.Goals as goal

pub returns-in-Ok-clause-done : goal.returns-in-Ok-clause-done
returns-in-Ok-clause-done c =
    let ctx = context_of c.args.context.now in
    executes c.args.self.now c.instructs.new.self c.args.process ctx c.args.instruction _ _
    (followed ctx c.in-Ok.carried) c.requires.there c.in-Ok.ensures.done c.completes.ensures

pub returns-in-Err-clause-done : goal.returns-in-Err-clause-done
returns-in-Err-clause-done c =
    instructs_not c.args.self.now c.instructs.new.self c.args.process (context_of c.args.context.now)
    c.args.instruction (reason_of c.in-Err.stop) c.in-Err.ensures.done
