use Rattle.std.proofs.lemmas.Result.{err_from_is_err_and}
use Rattle.tcertify.specs.Contexts.{context_of}
use Rattle.tcertify.specs.Words.{reason_of}
use Rattle.tcertify.proofs.Completing.{decodes_not, runs}
use Rattle.tcertify.proofs.node.Node.runs.Goals as goal

pub returns-in_err-instruction-clause-done : goal.returns-in_err-instruction-clause-done
returns-in_err-instruction-clause-done c =
    let p = err_from_is_err_and c.from_residual.result c.from_residual.ensures.1 in
    rw (p.1, p.2)
    (decodes_not c.args.self.now c.decodes.new.self c.args.process (context_of c.args.context.now)
    (reason_of c.in_err-instruction.field-0.0) c.in_err-instruction.ensures.done)

pub returns-clause-done : goal.returns-clause-done
returns-clause-done c =
    runs c.args.self.now c.decodes.new.self c.args.process (context_of c.args.context.now) _ _
    c.in_ok-instruction.instruction c.requires.there c.in_ok-instruction.ensures.done c.executes.ensures.done
