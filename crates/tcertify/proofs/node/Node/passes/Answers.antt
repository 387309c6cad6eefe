use Rattle.std.proofs.lemmas.Result.{err_from_is_err_and}
use Rattle.tcertify.specs.Words.{reason_of}
use Rattle.tcertify.proofs.Messages.{passes_not, passes_so}
use Rattle.tcertify.proofs.node.Node.passes.Goals as goal

pub returns-in_err-copy_span : goal.returns-in_err-copy_span
returns-in_err-copy_span c =
    let p = err_from_is_err_and c.from_residual.result c.from_residual.ensures.1 in
    rw (p.1, p.2)
    (passes_not c.args.self.now c.copy_span.new.self c.args.channel c.args.input.now.process c.args.output.now.process
    c.args.input.now.buffer c.args.output.now.buffer (reason_of c.in_err-copy_span.field-0.0)
    c.in_err-copy_span.ensures)

pub returns : goal.returns
returns c =
    passes_so c.args.self.now c.copy_span.new.self c.args.channel c.args.input.now.process c.args.output.now.process
    c.args.input.now.buffer c.args.output.now.buffer _ _ c.requires.there c.requires.input c.requires.output
    c.in_ok-copy_span.ensures c.leave.ensures
