use Rattle.std.proofs.lemmas.Result.{err_from_is_err_and}
use Rattle.tcertify.specs.Contexts.{context_of}
use Rattle.tcertify.specs.Sides.{side_of}
use Rattle.tcertify.specs.Words.{reason_of}
use Rattle.tcertify.proofs.Messages.{awaits_not, awaits_so}
use Rattle.tcertify.proofs.node.Node.awaits_message.Goals as goal

pub returns-in_err-touches : goal.returns-in_err-touches
returns-in_err-touches c =
    let p = err_from_is_err_and c.from_residual.result c.from_residual.ensures.1 in
    rw (p.1, p.2)
    (awaits_not c.args.self.now c.touches.new.self c.args.process (context_of c.args.context.now) (side_of c.args.side)
    c.args.buffer.now (reason_of c.in_err-touches.field-0.0) c.in_err-touches.ensures)

pub returns : goal.returns
returns c =
    awaits_so c.args.self.now c.touches.new.self c.args.process (context_of c.args.context.now) (side_of c.args.side)
    c.args.buffer.now _ _ (context_of c.forget.result) c.forget.ensures c.requires c.in_ok-touches.ensures
    c.stands.ensures
