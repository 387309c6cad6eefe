use Rattle.std.proofs.lemmas.Result.{err_from_is_err_and}
use Rattle.tcertify.specs.Contexts.{context_of}
use Rattle.tcertify.specs.Sides.{side_of}
use Rattle.tcertify.specs.Words.{reason_of}
use Rattle.tcertify.proofs.Messages.{marks_sent, marks_so, marks_unsaved}
use Rattle.tcertify.proofs.node.Node.marks_channel.Goals as goal

pub returns-in_err-unsent : goal.returns-in_err-unsent
returns-in_err-unsent c =
    let p = err_from_is_err_and c.from_residual.result c.from_residual.ensures.1 in
    rw (p.1, p.2)
    (marks_sent c.args.self.now c.args.process (context_of c.args.context.now) (side_of c.args.side) c.args.channel
    c.args.buffer.now c.unsent.new.self (reason_of c.in_err-unsent.field-0.0)
    (rw c.requires.number at c.in_err-unsent.ensures.done))

pub returns-in_err-save : goal.returns-in_err-save
returns-in_err-save c =
    let p = err_from_is_err_and c.from_residual-in_err-save.result c.from_residual-in_err-save.ensures.1 in
    rw (p.1, p.2)
    (marks_unsaved c.args.self.now c.args.process (context_of c.args.context.now) (side_of c.args.side) c.args.channel
    c.args.buffer.now c.unsent.new.self c.requires.there (rw c.requires.number at c.in_ok-unsent.ensures.done)
    c.save.new.self (reason_of c.in_err-save.field-0.0) c.in_err-save.ensures)

pub returns : goal.returns
returns c =
    marks_so c.args.self.now c.args.process (context_of c.args.context.now) (side_of c.args.side) c.args.channel
    c.args.buffer.now c.unsent.new.self c.requires.there (rw c.requires.number at c.in_ok-unsent.ensures.done)
    c.save.new.self c.engage.new.self _ _ c.in_ok-save.ensures c.engage.ensures c.awaits_message.ensures
