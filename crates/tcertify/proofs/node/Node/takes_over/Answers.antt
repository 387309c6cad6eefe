use Rattle.std.proofs.lemmas.Result.{err_from_is_err_and}
use Rattle.tcertify.specs.Words.{number_of, reason_of}
use Rattle.tcertify.proofs.Successors.{takes_count, takes_sent}
use Rattle.tcertify.proofs.node.Node.takes_over.Goals as goal

pub returns-in_err-unsent : goal.returns-in_err-unsent
returns-in_err-unsent c =
    let p = err_from_is_err_and c.from_residual.result c.from_residual.ensures.1 in
    rw (p.1, p.2)
    (takes_sent c.args.self.now c.unsent.new.self c.args.count c.args.workspace (number_of c.args.priority) c.args.iptr
    (reason_of c.in_err-unsent.field-0.0) c.in_err-unsent.ensures.done)

pub returns : goal.returns
returns c =
    takes_count c.args.self.now c.unsent.new.self c.args.count c.args.workspace (number_of c.args.priority) c.args.iptr
    c.put.new.self _ _ c.in_ok-unsent.ensures.done (rw (c.known.ensures, c.new.ensures) at c.put.ensures)
    c.succeeds.ensures
