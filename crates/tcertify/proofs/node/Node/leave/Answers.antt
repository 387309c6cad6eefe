use Rattle.std.proofs.lemmas.Result.{err_from_is_err_and}
use Rattle.tcertify.specs.Words.{reason_of}
use Rattle.tcertify.proofs.Messages.{leaves_half, leaves_not, leaves_so}
use Rattle.tcertify.proofs.node.Node.leave.Goals as goal

pub returns-in_err-wakes : goal.returns-in_err-wakes
returns-in_err-wakes c =
    let p = err_from_is_err_and c.from_residual.result c.from_residual.ensures.1 in
    rw (p.1, p.2)
    (leaves_not c.args.self.now c.wakes.new.self c.args.channel c.args.input c.args.output
    (reason_of c.in_err-wakes.field-0.0) c.in_err-wakes.ensures)

pub returns-in_err-wakes-2 : goal.returns-in_err-wakes-2
returns-in_err-wakes-2 c =
    let p = err_from_is_err_and c.from_residual-in_err-wakes-2.result c.from_residual-in_err-wakes-2.ensures.1 in
    rw (p.1, p.2)
    (leaves_half c.args.self.now c.wakes.new.self c.args.channel c.args.input c.args.output c.in_ok-wakes.ensures
    c.requires.output c.wakes-2.new.self (reason_of c.in_err-wakes-2.field-0.0) c.in_err-wakes-2.ensures)

pub returns : goal.returns
returns c =
    leaves_so c.args.self.now c.wakes.new.self c.args.channel c.args.input c.args.output c.in_ok-wakes.ensures
    c.requires.output c.wakes-2.new.self c.set_half.new.self _ c.requires.there c.in_ok-wakes-2.ensures
    c.set_half.ensures.sets c.set_half-2.ensures.sets
