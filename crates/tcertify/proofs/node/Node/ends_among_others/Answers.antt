use Rattle.std.proofs.lemmas.Result.{err_from_is_err_and}
use Rattle.tcertify.specs.Contexts.{context_of}
use Rattle.tcertify.specs.Words.{reason_of}
use Rattle.tcertify.proofs.Scheduling.{ends_last, ends_not, ends_unknown}
use Rattle.tcertify.proofs.node.Node.ends_among_others.Goals as goal

pub returns-in_default : goal.returns-in_default
returns-in_default c =
    ends_unknown c.args.self.now c.args.process (context_of c.args.context.now) c.in_default.is

pub returns-in_err-lowers_count : goal.returns-in_err-lowers_count
returns-in_err-lowers_count c =
    let p = err_from_is_err_and c.from_residual.result c.from_residual.ensures.1 in
    rw (p.1, p.2)
    (ends_not c.args.self.now c.args.process (context_of c.args.context.now) c.in-Some.workspace c.in-Some.is
    c.lowers_count.new.self (reason_of c.in_err-lowers_count.field-0.0) c.in_err-lowers_count.ensures)

pub returns : goal.returns
returns c =
    ends_last c.args.self.now c.args.process (context_of c.args.context.now) c.in-Some.workspace c.in-Some.is
    c.lowers_count.new.self _ _ c.requires c.in_ok-lowers_count.ensures c.ends.ensures
