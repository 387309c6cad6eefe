use Rattle.std.proofs.lemmas.Result.{err_from_is_err_and}
use Rattle.tprocesses.specs.Values.{Context}
use Rattle.tcertify.specs.Contexts.{context_of}
use Rattle.tcertify.proofs.Going.{resumed, resumes_not, takes_not_back}
use Rattle.tcertify.proofs.node.Node.resumes.Goals as goal

pub returns-in_err-unsaves : goal.returns-in_err-unsaves
returns-in_err-unsaves c =
    let ctx : Context = context_of c.args.context.now in
    let p = err_from_is_err_and c.from_residual.result c.from_residual.ensures.1 in
    rw (p.1, p.2)
    (resumes_not c.args.self.now c.unsaves.new.self c.args.process ctx c.in_err-unsaves.field-0.0
    c.in_err-unsaves.ensures)

pub returns-in_err-takes_back : goal.returns-in_err-takes_back
returns-in_err-takes_back c =
    let ctx : Context = context_of c.args.context.now in
    let p = err_from_is_err_and c.from_residual-in_err-takes_back.result c.from_residual-in_err-takes_back.ensures.1 in
    rw (p.1, p.2)
    (takes_not_back c.args.self.now c.unsaves.new.self c.args.process ctx c.takes_back.new.self
    c.in_err-takes_back.field-0.0 c.requires c.in_ok-unsaves.ensures c.in_err-takes_back.ensures)

pub returns : goal.returns
returns c =
    let ctx : Context = context_of c.args.context.now in
    resumed c.args.self.now c.unsaves.new.self c.args.process ctx c.takes_back.new.self _ _ c.without_lent.ensures
    c.requires c.in_ok-unsaves.ensures c.in_ok-takes_back.ensures c.goes_on.ensures
