use Rattle.std.proofs.Common.{◌≡◌, ap}
use Rattle.std.proofs.lemmas.Result.{err_from_is_err_and}
use Rattle.tprocesses.specs.Values.{Context}
use Rattle.tcertify.specs.Contexts.{context_of}
use Rattle.tcertify.specs.Words.{number_of, reason_of}
use Rattle.tcertify.proofs.Going.{rests, rests_not}
use Rattle.tcertify.proofs.node.Node.jumps.Goals as goal

pub returns-in_err-save : goal.returns-in_err-save
returns-in_err-save c =
    let a = c.args.self.now in let ctx : Context = context_of c.args.context.now in
    let low : number_of c.args.context.now.priority ≡ 1 = ap number_of c.in_default.is in
    let p = err_from_is_err_and c.from_residual.result c.from_residual.ensures.1 in
    rw (p.1, p.2)
    (rests_not a c.save.new.self c.args.process (number_of c.args.context.now.priority) ctx low
    (reason_of c.in_err-save.field-0.0) c.in_err-save.ensures)

pub returns : goal.returns
returns c =
    let a = c.args.self.now in let ctx : Context = context_of c.args.context.now in
    let low : number_of c.args.context.now.priority ≡ 1 = ap number_of c.in_default.is in
    rests a c.save.new.self c.args.process (number_of c.args.context.now.priority) ctx low _
    (context_of c.forget.result) c.forget.ensures c.requires c.in_ok-save.ensures c.stands.ensures
