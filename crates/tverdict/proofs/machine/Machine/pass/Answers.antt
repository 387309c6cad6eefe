use Rattle.std.proofs.Common.{ℕ, Global, Option, Vec}
use Rattle.std.proofs.lemmas.Result.{err_from_is_err_and}
use Rattle.tverdict.proofs.Grown.{goes_fits}
use Rattle.tverdict.proofs.Crossed.{pass_all, pass_err}
use Rattle.tverdict.proofs.machine.Machine.pass.Goals as goal

pub receives-requires : goal.receives-requires
receives-requires c =
    goes_fits c.args.plan.now c.args.from.node c.args.self.now c.sends.new.self c.in_ok-message.ensures.goes
    c.requires

pub returns : goal.returns
returns c =
    pass_all c.args.plan.now c.args.from c.args.to c.args.self.now c.sends.new.self c.receives.new.self
    c.args.notes.now c.sends.new.notes c.receives.new.notes c.in_ok-message.message.items c.receives.result
    c.in_ok-message.ensures c.receives.ensures

pub returns-in_err-message : goal.returns-in_err-message
returns-in_err-message c =
    let p = err_from_is_err_and c.from_residual.result c.from_residual.ensures.1 in
    rw (p.1, p.2) (pass_err c.args.plan.now c.args.from c.args.to
    (λ (x : Vec (Option ℕ) Global). x.items) c.args.self.now c.sends.new.self
    c.args.notes.now c.sends.new.notes c.in_err-message.field-0.0 c.in_err-message.ensures)
