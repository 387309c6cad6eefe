use Rattle.std.proofs.Common.{sym}
use Rattle.std.proofs.lemmas.Result.{err_from_is_err_and}
use Rattle.tword.specs.Touches.{Writes}
use Rattle.tcertify.proofs.Places.{misplaced, placed}
use Rattle.tcertify.proofs.stored.Words.take_word.Goals as goal

pub returns-in_err-number-clause-change : goal.returns-in_err-number-clause-change
returns-in_err-number-clause-change c =
    let p = err_from_is_err_and c.from_residual.result c.from_residual.ensures.1 in
    rw (p.1, p.2)
    (misplaced c.args.self.now Writes c.args.address c.in_err-number.field-0.0 (sym c.in_err-number.ensures.checks))

pub returns-clause-change : goal.returns-clause-change
returns-clause-change c =
    placed c.args.self.now Writes c.args.address _ c.in_ok-number.number _ (sym c.in_ok-number.ensures.checks)
    c.take.ensures.change
