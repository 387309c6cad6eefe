use Rattle.std.proofs.Common.{refl, sym, Err}
use Rattle.std.proofs.lemmas.Result.{err_from_is_err_and}
use Rattle.tprocesses.specs.Values.{Free}
use Rattle.tword.specs.Touches.{Writes}
use Rattle.tcertify.specs.Cells.{cells_of}
use Rattle.tcertify.specs.Words.{reason_of}
use Rattle.tcertify.proofs.Places.{misplaced, placed}
use Rattle.tcertify.proofs.Setting.{fixed, sets, sets_not}
use Rattle.tcertify.proofs.stored.Words.write_word.Goals as goal

pub returns-in_err-number-clause-change : goal.returns-in_err-number-clause-change
returns-in_err-number-clause-change c =
    let p = err_from_is_err_and c.from_residual.result c.from_residual.ensures.1 in
    let w = c.args.self.now in
    rw (p.1, p.2)
    (sets_not w _ c.args.address Free (fixed (cells_of c.args.cells)) _
    (misplaced w Writes c.args.address c.in_err-number.field-0.0 (sym c.in_err-number.ensures.checks)))

pub returns-in_err-take-clause-change : goal.returns-in_err-take-clause-change
returns-in_err-take-clause-change c =
    let p = err_from_is_err_and c.from_residual-in_err-take.result c.from_residual-in_err-take.ensures.1 in
    let w = c.args.self.now in
    rw (p.1, p.2)
    (sets_not w _ c.args.address Free (fixed (cells_of c.args.cells)) _
    (placed w Writes c.args.address _ c.in_ok-number.number (Err (reason_of c.in_err-take.field-0.0))
    (sym c.in_ok-number.ensures.checks) c.in_err-take.ensures.change))

pub returns-clause-change : goal.returns-clause-change
returns-clause-change c =
    sets c.args.self.now _ _ c.args.address c.in_ok-number.number Free (fixed (cells_of c.args.cells))
    (cells_of c.in_ok-take.field-0) (cells_of c.args.cells) refl (sym c.in_ok-number.ensures.checks)
    c.in_ok-take.ensures.change c.in_ok-take.ensures.site c.put.ensures.change
