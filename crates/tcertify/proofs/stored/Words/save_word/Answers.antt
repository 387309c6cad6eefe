use Rattle.std.proofs.Common.{sym, Err}
use Rattle.std.specs.Prelude.{if◌then◌else◌}
use Rattle.std.proofs.lemmas.Result.{err_from_is_err_and}
use Rattle.tword.specs.Touches.{Writes}
use Rattle.tprocesses.specs.Values.{Saved}
use Rattle.tprocesses.specs.Touching.{forgotten, kept}
use Rattle.tcertify.specs.Cells.{cells_of}
use Rattle.tcertify.specs.Words.{reason_of}
use Rattle.tcertify.proofs.Places.{misplaced, placed}
use Rattle.tcertify.proofs.Setting.{sets, sets_not}
use Rattle.tcertify.proofs.stored.Words.save_word.Goals as goal

pub returns-in_err-number-clause-change : goal.returns-in_err-number-clause-change
returns-in_err-number-clause-change c =
    let p = err_from_is_err_and c.from_residual.result c.from_residual.ensures.1 in
    let w = c.args.self.now in
    rw (p.1, p.2)
    (sets_not w _ c.args.address Saved (if c.args.keeps then kept else forgotten) _
    (misplaced w Writes c.args.address c.in_err-number.field-0.0 (sym c.in_err-number.ensures.checks)))

pub returns-in_err-cells-clause-change : goal.returns-in_err-cells-clause-change
returns-in_err-cells-clause-change c =
    let p = err_from_is_err_and c.from_residual-in_err-cells.result c.from_residual-in_err-cells.ensures.1 in
    let w = c.args.self.now in
    rw (p.1, p.2)
    (sets_not w _ c.args.address Saved (if c.args.keeps then kept else forgotten) _
    (placed w Writes c.args.address _ c.in_ok-number.number (Err (reason_of c.in_err-cells.field-0.0))
    (sym c.in_ok-number.ensures.checks) c.in_err-cells.ensures.change))

pub returns-clause-change : goal.returns-clause-change
returns-clause-change c =
    sets c.args.self.now _ _ c.args.address c.in_ok-number.number Saved (if c.args.keeps then kept else forgotten)
    (cells_of c.in_ok-cells.cells) (cells_of c.kept_if.result) c.kept_if.ensures (sym c.in_ok-number.ensures.checks)
    c.in_ok-cells.ensures.change c.in_ok-cells.ensures.site c.put.ensures.change
