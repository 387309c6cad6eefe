use Rattle.std.proofs.Common.{ℕ, ◌%◌, sym, ap, ◌∙◌}
use Rattle.std.specs.Prelude.{slice_set}
use Rattle.std.proofs.lemmas.Result.{err_from_is_err_and}
use Rattle.tcertify.specs.Cells.{cells_of}
use Rattle.tcertify.specs.Words.{reason_of}
use Rattle.tcertify.proofs.ByteWrites.{byte_not_set, byte_outside, byte_set}
use Rattle.tcertify.proofs.stored.Words.write_byte.Goals as goal

pub returns-in_err-number-clause-change : goal.returns-in_err-number-clause-change
returns-in_err-number-clause-change c =
    let p = err_from_is_err_and c.from_residual.result c.from_residual.ensures.1 in
    rw (p.1, p.2)
    (byte_outside c.args.self.now c.args.address c.args.cell c.in_err-number.field-0.0
    (sym c.in_err-number.ensures.checks))

pub returns-in_err-cells-clause-change : goal.returns-in_err-cells-clause-change
returns-in_err-cells-clause-change c =
    let p = err_from_is_err_and c.from_residual-in_err-cells.result c.from_residual-in_err-cells.ensures.1 in
    rw (p.1, p.2)
    (byte_not_set c.args.self.now c.args.address c.args.cell _ c.in_ok-number.number
    (sym c.in_ok-number.ensures.checks) (reason_of c.in_err-cells.field-0.0) c.in_err-cells.ensures.change)

pub returns-clause-change : goal.returns-clause-change
returns-clause-change c =
    byte_set c.args.self.now c.args.address c.args.cell _ c.in_ok-number.number (sym c.in_ok-number.ensures.checks) _
    c.in_ok-cells.cells (cells_of c.with_byte-left.result) c.in_ok-number.ensures.above c.in_ok-cells.ensures.change
    c.in_ok-cells.ensures.site
    (c.with_byte-left.ensures
    ∙ ap (λ (a : ℕ). slice_set (cells_of c.in_ok-cells.cells) (a % 4) c.args.cell) c.get.ensures) c.put.ensures.change
