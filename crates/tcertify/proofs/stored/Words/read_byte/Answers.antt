use Rattle.std.proofs.Common.{ℕ, ◌%◌, sym, ap, ◌∙◌}
use Rattle.std.proofs.lemmas.Result.{err_from_is_err_and}
use Rattle.tword.specs.Touches.{Reads}
use Rattle.tcertify.specs.Cells.{cell_at}
use Rattle.tcertify.specs.Words.{reason_of}
use Rattle.tcertify.proofs.Bytes.{byte_busy, byte_misplaced, byte_seen}
use Rattle.tcertify.proofs.stored.Words.read_byte.Goals as goal

pub returns-in_err-number-clause-change : goal.returns-in_err-number-clause-change
returns-in_err-number-clause-change c =
    let p = err_from_is_err_and c.from_residual.result c.from_residual.ensures.1 in
    rw (p.1, p.2)
    (byte_misplaced c.args.self.now Reads c.args.address c.in_err-number.field-0.0
    (sym c.in_err-number.ensures.checks))

pub returns-in_err-cells-clause-change : goal.returns-in_err-cells-clause-change
returns-in_err-cells-clause-change c =
    let p = err_from_is_err_and c.from_residual-in_err-cells.result c.from_residual-in_err-cells.ensures.1 in
    rw (p.1, p.2)
    (byte_busy c.args.self.now Reads c.args.address _ c.in_ok-number.number (sym c.in_ok-number.ensures.checks)
    (reason_of c.in_err-cells.field-0.0) c.in_err-cells.ensures.change)

pub returns-clause-change : goal.returns-clause-change
returns-clause-change c =
    byte_seen c.args.self.now Reads c.args.address _ c.in_ok-number.number (sym c.in_ok-number.ensures.checks)
    c.in_ok-cells.cells c.byte.result c.in_ok-number.ensures.above c.in_ok-cells.ensures.change
    (c.byte.ensures ∙ ap (λ (a : ℕ). cell_at c.in_ok-cells.cells (a % 4)) c.get.ensures)
