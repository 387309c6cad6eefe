use Rattle.std.proofs.Common.{ℕ, sym, ap, []}
use Rattle.std.proofs.lemmas.Result.{err_from_is_err_and}
use Rattle.tword.specs.Touches.{Reads}
use Rattle.tword.specs.Words.{plus}
use Rattle.tcpu.specs.declared.registers.Next.TheVariants.{Go}
use Rattle.tcpu.specs.Operations.{operation_effect}
use Rattle.tcpu.specs.Outcomes.{goes}
use Rattle.tcertify.specs.Cells.{cells_of}
use Rattle.tcertify.specs.Words.{reason_of, site_of}
use Rattle.tcertify.proofs.Actions.{reads_alone, reads_not}
use Rattle.tcertify.proofs.performing.return_to_caller.Goals as goal

pub returns-in_err-cells-clause-done : goal.returns-in_err-cells-clause-done
unfolding operation_effect
returns-in_err-cells-clause-done c = λ before.
    let r = c.args.registers.now in let w = c.args.words.now in
    let p = err_from_is_err_and c.from_residual.result c.from_residual.ensures.1 in
    rw (p.1, p.2)
    (reads_not (site_of w) [] w _ Reads r.wptr (λ (v : ℕ). goes (record r { iptr = v; wptr = plus r.wptr 16 }))
    (reason_of c.in_err-cells.field-0.0) c.in_err-cells.ensures.change)

pub returns-clause-done : goal.returns-clause-done
unfolding operation_effect
returns-clause-done c = λ before.
    let r = c.args.registers.now in let w = c.args.words.now in
    rw (c.plus-workspace.ensures, c.new.ensures, c.goes.ensures.next, c.goes.ensures.known, c.are_known.ensures)
    (reads_alone (site_of w) [] w _ Reads r.wptr (λ (v : ℕ). goes (record r { iptr = v; wptr = plus r.wptr 16 }))
    (cells_of c.in_ok-cells.cells) (record r { iptr = c.word-target.result; wptr = plus r.wptr 16 }, Go)
    c.in_ok-cells.ensures.change
    (ap (λ (v : ℕ). goes (record r { iptr = v; wptr = plus r.wptr 16 })) (sym c.word-target.ensures)))
