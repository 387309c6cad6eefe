use Rattle.std.proofs.Common.{ℕ, sym, ap, []}
use Rattle.std.proofs.lemmas.Result.{err_from_is_err_and}
use Rattle.tword.specs.Touches.{Reads}
use Rattle.tword.specs.Words.{word_from}
use Rattle.tcpu.specs.declared.registers.Next.TheVariants.{Go}
use Rattle.tcpu.specs.Functions.{function_effect}
use Rattle.tcpu.specs.Outcomes.{push, goes}
use Rattle.tcertify.specs.Cells.{cells_of}
use Rattle.tcertify.specs.Words.{reason_of, site_of}
use Rattle.tcertify.proofs.Actions.{reads_alone, reads_not}
use Rattle.tcertify.proofs.performing.load_local.Goals as goal

pub returns-in_err-cells-clause-done : goal.returns-in_err-cells-clause-done
unfolding function_effect
returns-in_err-cells-clause-done c =
    let r = c.args.registers.now in let w = c.args.words.now in
    let p = err_from_is_err_and c.from_residual.result c.from_residual.ensures.1 in
    rw (p.1, p.2)
    (reads_not (site_of w) [] w _ Reads (word_from r.wptr c.args.operand) (λ (v : ℕ). goes (push v r))
    (reason_of c.in_err-cells.field-0.0) (rw c.word_address.ensures at c.in_err-cells.ensures.change))

pub returns-clause-done : goal.returns-clause-done
unfolding function_effect
returns-clause-done c =
    let r = c.args.registers.now in let w = c.args.words.now in
    rw (c.push.ensures, c.goes.ensures.next, c.goes.ensures.known, c.are_known.ensures)
    (reads_alone (site_of w) [] w _ Reads (word_from r.wptr c.args.operand) (λ (v : ℕ). goes (push v r))
    (cells_of c.in_ok-cells.cells) (push c.word.result r, Go)
    (rw c.word_address.ensures at c.in_ok-cells.ensures.change)
    (ap (λ (v : ℕ). goes (push v r)) (sym c.word.ensures)))
