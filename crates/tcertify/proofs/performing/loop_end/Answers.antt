use Rattle.std.proofs.Common.{sym, ap, ◌∙◌}
use Rattle.std.proofs.lemmas.Result.{err_from_is_err_and}
use Rattle.tcpu.specs.Operations.{is_positive_word}
use Rattle.tcertify.specs.Cells.{cells_of}
use Rattle.tcertify.specs.Words.{reason_of}
use Rattle.tcertify.proofs.Loops.{no_count, no_index, no_count_set, no_index_set, loop_ends, goes_round}
use Rattle.tcertify.proofs.performing.loop_end.Goals as goal

pub returns-in_err-count-clause-done : goal.returns-in_err-count-clause-done
returns-in_err-count-clause-done c = λ before.
    let p = err_from_is_err_and c.from_residual.result c.from_residual.ensures.1 in
    rw (p.1, p.2)
    (no_count c.args.words.now c.args.registers.now before _ (reason_of c.in_err-count.field-0.0)
    (rw (c.plus-place.ensures, c.new.ensures) at c.in_err-count.ensures.change))

pub returns-in_err-index-clause-done : goal.returns-in_err-index-clause-done
returns-in_err-index-clause-done c = λ before.
    let p = err_from_is_err_and c.from_residual-in_err-index.result c.from_residual-in_err-index.ensures.1 in
    rw (p.1, p.2)
    (no_index c.args.words.now c.args.registers.now before _ (cells_of c.in_ok-count.count)
    (rw (c.plus-place.ensures, c.new.ensures) at c.in_ok-count.ensures.change) c.in_ok-count.ensures.site _
    (reason_of c.in_err-index.field-0.0)
    c.in_err-index.ensures.change)

pub returns-in_err-store-clause-done : goal.returns-in_err-store-clause-done
returns-in_err-store-clause-done c = λ before.
    let p = err_from_is_err_and c.from_residual-in_err-store.result c.from_residual-in_err-store.ensures.1 in
    let left = rw (c.word.ensures, c.new-2.ensures) at c.minus-left.ensures in
    rw (p.1, p.2)
    (no_count_set c.args.words.now c.args.registers.now before _ (cells_of c.in_ok-count.count)
    (rw (c.plus-place.ensures, c.new.ensures) at c.in_ok-count.ensures.change) c.in_ok-count.ensures.site _
    (cells_of c.in_ok-index.index)
    c.in_ok-index.ensures.change c.in_ok-index.ensures.site _ (reason_of c.in_err-store.field-0.0)
    (rw (c.plus-place.ensures, c.new.ensures, left) at c.in_err-store.ensures.change))

pub returns-then-not-is_positive-clause-done : goal.returns-then-not-is_positive-clause-done
returns-then-not-is_positive-clause-done c = λ before.
    let left = rw (c.word.ensures, c.new-2.ensures) at c.minus-left.ensures in
    rw (
      c.pop-then-not-is_positive.ensures,
      c.pop.ensures,
      c.goes.ensures.next,
      c.goes.ensures.known,
      c.both-known.ensures,
      c.are_known.ensures,
      c.are_known-2.ensures,
    )
    (loop_ends c.args.words.now c.args.registers.now before _ (cells_of c.in_ok-count.count)
    (rw (c.plus-place.ensures, c.new.ensures) at c.in_ok-count.ensures.change) c.in_ok-count.ensures.site _
    (cells_of c.in_ok-index.index)
    c.in_ok-index.ensures.change c.in_ok-index.ensures.site _ c.in_ok-store.ensures.site
    (rw (c.plus-place.ensures, c.new.ensures, left) at c.in_ok-store.ensures.change)
    (sym (c.is_positive.ensures ∙ ap is_positive_word left) ∙ c.if-not-is_positive.true))

pub returns-in_err-store-2-clause-done : goal.returns-in_err-store-2-clause-done
returns-in_err-store-2-clause-done c = λ before.
    let p = err_from_is_err_and c.from_residual-in_err-store-2.result c.from_residual-in_err-store-2.ensures.1 in
    let left = rw (c.word.ensures, c.new-2.ensures) at c.minus-left.ensures in
    let next = rw (c.word-2.ensures, c.new-3.ensures) at c.plus.ensures in
    rw (p.1, p.2)
    (no_index_set c.args.words.now c.args.registers.now before _ (cells_of c.in_ok-count.count)
    (rw (c.plus-place.ensures, c.new.ensures) at c.in_ok-count.ensures.change) c.in_ok-count.ensures.site _
    (cells_of c.in_ok-index.index)
    c.in_ok-index.ensures.change c.in_ok-index.ensures.site _ c.in_ok-store.ensures.site
    (rw (c.plus-place.ensures, c.new.ensures, left) at c.in_ok-store.ensures.change)
    (sym (c.is_positive.ensures ∙ ap is_positive_word left) ∙ c.if-not-is_positive.false) _
    (reason_of c.in_err-store-2.field-0.0) (rw next at c.in_err-store-2.ensures.change))

pub returns-clause-done : goal.returns-clause-done
returns-clause-done c = λ before.
    let left = rw (c.word.ensures, c.new-2.ensures) at c.minus-left.ensures in
    let next = rw (c.word-2.ensures, c.new-3.ensures) at c.plus.ensures in
    rw (
      c.pop-3.ensures,
      c.pop-2.ensures,
      c.minus-start.ensures,
      c.both-known.ensures,
      c.are_known.ensures,
      c.are_known-2.ensures,
    )
    (goes_round c.args.words.now c.args.registers.now before _ (cells_of c.in_ok-count.count)
    (rw (c.plus-place.ensures, c.new.ensures) at c.in_ok-count.ensures.change) c.in_ok-count.ensures.site _
    (cells_of c.in_ok-index.index)
    c.in_ok-index.ensures.change c.in_ok-index.ensures.site _ c.in_ok-store.ensures.site
    (rw (c.plus-place.ensures, c.new.ensures, left) at c.in_ok-store.ensures.change)
    (sym (c.is_positive.ensures ∙ ap is_positive_word left) ∙ c.if-not-is_positive.false) _
    (rw next at c.in_ok-store-2.ensures.change))
