use Rattle.std.proofs.Common.{◌≡◌, ◌<◌, ℕ, ◌+◌, subst, arith, Err, Ok}
use Rattle.std.proofs.lemmas.Result.{err_from_is_err_and}
use Rattle.tprocesses.specs.Touching.{Site, word_count, word_for, word_number, words_for}
use Rattle.tcertify.specs.Cells.{cells_of}
use Rattle.tcertify.specs.Words.{Runs, reason_of, site_of, use_of}
use Rattle.tcertify.proofs.Rows.{cells_there, in_row, row_begins, row_ends, row_goes_on, row_stops, use_row}
use Rattle.tcertify.proofs.Running.{runs_as}
use Rattle.tcertify.proofs.stored.Words.expect_span.Goals as goal

pub loop-k-init : goal.loop-k-init
loop-k-init c =
    let w = c.args.self.now in let span = c.args.span.now in
    row_begins (word_for (site_of w) (use_of c.args.used)) (word_number span.start) (word_count span) w

pub returns-in_err-expect_word-clause-change : goal.returns-in_err-expect_word-clause-change
returns-in_err-expect_word-clause-change c =
    let p = err_from_is_err_and c.from_residual.result c.from_residual.ensures.1 in
    let w = c.args.self.now in let span = c.args.span.now in let k : ℕ = c.loop-k.k in let u = c.loop-k.self in
    let low : k < word_count span = omega (arith, c.loop-k-test.true, c.word_count-k-end.ensures) in
    let seen = rw c.word_number-first.ensures at c.in_err-expect_word.ensures.change in
    rw (p.1, p.2)
    (runs_as (words_for (site_of w) (use_of c.args.used) (word_number span.start) (word_count span))
    (in_row (word_for (site_of w) (use_of c.args.used)) (word_number span.start) (word_count span)) w _
    (Err (reason_of c.in_err-expect_word.field-0.0))
    (use_row (site_of w) (use_of c.args.used) (word_count span) (word_number span.start))
    (row_stops (word_for (site_of w) (use_of c.args.used)) (word_number span.start) (word_count span) w k u
    c.loop-k.invariant _ low
    (reason_of c.in_err-expect_word.field-0.0)
    (subst (λ (s : Site). Runs (word_for s (use_of c.args.used) (word_number span.start + k)) u
    (Err (reason_of c.in_err-expect_word.field-0.0)) c.expect_word.new.self) c.loop-k.invariant.site seen)))

pub loop-k-preserved : goal.loop-k-preserved
loop-k-preserved c =
    let w = c.args.self.now in let span = c.args.span.now in let k : ℕ = c.loop-k.k in let u = c.loop-k.self in
    let cells = cells_of c.in_ok-expect_word.field-0 in
    let low : k < word_count span = omega (arith, c.loop-k-test.true, c.word_count-k-end.ensures) in
    let seen = rw c.word_number-first.ensures at c.in_ok-expect_word.ensures.change in
    row_goes_on (word_for (site_of w) (use_of c.args.used)) (word_number span.start) (word_count span) w k u
    c.loop-k.invariant c.expect_word.new.self low
    cells
    (subst (λ (s : Site). Runs (word_for s (use_of c.args.used) (word_number span.start + k)) u (Ok cells)
    c.expect_word.new.self) c.loop-k.invariant.site seen)
    c.in_ok-expect_word.ensures.words c.in_ok-expect_word.ensures.site
    (cells_there _ cells (rw c.word_number-first.ensures at c.in_ok-expect_word.ensures.cells))

pub returns-clause-change : goal.returns-clause-change
returns-clause-change c =
    let w = c.args.self.now in let span = c.args.span.now in let k : ℕ = c.loop-k.k in let u = c.loop-k.self in
    let all : k ≡ word_count span = omega (arith, c.loop-k-test.false, c.word_count-k-end.ensures, c.loop-k.auto) in
    runs_as (words_for (site_of w) (use_of c.args.used) (word_number span.start) (word_count span))
    (in_row (word_for (site_of w) (use_of c.args.used)) (word_number span.start) (word_count span)) w u (Ok _)
    (use_row (site_of w) (use_of c.args.used) (word_count span) (word_number span.start))
    (row_ends (word_for (site_of w) (use_of c.args.used)) (word_number span.start) (word_count span) w k u
    c.loop-k.invariant all)
