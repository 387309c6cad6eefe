use Rattle.std.proofs.Common.{◌≡◌, ◌<◌, ℕ, ◌+◌, subst, arith, Err, Ok}
use Rattle.std.proofs.lemmas.Result.{err_from_is_err_and}
use Rattle.tword.specs.Touches.{Writes}
use Rattle.tprocesses.specs.Touching.{Site, touch_word, word_count, word_number}
use Rattle.tcertify.specs.Cells.{cells_of}
use Rattle.tcertify.specs.Words.{Runs, reason_of, site_of}
use Rattle.tcertify.proofs.Rows.{cells_there, row_begins, row_ends, row_goes_on, row_stops, span_inside, span_outside}
use Rattle.tcertify.proofs.stored.Words.take_span.Goals as goal

pub returns-in_err-check_place-clause-change : goal.returns-in_err-check_place-clause-change
returns-in_err-check_place-clause-change c =
    let p = err_from_is_err_and c.from_residual.result c.from_residual.ensures.1 in
    rw (p.1, p.2)
    (span_outside c.args.self.now Writes c.args.span.now c.in_err-check_place.field-0.0
    c.in_err-check_place.ensures.checks)

pub loop-k-init : goal.loop-k-init
loop-k-init c =
    let w = c.args.self.now in let span = c.args.span.now in
    row_begins (touch_word (site_of w) Writes) (word_number span.start) (word_count span) w

pub returns-in_err-take-clause-change : goal.returns-in_err-take-clause-change
returns-in_err-take-clause-change c =
    let p = err_from_is_err_and c.from_residual-in_err-take.result c.from_residual-in_err-take.ensures.1 in
    let w = c.args.self.now in let span = c.args.span.now in let k : ℕ = c.loop-k.k in let u = c.loop-k.self in
    let low : k < word_count span = omega (arith, c.loop-k-test.true, c.word_count-k-end.ensures) in
    let seen = rw c.word_number-first.ensures at c.in_err-take.ensures.change in
    rw (p.1, p.2)
    (span_inside w Writes span _ (Err (reason_of c.in_err-take.field-0.0)) c.in_ok-check_place.ensures.checks
    (row_stops (touch_word (site_of w) Writes) (word_number span.start) (word_count span) w k u c.loop-k.invariant _ low
    (reason_of c.in_err-take.field-0.0)
    (subst (λ (s : Site). Runs (touch_word s Writes (word_number span.start + k)) u
    (Err (reason_of c.in_err-take.field-0.0)) c.take.new.self) c.loop-k.invariant.site seen)))

pub loop-k-preserved : goal.loop-k-preserved
loop-k-preserved c =
    let w = c.args.self.now in let span = c.args.span.now in let k : ℕ = c.loop-k.k in let u = c.loop-k.self in
    let cells = cells_of c.in_ok-take.field-0 in
    let low : k < word_count span = omega (arith, c.loop-k-test.true, c.word_count-k-end.ensures) in
    let seen = rw c.word_number-first.ensures at c.in_ok-take.ensures.change in
    row_goes_on (touch_word (site_of w) Writes) (word_number span.start) (word_count span) w k u c.loop-k.invariant
    c.take.new.self low cells
    (subst (λ (s : Site). Runs (touch_word s Writes (word_number span.start + k)) u (Ok cells) c.take.new.self)
    c.loop-k.invariant.site seen)
    c.in_ok-take.ensures.words c.in_ok-take.ensures.site
    (cells_there _ cells (rw c.word_number-first.ensures at c.in_ok-take.ensures.cells))

pub returns-clause-change : goal.returns-clause-change
returns-clause-change c =
    let w = c.args.self.now in let span = c.args.span.now in let k : ℕ = c.loop-k.k in let u = c.loop-k.self in
    let all : k ≡ word_count span = omega (arith, c.loop-k-test.false, c.word_count-k-end.ensures, c.loop-k.auto) in
    span_inside w Writes span u (Ok _) c.in_ok-check_place.ensures.checks
    (row_ends (touch_word (site_of w) Writes) (word_number span.start) (word_count span) w k u c.loop-k.invariant all)
