use Rattle.std.proofs.lemmas.Result.{err_from_is_err_and}
use Rattle.std.proofs.Common.{Err}
use Rattle.tprocesses.specs.Touching.{part_of}
use Rattle.tcertify.specs.Spans.{span_cells}
use Rattle.tcertify.specs.Words.{reason_of}
use Rattle.tcertify.proofs.Copying.{copies, copies_all, copies_none, writes_none}
use Rattle.tcertify.proofs.stored.Words.copy.Goals as goal

pub returns-in_err-see_span-clause-change : goal.returns-in_err-see_span-clause-change
returns-in_err-see_span-clause-change c =
    let p = err_from_is_err_and c.from_residual.result c.from_residual.ensures.1 in
    rw (p.1, p.2)
    (copies_none c.args.self.now c.args.from.now c.args.to.now c.see_span.new.self
    (reason_of c.in_err-see_span.field-0.0) c.in_err-see_span.ensures.change)

pub returns-in_err-take_span-clause-change : goal.returns-in_err-take_span-clause-change
returns-in_err-take_span-clause-change c =
    let p = err_from_is_err_and c.from_residual-in_err-take_span.result c.from_residual-in_err-take_span.ensures.1 in
    let t = c.see_span.new.self in let from = c.args.from.now in let to = c.args.to.now in
    rw (p.1, p.2)
    (copies c.args.self.now from to t c.take_span.new.self (Err (reason_of c.in_err-take_span.field-0.0))
    c.in_ok-see_span.ensures.change c.in_ok-see_span.ensures.site c.in_ok-see_span.ensures.words
    (writes_none t to (part_of from (span_cells t from)) c.take_span.new.self
    (reason_of c.in_err-take_span.field-0.0) c.in_err-take_span.ensures.change))

pub returns-clause-change : goal.returns-clause-change
returns-clause-change c =
    copies_all c.args.self.now c.args.from.now c.args.to.now c.see_span.new.self c.take_span.new.self
    c.copy_span.new.self c.in_ok-see_span.ensures.change c.in_ok-see_span.ensures.site
    c.in_ok-see_span.ensures.words c.in_ok-take_span.ensures.change c.in_ok-take_span.ensures.site
    c.in_ok-take_span.ensures.words c.copy_span.ensures.change
