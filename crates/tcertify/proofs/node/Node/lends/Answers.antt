use Rattle.std.proofs.Common.{subst, List, Ok, None}
use Rattle.std.proofs.lemmas.Result.{err_from_is_err_and}
use Rattle.std.specs.Prelude.{replicate}
use Rattle.tword.specs.declared.span.Span.{Span}
use Rattle.tprocesses.specs.Touching.{put, replaced, word_count, word_number}
use Rattle.tprocesses.specs.Values.{Receiving}
use Rattle.tcertify.specs.declared.stored.StoredWord.{StoredWord}
use Rattle.tcertify.specs.Nodes.{RunsAt, node_site}
use Rattle.tcertify.specs.Spans.{cells_from}
use Rattle.tcertify.specs.Words.{reason_of}
use Rattle.tcertify.proofs.LinkOffers.{lends_not_read, lends_not_written, lends_read, lends_written}
use Rattle.tcertify.proofs.node.Node.lends.Goals as goal

pub returns-in_err-see_span-in-Output : goal.returns-in_err-see_span-in-Output
returns-in_err-see_span-in-Output c =
    let p = err_from_is_err_and c.from_residual.result c.from_residual.ensures.1 in
    rw (p.1, p.2, c.in-Output.is)
    (lends_not_read c.args.self.now c.see_span.new.self c.args.buffer.now
    (reason_of c.in_err-see_span-in-Output.field-0.0) c.in_err-see_span-in-Output.ensures.touched)

pub returns-in_ok-see_span-in-Output : goal.returns-in_ok-see_span-in-Output
returns-in_ok-see_span-in-Output c =
    rw c.in-Output.is
    (lends_read c.args.self.now c.see_span.new.self c.args.buffer.now _ _ _ c.in_ok-see_span-in-Output.ensures.touched
    c.lend_span.ensures)

pub returns-in_err-take_span-in-Input : goal.returns-in_err-take_span-in-Input
returns-in_err-take_span-in-Input c =
    let p = err_from_is_err_and c.from_residual-in_err-take_span-in-Input.result
    c.from_residual-in_err-take_span-in-Input.ensures.1 in
    rw (p.1, p.2, c.in-Input.is)
    (lends_not_written c.args.self.now c.take_span.new.self c.args.buffer.now
    (reason_of c.in_err-take_span-in-Input.field-0.0) c.in_err-take_span-in-Input.ensures.touched)

pub returns-in_ok-take_span-in-Input : goal.returns-in_ok-take_span-in-Input
returns-in_ok-take_span-in-Input c =
    let span : Span = c.args.buffer.now in
    rw c.in-Input.is
    (lends_written c.args.self.now c.take_span.new.self c.args.buffer.now _ _ c.in_ok-take_span-in-Input.ensures.touched
    (subst (λ (l : List StoredWord). RunsAt (put (node_site c.take_span.new.self) Receiving span
    (replaced span (cells_from l (word_number span.start) (word_count span)) (replicate span.size None)))
    c.take_span.new.self (Ok tt) c.forget_span.new.self) c.in_ok-take_span-in-Input.ensures.words
    c.forget_span.ensures))
