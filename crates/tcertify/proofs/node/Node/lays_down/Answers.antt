use Rattle.std.proofs.lemmas.Result.{err_from_is_err_and}
use Rattle.std.proofs.Common.{subst, List, Ok}
use Rattle.tword.specs.declared.span.Span.{Span}
use Rattle.tprocesses.specs.Touching.{put, replaced, word_count, word_number}
use Rattle.tprocesses.specs.Values.{Free}
use Rattle.tcertify.specs.declared.stored.StoredWord.{StoredWord}
use Rattle.tcertify.specs.Nodes.{RunsAt, node_site}
use Rattle.tcertify.specs.Spans.{cells_from}
use Rattle.tcertify.specs.Words.{reason_of}
use Rattle.tcertify.proofs.LinkPassing.{lays_not, lays_so}
use Rattle.tcertify.proofs.node.Node.lays_down.Goals as goal

pub returns-in_err-expect_span : goal.returns-in_err-expect_span
returns-in_err-expect_span c =
    let p = err_from_is_err_and c.from_residual.result c.from_residual.ensures.1 in
    rw (p.1, p.2)
    (lays_not c.args.self.now c.expect_span.new.self c.args.link c.args.input.now.process c.args.input.now.buffer
    c.args.message.now (reason_of c.in_err-expect_span.field-0.0) c.in_err-expect_span.ensures.touched)

pub returns : goal.returns
returns c =
    let span : Span = c.args.input.now.buffer in
    lays_so c.args.self.now c.expect_span.new.self c.args.link c.args.input.now.process c.args.input.now.buffer
    c.args.message.now _ c.set_span.new.self c.set_link_half.new.self _ _ c.requires.there
    c.in_ok-expect_span.ensures.touched
    (subst (λ (l : List StoredWord). RunsAt (put (node_site c.expect_span.new.self) Free span
    (replaced span (cells_from l (word_number span.start) (word_count span)) c.args.message.now)) c.expect_span.new.self
    (Ok tt) c.set_span.new.self) c.in_ok-expect_span.ensures.words c.set_span.ensures)
    c.set_link_half.ensures.sets c.wakes.ensures
