use Rattle.std.proofs.Common.{◌∙◌, sym, ap}
use Rattle.tprocesses.specs.LinkMessages.{is_empty}
use Rattle.tcertify.specs.Channels.{link_of}
use Rattle.tcertify.specs.Contexts.{context_of}
use Rattle.tcertify.specs.Nodes.{names}
use Rattle.tcertify.specs.Sides.{side_of}
use Rattle.std.proofs.lemmas.Result.{err_from_is_err_and}
use Rattle.std.specs.Prelude.{not}
use Rattle.tcertify.proofs.Messages.{alike, unlike}
use Rattle.tcertify.proofs.LinkOffers.{is_taken, links_busy, links_nothing, links_so, links_unaligned}
use Rattle.tcertify.proofs.LinkOffers.{links_unfinished, links_wrongly}
use Rattle.tcertify.proofs.node.Node.takes_link.Goals as goal

pub returns-then-not-is_aligned : goal.returns-then-not-is_aligned
returns-then-not-is_aligned c =
    links_unaligned c.args.self.now c.args.process (context_of c.args.context.now) (side_of c.args.side) c.args.channel
    c.args.buffer (sym c.is_aligned.ensures ∙ c.if-not-is_aligned.true)

pub returns-then-not-is_right_end : goal.returns-then-not-is_right_end
returns-then-not-is_right_end c =
    links_wrongly c.args.self.now c.args.process (context_of c.args.context.now) (side_of c.args.side) c.args.channel
    c.args.buffer (sym c.is_aligned.ensures ∙ c.if-not-is_aligned.false)
    (sym c.is_right_end.ensures ∙ c.if-not-is_right_end.true)

pub returns-then-buffer-eq0 : goal.returns-then-buffer-eq0
returns-then-buffer-eq0 c =
    links_nothing c.args.self.now c.args.process (context_of c.args.context.now) (side_of c.args.side) c.args.channel
    c.args.buffer (sym c.is_aligned.ensures ∙ c.if-not-is_aligned.false)
    (sym c.is_right_end.ensures ∙ c.if-not-is_right_end.false) (ap not (alike _ _ c.if-buffer-eq0.true))

pub returns-in_default : goal.returns-in_default
returns-in_default c =
    links_busy c.args.self.now c.args.process (context_of c.args.context.now) (side_of c.args.side) c.args.channel
    c.args.buffer (sym c.is_aligned.ensures ∙ c.if-not-is_aligned.false)
    (sym c.is_right_end.ensures ∙ c.if-not-is_right_end.false) (ap not (unlike _ _ c.if-buffer-eq0.false))
    c.requires.there c.link_of-link.result
    c.link_of-link.ensures.link _ c.link_half.new.self c.link_half.ensures.looks
    (is_taken (names c.args.self.now) c.link_half.result c.in_default.not-Empty)

pub returns-in_err-finished : goal.returns-in_err-finished
returns-in_err-finished c =
    let p = err_from_is_err_and c.from_residual.result c.from_residual.ensures.1 in
    rw (p.1, p.2)
    (links_unfinished c.args.self.now c.args.process (context_of c.args.context.now) (side_of c.args.side)
    c.args.channel c.args.buffer (sym c.is_aligned.ensures ∙ c.if-not-is_aligned.false)
    (sym c.is_right_end.ensures ∙ c.if-not-is_right_end.false) (ap not (unlike _ _ c.if-buffer-eq0.false))
    c.requires.there c.link_of-link.result c.link_of-link.ensures.link _ c.link_half.new.self c.link_half.ensures.looks
    c.finished.new.self c.in_err-finished.field-0.0
    (ap (λ h. is_empty (link_of (names c.args.self.now) h)) c.in-Empty.is) c.in_err-finished.ensures)

pub returns : goal.returns
returns c =
    links_so c.args.self.now c.args.process (context_of c.args.context.now) (side_of c.args.side) c.args.channel
    c.args.buffer (sym c.is_aligned.ensures ∙ c.if-not-is_aligned.false)
    (sym c.is_right_end.ensures ∙ c.if-not-is_right_end.false) (ap not (unlike _ _ c.if-buffer-eq0.false))
    c.requires.there c.link_of-link.result
    c.link_of-link.ensures.link _ c.link_half.new.self c.link_half.ensures.looks c.finished.new.self
    c.set_link_half.new.self _ _ (ap (λ h. is_empty (link_of (names c.args.self.now) h)) c.in-Empty.is)
    c.in_ok-finished.ensures c.set_link_half.ensures.sets c.offers.ensures
