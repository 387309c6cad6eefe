use Rattle.std.proofs.Common.{ap}
use Rattle.std.proofs.lemmas.Result.{err_from_is_err_and}
use Rattle.tcertify.specs.Channels.{process_on}
use Rattle.tcertify.specs.Nodes.{names}
use Rattle.tcertify.specs.Words.{reason_of}
use Rattle.tcertify.proofs.Following.{inside_still}
use Rattle.tcertify.proofs.LinkPassing.{sends_nothing, sends_so, sends_unread, sends_unwoken, unsent_link}
use Rattle.tcertify.proofs.node.Node.sends.Goals as goal

pub returns-in_default : goal.returns-in_default
returns-in_default c =
    sends_nothing c.args.self.now c.link_half.new.self c.args.link _ c.link_half.ensures.looks
    (unsent_link (names c.args.self.now) c.link_half.result c.in_default.not-Offered _)

pub returns-in_err-see_span : goal.returns-in_err-see_span
returns-in_err-see_span c =
    let p = err_from_is_err_and c.from_residual.result c.from_residual.ensures.1 in
    rw (p.1, p.2)
    (sends_unread c.args.self.now c.link_half.new.self c.args.link c.in-Offered.output.process
    c.in-Offered.output.buffer (c.link_half.ensures.known c.in-Offered.output.process (ap process_on c.in-Offered.is))
    (rw c.in-Offered.is at c.link_half.ensures.looks) c.see_span.new.self (reason_of c.in_err-see_span.field-0.0)
    c.in_err-see_span.ensures.touched)

pub wakes-requires : goal.wakes-requires
wakes-requires c =
    let a = c.args.self.now in let i = c.in-Offered.output.process in
    let in_b = inside_still a c.link_half.new.self i c.link_half.ensures.looks.grows
    (c.link_half.ensures.known i (ap process_on c.in-Offered.is)) in
    let in_d = inside_still c.link_half.new.self c.see_span.new.self i c.in_ok-see_span.ensures.touched.grows in_b in
    let in_e = inside_still c.see_span.new.self c.set_link_half.new.self i c.set_link_half.ensures.sets.grows in_d in
    inside_still c.set_link_half.new.self c.set_unfinished.new.self i c.set_unfinished.ensures.grows in_e

pub returns-in_err-wakes : goal.returns-in_err-wakes
returns-in_err-wakes c =
    let p = err_from_is_err_and c.from_residual-in_err-wakes.result c.from_residual-in_err-wakes.ensures.1 in
    rw (p.1, p.2)
    (sends_unwoken c.args.self.now c.link_half.new.self c.args.link c.in-Offered.output.process
    c.in-Offered.output.buffer (c.link_half.ensures.known c.in-Offered.output.process (ap process_on c.in-Offered.is))
    (rw c.in-Offered.is at c.link_half.ensures.looks) c.see_span.new.self _ c.in_ok-see_span.ensures.touched
    c.set_link_half.new.self c.set_link_half.ensures.sets c.set_unfinished.new.self c.set_unfinished.ensures
    c.wakes.new.self (reason_of c.in_err-wakes.field-0.0) c.in_err-wakes.ensures)

pub returns : goal.returns
returns c =
    let i = c.in-Offered.output in
    rw (c.in_ok-message.ensures, c.in_ok-see_span.ensures.words)
    (sends_so c.args.self.now c.link_half.new.self c.args.link i.process
    i.buffer (c.link_half.ensures.known c.in-Offered.output.process (ap process_on c.in-Offered.is))
    (rw c.in-Offered.is at c.link_half.ensures.looks) c.see_span.new.self _ c.in_ok-see_span.ensures.touched
    c.set_link_half.new.self c.set_link_half.ensures.sets c.set_unfinished.new.self c.set_unfinished.ensures
    c.wakes.new.self c.in_ok-wakes.ensures)
