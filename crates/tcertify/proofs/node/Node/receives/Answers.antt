use Rattle.std.proofs.Common.{ap, Ok, Err}
use Rattle.std.proofs.lemmas.Result.{err_from_is_err_and}
use Rattle.tcertify.specs.declared.fault.Fault.TheVariants as fault
use Rattle.tcertify.specs.Channels.{process_on}
use Rattle.tcertify.specs.Nodes.{names}
use Rattle.tcertify.proofs.Following.{inside_still}
use Rattle.tcertify.proofs.Messages.{alike, unlike}
use Rattle.tcertify.proofs.LinkPassing.{receives_nothing, receives_so, receives_unfit, unasked_link}
use Rattle.tcertify.proofs.node.Node.receives.Goals as goal

pub returns-in_default : goal.returns-in_default
returns-in_default c =
    receives_nothing c.args.self.now c.link_half.new.self c.args.link c.args.message.now _ c.link_half.ensures.looks
    (unasked_link (names c.args.self.now) c.args.message.now c.link_half.result c.in_default.not-Offered _)

pub returns-then-input-message : goal.returns-then-input-message
returns-then-input-message c =
    receives_unfit c.args.self.now c.link_half.new.self c.args.link c.args.message.now c.in-Offered.input.process
    c.in-Offered.input.buffer (c.link_half.ensures.known c.in-Offered.input.process (ap process_on c.in-Offered.is))
    (rw c.in-Offered.is at c.link_half.ensures.looks) (unlike _ _ c.if-input-message.true)

pub lays_down-requires-clause-there : goal.lays_down-requires-clause-there
lays_down-requires-clause-there c =
    inside_still c.args.self.now c.link_half.new.self c.in-Offered.input.process c.link_half.ensures.looks.grows
    (c.link_half.ensures.known c.in-Offered.input.process (ap process_on c.in-Offered.is))

pub returns-in_err-lays_down : goal.returns-in_err-lays_down
returns-in_err-lays_down c =
    let p = err_from_is_err_and c.from_residual.result c.from_residual.ensures.1 in
    rw (p.1, p.2)
    (receives_so c.args.self.now c.link_half.new.self c.args.link c.args.message.now c.in-Offered.input.process
    c.in-Offered.input.buffer (c.link_half.ensures.known c.in-Offered.input.process (ap process_on c.in-Offered.is))
    (rw c.in-Offered.is at c.link_half.ensures.looks) c.lays_down.new.self
    (Err (fault.Stops c.in_err-lays_down.field-0.0)) (alike _ _ c.if-input-message.false) c.in_err-lays_down.ensures)

pub returns : goal.returns
returns c =
    receives_so c.args.self.now c.link_half.new.self c.args.link c.args.message.now c.in-Offered.input.process
    c.in-Offered.input.buffer (c.link_half.ensures.known c.in-Offered.input.process (ap process_on c.in-Offered.is))
    (rw c.in-Offered.is at c.link_half.ensures.looks) c.lays_down.new.self (Ok tt)
    (alike _ _ c.if-input-message.false) c.in_ok-lays_down.ensures
