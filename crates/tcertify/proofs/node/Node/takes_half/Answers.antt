use Rattle.std.proofs.Common.{ℕ, sym, Ok, Err}
use Rattle.std.proofs.lemmas.Result.{err_from_is_err_and}
use Rattle.tprocesses.specs.ChannelMessages.{takes_half}
use Rattle.tcertify.specs.declared.fault.Fault.TheVariants as fault
use Rattle.tcertify.specs.Contexts.{context_of}
use Rattle.tcertify.specs.Nodes.{name_at, names, node_site, nothing}
use Rattle.tcertify.specs.Sides.{side_of}
use Rattle.tcertify.proofs.Messages.{asks_none, asks_some, takes_nowhere, takes_so, takes_taken, unmade}
use Rattle.tcertify.proofs.node.Node.takes_half.Goals as goal

pub returns-in-Err : goal.returns-in-Err
returns-in-Err c =
    takes_nowhere c.args.self.now c.args.process (context_of c.args.context.now) (side_of c.args.side) c.args.channel
    c.args.buffer _ c.in-Err.broken (sym c.in-Err.ensures.checks)

pub returns-in_err-number : goal.returns-in_err-number
returns-in_err-number c =
    let p = err_from_is_err_and c.from_residual.result c.from_residual.ensures.1 in
    rw (p.1, p.2)
    (unmade (takes_half (node_site c.args.self.now) (name_at c.args.self.now c.args.process)
    (context_of c.args.context.now) (side_of c.args.side) c.args.channel c.args.buffer) nothing (λ (n : ℕ). tt)
    c.args.self.now
    c.channel_at.new.self c.in_err-number.field-0.0 c.in_err-number.ensures.done)

pub returns-in_default : goal.returns-in_default
returns-in_default c =
    let b = c.channel_at.new.self in
    takes_taken c.args.self.now c.args.process (context_of c.args.context.now) (side_of c.args.side) c.args.channel
    c.args.buffer _ _ (sym c.in-Ok.ensures.checks) c.requires b c.in_ok-number.ensures.done c.in_ok-number.number
    c.in_ok-number.ensures.there.1 _ c.half.new.self c.half.ensures.looks
    (asks_some (names b) c.half.result c.in_default.not-Nobody)

pub returns-in_err-marks_channel : goal.returns-in_err-marks_channel
returns-in_err-marks_channel c =
    let b = c.channel_at.new.self in
    let p = err_from_is_err_and c.from_residual-in_err-marks_channel.result
    c.from_residual-in_err-marks_channel.ensures.1 in
    rw (p.1, p.2)
    (takes_so c.args.self.now c.args.process (context_of c.args.context.now) (side_of c.args.side) c.args.channel
    c.args.buffer _ _ (sym c.in-Ok.ensures.checks) c.requires b c.in_ok-number.ensures.done c.in_ok-number.number
    c.in_ok-number.ensures.there.1 _ c.half.new.self c.half.ensures.looks c.set_half.new.self c.marks_channel.new.self
    (Err (fault.Stops c.in_err-marks_channel.field-0.0))
    (asks_none (names b) c.half.result c.in-Nobody.is) c.in_ok-number.ensures.there.0
    c.set_half.ensures.sets c.in_err-marks_channel.ensures)

pub returns : goal.returns
returns c =
    let b = c.channel_at.new.self in
    takes_so c.args.self.now c.args.process (context_of c.args.context.now) (side_of c.args.side) c.args.channel
    c.args.buffer _ _ (sym c.in-Ok.ensures.checks) c.requires b c.in_ok-number.ensures.done c.in_ok-number.number
    c.in_ok-number.ensures.there.1 _ c.half.new.self c.half.ensures.looks c.set_half.new.self c.marks_channel.new.self
    (Ok tt)
    (asks_none (names b) c.half.result c.in-Nobody.is) c.in_ok-number.ensures.there.0
    c.set_half.ensures.sets c.in_ok-marks_channel.ensures
