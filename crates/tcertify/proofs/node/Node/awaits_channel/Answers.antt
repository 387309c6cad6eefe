use Rattle.std.proofs.Common.{ℕ, ap, ◌∙◌, subst, Ok, Err}
use Rattle.std.proofs.lemmas.Result.{err_from_is_err_and}
use Rattle.tword.specs.declared.breaks.Break.TheVariants.{ChannelMisuse}
use Rattle.tproc.specs.declared.channels.Side.TheVariants.{Input}
use Rattle.tprocesses.specs.Changes.{Put}
use Rattle.tprocesses.specs.Choosing.{awaits_channel, is_enabled_by}
use Rattle.tprocesses.specs.Parts.{Breaks, Doing, change, require, ◌>>◌}
use Rattle.tprocesses.specs.Places.{Half, Name}
use Rattle.tprocesses.specs.Touching.{Site}
use Rattle.tprocesses.specs.Values.{AwaitedBy, IsHalf, Value, half_in}
use Rattle.tcertify.specs.declared.channel.Holder.{Holder}
use Rattle.tcertify.specs.declared.fault.Fault.TheVariants as fault
use Rattle.tcertify.specs.declared.stop.Stop.TheVariants as stop
use Rattle.tcertify.specs.Channels.{holder_of, process_in}
use Rattle.tcertify.specs.Nodes.{RunsAt, name_at, names, node_site, nothing}
use Rattle.tcertify.proofs.Alternatives.{named_half_then, named_other, named_same, not_enabled}
use Rattle.tcertify.proofs.Choices.{refused, required}
use Rattle.tcertify.proofs.Following.{inside_still}
use Rattle.tcertify.proofs.Messages.{unmade}
use Rattle.tcertify.proofs.NodeRunning.{address_stays, runs_at_on, runs_at_stop}
use Rattle.tcertify.proofs.node.Node.awaits_channel.Goals as goal

-- what follows the look, by whether the process has enabled the channel
abbrev puts_half : (channel : ℕ) → Site → Name → Doing
puts_half channel s x = change (Half s.number channel Input) (Put (IsHalf (AwaitedBy x)))

abbrev checks_half : (channel : ℕ) → Site → Name → Value → Doing
checks_half channel s x v =
    require (is_enabled_by x (half_in v)) (Breaks ChannelMisuse) >> puts_half channel s x

pub returns-in_err-number-clause-done : goal.returns-in_err-number-clause-done
returns-in_err-number-clause-done c =
    let a = c.args.self.now in
    let p = err_from_is_err_and c.from_residual.result c.from_residual.ensures.1 in
    rw (p.1, p.2)
    (unmade (awaits_channel (node_site a) (name_at a c.args.process) c.args.channel) nothing (λ (n : ℕ). tt) a
    c.channel_at.new.self c.in_err-number.field-0.0 c.in_err-number.ensures.done)

pub returns-in_default-clause-done : goal.returns-in_default-clause-done
returns-in_default-clause-done c =
    let a = c.args.self.now in let b = c.channel_at.new.self in let d = c.half.new.self in let k = c.args.process in
    let h = holder_of (names b) c.half.result in
    named_half_then a b d c.in_ok-number.number c.args.channel Input h c.in_ok-number.ensures.done
    c.in_ok-number.ensures.there.1 c.half.ensures.looks k c.requires (checks_half c.args.channel) nothing d
    (Err (fault.Stops (stop.Breaks ChannelMisuse)))
    (runs_at_stop (require (is_enabled_by (name_at d k) h) (Breaks ChannelMisuse))
    (λ _. puts_half c.args.channel (node_site d) (name_at d k)) d d (Breaks ChannelMisuse)
    (refused (is_enabled_by (name_at d k) h) (Breaks ChannelMisuse) d
    (not_enabled (name_at d k) (names b) c.half.result c.in_default.not-Enabled)))

pub returns-then-other-process-clause-done : goal.returns-then-other-process-clause-done
returns-then-other-process-clause-done c =
    let a = c.args.self.now in let b = c.channel_at.new.self in let d = c.half.new.self in let k = c.args.process in
    let h = holder_of (names b) c.half.result in let j = c.in-Enabled.other in
    let in_k = inside_still a b k c.in_ok-number.ensures.done.grows c.requires in
    named_half_then a b d c.in_ok-number.number c.args.channel Input h c.in_ok-number.ensures.done
    c.in_ok-number.ensures.there.1 c.half.ensures.looks k c.requires (checks_half c.args.channel) nothing d
    (Err (fault.Stops (stop.Breaks ChannelMisuse)))
    (runs_at_stop (require (is_enabled_by (name_at d k) h) (Breaks ChannelMisuse))
    (λ _. puts_half c.args.channel (node_site d) (name_at d k)) d d (Breaks ChannelMisuse)
    (refused (is_enabled_by (name_at d k) h) (Breaks ChannelMisuse) d
    (ap (λ (i : Holder). is_enabled_by (name_at d k) (holder_of (names b) i)) c.in-Enabled.is
    ∙ named_other b d c.half.ensures.looks.grows j k in_k (c.half.ensures.known j (ap process_in c.in-Enabled.is))
    c.if-other-process.true)))

pub returns-clause-done : goal.returns-clause-done
returns-clause-done c =
    let a = c.args.self.now in let b = c.channel_at.new.self in let d = c.half.new.self in let k = c.args.process in
    let h = holder_of (names b) c.half.result in let j = c.in-Enabled.other in
    let in_k = inside_still a b k c.in_ok-number.ensures.done.grows c.requires in
    let at = address_stays b d c.in_ok-number.number c.half.ensures.looks.grows c.in_ok-number.ensures.there.0
    ∙ c.in_ok-number.ensures.there.1 in
    named_half_then a b d c.in_ok-number.number c.args.channel Input h c.in_ok-number.ensures.done
    c.in_ok-number.ensures.there.1 c.half.ensures.looks k c.requires (checks_half c.args.channel) nothing
    c.set_half.new.self (Ok tt)
    (runs_at_on (require (is_enabled_by (name_at d k) h) (Breaks ChannelMisuse))
    (λ _. puts_half c.args.channel (node_site d) (name_at d k)) d d c.set_half.new.self tt (Ok tt)
    (required (is_enabled_by (name_at d k) h) (Breaks ChannelMisuse) d
    (ap (λ (i : Holder). is_enabled_by (name_at d k) (holder_of (names b) i)) c.in-Enabled.is
    ∙ named_same b d c.half.ensures.looks.grows j k in_k c.if-other-process.false))
    (subst (λ (w : ℕ). RunsAt (puts_half w (node_site d) (name_at d k)) d (Ok tt) c.set_half.new.self) at
    c.set_half.ensures.sets))
