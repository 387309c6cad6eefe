use Rattle.std.proofs.Common.{ℕ, sym, ap, ◌∙◌, not, Ok, Err}
use Rattle.std.proofs.lemmas.Result.{err_from_is_err_and}
use Rattle.tproc.specs.declared.channels.Side.TheVariants.{Output}
use Rattle.tprocesses.specs.Choosing.{is_taken, requires_silence}
use Rattle.tprocesses.specs.Parts.{SeveralReady, require}
use Rattle.tprocesses.specs.Values.{half_in}
use Rattle.tcertify.specs.declared.fault.Fault.TheVariants as fault
use Rattle.tcertify.specs.declared.stop.Stop.TheVariants as stop
use Rattle.tcertify.specs.Channels.{holder_of}
use Rattle.tcertify.specs.Nodes.{names, node_site, nothing}
use Rattle.tcertify.proofs.Alternatives.{half_then}
use Rattle.tcertify.proofs.Choices.{refused, required}
use Rattle.tcertify.proofs.Messages.{unmade}
use Rattle.tcertify.proofs.node.Node.requires_silence.Goals as goal

pub returns-in_err-number-clause-done : goal.returns-in_err-number-clause-done
returns-in_err-number-clause-done c =
    let p = err_from_is_err_and c.from_residual.result c.from_residual.ensures.1 in
    rw (p.1, p.2)
    (unmade (requires_silence (node_site c.args.self.now) c.args.channel) nothing (λ (n : ℕ). tt) c.args.self.now
    c.channel_at.new.self c.in_err-number.field-0.0 c.in_err-number.ensures.done)

pub returns-then-is_taken-clause-done : goal.returns-then-is_taken-clause-done
returns-then-is_taken-clause-done c =
    let a = c.args.self.now in let b = c.channel_at.new.self in let d = c.half-output.new.self in
    let h = holder_of (names b) c.half-output.result in
    half_then a b d c.in_ok-number.number c.args.channel Output h c.in_ok-number.ensures.done
    c.in_ok-number.ensures.there.1 c.half-output.ensures.looks
    (λ s v. require (not (is_taken (half_in v))) SeveralReady) d (Err (fault.Stops stop.SeveralReady))
    (refused (not (is_taken h)) SeveralReady d (ap not (sym (c.is_taken.ensures (names b)) ∙ c.if-is_taken.true)))

pub returns-clause-done : goal.returns-clause-done
returns-clause-done c =
    let a = c.args.self.now in let b = c.channel_at.new.self in let d = c.half-output.new.self in
    let h = holder_of (names b) c.half-output.result in
    half_then a b d c.in_ok-number.number c.args.channel Output h c.in_ok-number.ensures.done
    c.in_ok-number.ensures.there.1 c.half-output.ensures.looks
    (λ s v. require (not (is_taken (half_in v))) SeveralReady) d (Ok tt)
    (required (not (is_taken h)) SeveralReady d (ap not (sym (c.is_taken.ensures (names b)) ∙ c.if-is_taken.false)))
