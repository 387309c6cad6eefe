use Rattle.std.proofs.Common.{◌≡◌, ℕ, ◌∙◌, subst, Ok, Err}
use Rattle.std.proofs.lemmas.Result.{err_from_is_err_and}
use Rattle.tword.specs.Touches.{word_place_break}
use Rattle.tproc.specs.declared.channels.Side.TheVariants.{Input}
use Rattle.tprocesses.specs.Choosing as spec
use Rattle.tprocesses.specs.Parts.{Doing, see, unless, ◌>>=◌}
use Rattle.tprocesses.specs.Places.{Half, Name}
use Rattle.tprocesses.specs.Touching.{Site}
use Rattle.tprocesses.specs.Values as value
use Rattle.tprocesses.specs.Values.{IsHalf, Value, half_in}
use Rattle.tcertify.specs.declared.fault.Fault.TheVariants as fault
use Rattle.tcertify.specs.Channels.{holder_of}
use Rattle.tcertify.specs.Nodes.{RunsAt, name_at, names, node_site, nothing}
use Rattle.tcertify.specs.Words.{reason_of}
use Rattle.tcertify.proofs.Alternatives.{holder_still, named_half_then}
use Rattle.tcertify.proofs.Following.{does_then, inside_still}
use Rattle.tcertify.proofs.Messages.{unmade}
use Rattle.tcertify.proofs.NodeRunning.{address_stays, runs_at_stop}
use Rattle.tcertify.proofs.node.Node.enables.Goals as goal

-- what follows each part
abbrev adds : (channel : ℕ) → Site → Name → Unit {0} → Doing
adds channel s x _ = spec.changes_ports x (spec.with_port channel)

abbrev holds : (channel : ℕ) → Site → Name → Value → Doing
holds channel s x v = spec.enables_held s x channel (half_in v) >>= adds channel s x

abbrev looks : (channel : ℕ) → Site → Name → Unit {0} → Doing
looks channel s x _ = see (Half s.number channel Input) >>= holds channel s x

pub returns-in_err-word : goal.returns-in_err-word
returns-in_err-word c =
    let a = c.args.self.now in let k = c.args.process in let ch : ℕ = c.args.channel in
    let p = err_from_is_err_and c.from_residual.result c.from_residual.ensures.1 in
    rw (p.1, p.2)
    (runs_at_stop (unless (word_place_break (node_site a).size ch)) (looks ch (node_site a) (name_at a k)) a a
    (reason_of c.in_err-word.field-0.0) c.in_err-word.ensures.checks)

pub returns-in_err-number : goal.returns-in_err-number
returns-in_err-number c =
    let a = c.args.self.now in let k = c.args.process in let ch : ℕ = c.args.channel in
    let b = c.channel_at.new.self in
    let p = err_from_is_err_and c.from_residual-in_err-number.result c.from_residual-in_err-number.ensures.1 in
    rw (p.1, p.2)
    (does_then a a b k (unless (word_place_break (node_site a).size ch)) (looks ch) tt c.in_ok-word.ensures.checks
    c.requires nothing (Err c.in_err-number.field-0.0)
    (unmade (looks ch (node_site a) (name_at a k) tt) nothing (λ (n : ℕ). tt) a b c.in_err-number.field-0.0
    c.in_err-number.ensures.done))

pub enables_held-requires-clause-at : goal.enables_held-requires-clause-at
enables_held-requires-clause-at c =
    let b = c.channel_at.new.self in let d = c.half-holder.new.self in let there = c.in_ok-number.ensures.there in
    address_stays b d c.in_ok-number.number c.half-holder.ensures.looks.grows there.0 ∙ there.1

pub returns-in_err-enables_held : goal.returns-in_err-enables_held
returns-in_err-enables_held c =
    let a = c.args.self.now in let k = c.args.process in let ch : ℕ = c.args.channel in
    let b = c.channel_at.new.self in let d = c.half-holder.new.self in let j = c.in_ok-number.number in
    let h = holder_of (names b) c.half-holder.result in
    let in_d = inside_still b d k c.half-holder.ensures.looks.grows
    (inside_still a b k c.in_ok-number.ensures.done.grows c.requires) in
    let same : holder_of (names d) c.half-holder.result ≡ h =
    holder_still b d c.half-holder.result c.half-holder.ensures.looks.grows c.half-holder.ensures.known in
    let e = c.enables_held.new.self in let why = c.in_err-enables_held.field-0.0 in
    let p =
    err_from_is_err_and c.from_residual-in_err-enables_held.result c.from_residual-in_err-enables_held.ensures.1 in
    rw (p.1, p.2)
    (does_then a a e k (unless (word_place_break (node_site a).size ch)) (looks ch) tt c.in_ok-word.ensures.checks
    c.requires nothing (Err (fault.Stops why))
    (named_half_then a b d j ch Input h c.in_ok-number.ensures.done c.in_ok-number.ensures.there.1
    c.half-holder.ensures.looks k c.requires (holds ch) nothing e (Err (fault.Stops why))
    (runs_at_stop (spec.enables_held (node_site d) (name_at d k) ch h) (adds ch (node_site d) (name_at d k)) d e
    (reason_of why)
    (subst (λ (g : value.Holder). RunsAt (spec.enables_held (node_site d) (name_at d k) ch g) d (Err (reason_of why)) e)
    same c.in_err-enables_held.ensures))))

pub returns : goal.returns
returns c =
    let a = c.args.self.now in let k = c.args.process in let ch : ℕ = c.args.channel in
    let b = c.channel_at.new.self in let d = c.half-holder.new.self in let j = c.in_ok-number.number in
    let h = holder_of (names b) c.half-holder.result in
    let in_d = inside_still b d k c.half-holder.ensures.looks.grows
    (inside_still a b k c.in_ok-number.ensures.done.grows c.requires) in
    let same : holder_of (names d) c.half-holder.result ≡ h =
    holder_still b d c.half-holder.result c.half-holder.ensures.looks.grows c.half-holder.ensures.known in
    let e = c.enables_held.new.self in let g = c.adds_port.new.self in
    does_then a a g k (unless (word_place_break (node_site a).size ch)) (looks ch) tt c.in_ok-word.ensures.checks
    c.requires nothing c.adds_port.result
    (named_half_then a b d j ch Input h c.in_ok-number.ensures.done c.in_ok-number.ensures.there.1
    c.half-holder.ensures.looks k c.requires (holds ch) nothing g c.adds_port.result
    (does_then d e g k (spec.enables_held (node_site d) (name_at d k) ch h) (adds ch) tt
    (subst (λ (i : value.Holder). RunsAt (spec.enables_held (node_site d) (name_at d k) ch i) d (Ok tt) e) same
    c.in_ok-enables_held.ensures) in_d nothing c.adds_port.result c.adds_port.ensures))
