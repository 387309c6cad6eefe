use Rattle.std.proofs.Common.{◌≡◌, ℕ, ◌∙◌, subst, Bool, Ok, Err}
use Rattle.std.proofs.lemmas.Result.{err_from_is_err_and}
use Rattle.tword.specs.Touches.{word_place_break}
use Rattle.tproc.specs.declared.channels.Side.TheVariants.{Input, Output}
use Rattle.tprocesses.specs.Choosing as spec
use Rattle.tprocesses.specs.Parts.{Part, see, unless, ◌>>=◌}
use Rattle.tprocesses.specs.Places.{Half, Name}
use Rattle.tprocesses.specs.Touching.{Site}
use Rattle.tprocesses.specs.Values as value
use Rattle.tprocesses.specs.Values.{IsHalf, Value, half_in}
use Rattle.tcertify.specs.declared.fault.Fault.TheVariants as fault
use Rattle.tcertify.specs.Channels.{holder_of}
use Rattle.tcertify.specs.Nodes.{RunsAt, name_at, names, node_site}
use Rattle.tcertify.specs.Words.{reason_of}
use Rattle.tcertify.proofs.Alternatives.{holder_still, named_half_then}
use Rattle.tcertify.proofs.Following.{does_then, inside_still}
use Rattle.tcertify.proofs.Messages.{unmade}
use Rattle.tcertify.specs.Choosing.{gives_up}
use Rattle.tcertify.proofs.NodeRunning.{address_stays, grows_on, runs_at_stop}
use Rattle.tcertify.proofs.node.Node.disables.Goals as goal

-- what follows each part
abbrev ups : (channel : ℕ) → Site → Name → Bool → Part Bool
ups channel s x ready = gives_up s x channel ready

abbrev readies : (channel : ℕ) → Value → Site → Name → Value → Part Bool
readies channel input s x output =
    spec.readiness x (spec.is_taken (half_in output)) (half_in input) >>= ups channel s x

abbrev sees_output : (channel : ℕ) → Site → Name → Value → Part Bool
sees_output channel s x input = see (Half s.number channel Output) >>= readies channel input s x

abbrev looks : (channel : ℕ) → Site → Name → Unit {0} → Part Bool
looks channel s x _ = see (Half s.number channel Input) >>= sees_output channel s x

pub returns-in_err-word : goal.returns-in_err-word
returns-in_err-word c =
    let a = c.args.self.now in let k = c.args.process in let ch : ℕ = c.args.channel in
    let p = err_from_is_err_and c.from_residual.result c.from_residual.ensures.1 in
    rw (p.1, p.2)
    (runs_at_stop (unless (word_place_break (node_site a).size ch)) (looks ch (node_site a) (name_at a k)) a a
    (reason_of c.in_err-word.field-0.0) c.in_err-word.ensures.checks)

pub returns-in_err-number : goal.returns-in_err-number
returns-in_err-number c =
    let a = c.args.self.now in let k = c.args.process in let ch : ℕ = c.args.channel in
    let b = c.channel_at.new.self in
    let p = err_from_is_err_and c.from_residual-in_err-number.result c.from_residual-in_err-number.ensures.1 in
    rw (p.1, p.2)
    (does_then a a b k (unless (word_place_break (node_site a).size ch)) (looks ch) tt c.in_ok-word.ensures.checks
    c.requires (λ (t : Bool). t) (Err c.in_err-number.field-0.0)
    (unmade (looks ch (node_site a) (name_at a k) tt) (λ (t : Bool). t) (λ (n : ℕ). tt) a b c.in_err-number.field-0.0
    c.in_err-number.ensures.done))

pub gives_up-requires-clause-at : goal.gives_up-requires-clause-at
gives_up-requires-clause-at c =
    let b = c.channel_at.new.self in let d = c.half-input.new.self in let e = c.half-output.new.self in
    let there = c.in_ok-number.ensures.there in
    address_stays b e c.in_ok-number.number
    (grows_on b d e c.half-input.ensures.looks.grows c.half-output.ensures.looks.grows) there.0 ∙ there.1

pub returns-in_err-ready : goal.returns-in_err-ready
returns-in_err-ready c =
    let a = c.args.self.now in let k = c.args.process in let ch : ℕ = c.args.channel in
    let b = c.channel_at.new.self in let d = c.half-input.new.self in let e = c.half-output.new.self in
    let j = c.in_ok-number.number in let there = c.in_ok-number.ensures.there in
    let hi = holder_of (names b) c.half-input.result in let ho = holder_of (names d) c.half-output.result in
    let in_d = inside_still b d k c.half-input.ensures.looks.grows
    (inside_still a b k c.in_ok-number.ensures.done.grows c.requires) in
    let in_e = inside_still d e k c.half-output.ensures.looks.grows in_d in
    let at = address_stays b d j c.half-input.ensures.looks.grows there.0 ∙ there.1 in
    let second = subst (λ (p : ℕ). RunsAt (see (Half (node_site d).number p Output)) d (Ok (IsHalf ho)) e) at
    c.half-output.ensures.looks in
    let same : holder_of (names e) c.half-input.result ≡ hi =
    holder_still b e c.half-input.result
    (grows_on b d e c.half-input.ensures.looks.grows c.half-output.ensures.looks.grows) c.half-input.ensures.known in
    let why = c.in_err-ready.field-0.0 in
    let p = err_from_is_err_and c.from_residual-in_err-ready.result c.from_residual-in_err-ready.ensures.1 in
    rw (p.1, p.2)
    (does_then a a e k (unless (word_place_break (node_site a).size ch)) (looks ch) tt c.in_ok-word.ensures.checks
    c.requires (λ (t : Bool). t) (Err (fault.Stops why))
    (named_half_then a b d j ch Input hi c.in_ok-number.ensures.done there.1
    c.half-input.ensures.looks k c.requires (sees_output ch) (λ (t : Bool). t) e (Err (fault.Stops why))
    (does_then d e e k (see (Half (node_site d).number ch Output)) (readies ch (IsHalf hi)) (IsHalf ho) second in_d
    (λ (t : Bool). t) (Err (fault.Stops why))
    (runs_at_stop (spec.readiness (name_at e k) (spec.is_taken ho) hi) (ups ch (node_site e) (name_at e k)) e e
    (reason_of why)
    (subst (λ (t : Bool). RunsAt (spec.readiness (name_at e k) t hi) e (Err (reason_of why)) e)
    (c.is_taken.ensures (names d))
    (subst (λ (g : value.Holder). RunsAt (spec.readiness (name_at e k) c.is_taken.result g) e (Err (reason_of why)) e)
    same
    c.in_err-ready.ensures))))))

pub returns-in_err-gives_up : goal.returns-in_err-gives_up
returns-in_err-gives_up c =
    let a = c.args.self.now in let k = c.args.process in let ch : ℕ = c.args.channel in
    let b = c.channel_at.new.self in let d = c.half-input.new.self in let e = c.half-output.new.self in
    let j = c.in_ok-number.number in let there = c.in_ok-number.ensures.there in
    let hi = holder_of (names b) c.half-input.result in let ho = holder_of (names d) c.half-output.result in
    let in_d = inside_still b d k c.half-input.ensures.looks.grows
    (inside_still a b k c.in_ok-number.ensures.done.grows c.requires) in
    let in_e = inside_still d e k c.half-output.ensures.looks.grows in_d in
    let at = address_stays b d j c.half-input.ensures.looks.grows there.0 ∙ there.1 in
    let second = subst (λ (p : ℕ). RunsAt (see (Half (node_site d).number p Output)) d (Ok (IsHalf ho)) e) at
    c.half-output.ensures.looks in
    let same : holder_of (names e) c.half-input.result ≡ hi =
    holder_still b e c.half-input.result
    (grows_on b d e c.half-input.ensures.looks.grows c.half-output.ensures.looks.grows) c.half-input.ensures.known in
    let g = c.gives_up.new.self in let why = c.in_err-gives_up.field-0.0 in let ready = c.in_ok-ready.ready in
    let p = err_from_is_err_and c.from_residual-in_err-gives_up.result c.from_residual-in_err-gives_up.ensures.1 in
    rw (p.1, p.2)
    (does_then a a g k (unless (word_place_break (node_site a).size ch)) (looks ch) tt c.in_ok-word.ensures.checks
    c.requires (λ (t : Bool). t) (Err (fault.Stops why))
    (named_half_then a b d j ch Input hi c.in_ok-number.ensures.done there.1
    c.half-input.ensures.looks k c.requires (sees_output ch) (λ (t : Bool). t) g (Err (fault.Stops why))
    (does_then d e g k (see (Half (node_site d).number ch Output)) (readies ch (IsHalf hi)) (IsHalf ho) second in_d
    (λ (t : Bool). t) (Err (fault.Stops why))
    (does_then e e g k (spec.readiness (name_at e k) (spec.is_taken ho) hi) (ups ch) ready
    (subst (λ (t : Bool). RunsAt (spec.readiness (name_at e k) t hi) e (Ok ready) e) (c.is_taken.ensures (names d))
    (subst (λ (g : value.Holder). RunsAt (spec.readiness (name_at e k) c.is_taken.result g) e (Ok ready) e) same
    c.in_ok-ready.ensures)) in_e (λ (t : Bool). t) (Err (fault.Stops why))
    c.in_err-gives_up.ensures))))

pub returns : goal.returns
returns c =
    let a = c.args.self.now in let k = c.args.process in let ch : ℕ = c.args.channel in
    let b = c.channel_at.new.self in let d = c.half-input.new.self in let e = c.half-output.new.self in
    let j = c.in_ok-number.number in let there = c.in_ok-number.ensures.there in
    let hi = holder_of (names b) c.half-input.result in let ho = holder_of (names d) c.half-output.result in
    let in_d = inside_still b d k c.half-input.ensures.looks.grows
    (inside_still a b k c.in_ok-number.ensures.done.grows c.requires) in
    let in_e = inside_still d e k c.half-output.ensures.looks.grows in_d in
    let at = address_stays b d j c.half-input.ensures.looks.grows there.0 ∙ there.1 in
    let second = subst (λ (p : ℕ). RunsAt (see (Half (node_site d).number p Output)) d (Ok (IsHalf ho)) e) at
    c.half-output.ensures.looks in
    let same : holder_of (names e) c.half-input.result ≡ hi =
    holder_still b e c.half-input.result
    (grows_on b d e c.half-input.ensures.looks.grows c.half-output.ensures.looks.grows) c.half-input.ensures.known in
    let g = c.gives_up.new.self in let left = c.in_ok-gives_up.field-0 in let ready = c.in_ok-ready.ready in
    (does_then a a g k (unless (word_place_break (node_site a).size ch)) (looks ch) tt c.in_ok-word.ensures.checks
    c.requires (λ (t : Bool). t) (Ok left)
    (named_half_then a b d j ch Input hi c.in_ok-number.ensures.done there.1
    c.half-input.ensures.looks k c.requires (sees_output ch) (λ (t : Bool). t) g (Ok left)
    (does_then d e g k (see (Half (node_site d).number ch Output)) (readies ch (IsHalf hi)) (IsHalf ho) second in_d
    (λ (t : Bool). t) (Ok left)
    (does_then e e g k (spec.readiness (name_at e k) (spec.is_taken ho) hi) (ups ch) ready
    (subst (λ (t : Bool). RunsAt (spec.readiness (name_at e k) t hi) e (Ok ready) e) (c.is_taken.ensures (names d))
    (subst (λ (g : value.Holder). RunsAt (spec.readiness (name_at e k) c.is_taken.result g) e (Ok ready) e) same
    c.in_ok-ready.ensures)) in_e (λ (t : Bool). t) (Ok left)
    c.in_ok-gives_up.ensures))))
