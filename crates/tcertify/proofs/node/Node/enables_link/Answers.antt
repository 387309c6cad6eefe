use Rattle.std.proofs.Common.{◌≡◌, ◌<◌, ℕ, subst, length, Ok, Err}
use Rattle.std.proofs.lemmas.Result.{err_from_is_err_and}
use Rattle.tprocesses.specs.Choosing as spec
use Rattle.tprocesses.specs.Parts.{Doing, see, ◌>>=◌}
use Rattle.tprocesses.specs.Places.{Name}
use Rattle.tprocesses.specs.Touching.{Site}
use Rattle.tprocesses.specs.Values as value
use Rattle.tprocesses.specs.Values.{IsLink, Value, link_in}
use Rattle.tcertify.specs.Channels.{link_of}
use Rattle.tcertify.specs.Nodes.{RunsAt, name_at, names, node_site, nothing}
use Rattle.tcertify.specs.Words.{reason_of}
use Rattle.tcertify.proofs.Following.{does_then, inside_still, runs_then}
use Rattle.tcertify.proofs.LinkChoices.{link_still}
use Rattle.tcertify.proofs.NodeRunning.{runs_at_stop}
use Rattle.tcertify.proofs.node.Node.enables_link.Goals as goal

-- what follows each part
abbrev adds : (channel : ℕ) → Site → Name → Unit {0} → Doing
adds channel s x _ = spec.changes_ports x (spec.with_port channel)

abbrev holds : (channel : ℕ) → Site → Name → Value → Doing
holds channel s x v = spec.enables_pending s x channel (link_in v) >>= adds channel s x

abbrev looks : (channel : ℕ) → Site → Name → Unit {0} → Doing
looks channel s x _ = see (spec.input_of s channel) >>= holds channel s x

pub returns-in_err-is_input : goal.returns-in_err-is_input
returns-in_err-is_input c =
    let a = c.args.self.now in let k = c.args.process in let ch : ℕ = c.args.channel in
    let p = err_from_is_err_and c.from_residual.result c.from_residual.ensures.1 in
    rw (p.1, p.2)
    (runs_at_stop (spec.is_input ch) (looks ch (node_site a) (name_at a k)) a a (reason_of c.in_err-is_input.field-0.0)
    (c.in_err-is_input.ensures a))

pub returns-in_err-enables_pending : goal.returns-in_err-enables_pending
returns-in_err-enables_pending c =
    let a = c.args.self.now in let k = c.args.process in let ch : ℕ = c.args.channel in
    let b = c.sees_input-half.new.self in let d = c.enables_pending.new.self in
    let x = c.sees_input-half.result in let h = link_of (names a) x in
    let in_a : k < length a.processes.items.items = c.requires.there in
    let same : link_of (names b) x ≡ h =
    link_still a b x c.sees_input-half.ensures.looks.grows c.sees_input-half.ensures.known in
    let why = reason_of c.in_err-enables_pending.field-0.0 in
    let p =
    err_from_is_err_and c.from_residual-in_err-enables_pending.result c.from_residual-in_err-enables_pending.ensures.1
    in
    rw (p.1, p.2)
    (runs_then a a d k (spec.is_input ch) (looks ch) tt (c.in_ok-is_input.ensures a) in_a (Err why)
    (runs_then a b d k (see (spec.input_of (node_site a) ch)) (holds ch) (IsLink h) c.sees_input-half.ensures.looks
    in_a (Err why)
    (runs_at_stop (spec.enables_pending (node_site b) (name_at b k) ch h) (adds ch (node_site b) (name_at b k)) b d why
    (subst (λ (l : value.Link). RunsAt (spec.enables_pending (node_site b) (name_at b k) ch l) b (Err why) d) same
    c.in_err-enables_pending.ensures))))

pub returns : goal.returns
returns c =
    let a = c.args.self.now in let k = c.args.process in let ch : ℕ = c.args.channel in
    let b = c.sees_input-half.new.self in let d = c.enables_pending.new.self in let e = c.adds_port.new.self in
    let x = c.sees_input-half.result in let h = link_of (names a) x in
    let in_a : k < length a.processes.items.items = c.requires.there in
    let in_b = inside_still a b k c.sees_input-half.ensures.looks.grows in_a in
    let same : link_of (names b) x ≡ h =
    link_still a b x c.sees_input-half.ensures.looks.grows c.sees_input-half.ensures.known in
    does_then a a e k (spec.is_input ch) (looks ch) tt (c.in_ok-is_input.ensures a) in_a nothing c.adds_port.result
    (does_then a b e k (see (spec.input_of (node_site a) ch)) (holds ch) (IsLink h) c.sees_input-half.ensures.looks
    in_a nothing c.adds_port.result
    (does_then b d e k (spec.enables_pending (node_site b) (name_at b k) ch h) (adds ch) tt
    (subst (λ (l : value.Link). RunsAt (spec.enables_pending (node_site b) (name_at b k) ch l) b (Ok tt) d) same
    c.in_ok-enables_pending.ensures) in_b nothing c.adds_port.result c.adds_port.ensures))
