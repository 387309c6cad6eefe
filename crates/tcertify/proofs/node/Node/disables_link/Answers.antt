use Rattle.std.proofs.Common.{◌≡◌, ℕ, subst}
use Rattle.std.proofs.lemmas.Result.{err_from_is_err_and}
use Rattle.tprocesses.specs.Choosing as spec
use Rattle.tprocesses.specs.Parts.{Doing, see, ◌>>=◌}
use Rattle.tprocesses.specs.Places.{Name}
use Rattle.tprocesses.specs.Touching.{Site}
use Rattle.tprocesses.specs.Values as value
use Rattle.tprocesses.specs.Values.{Context, IsLink, Value, link_in}
use Rattle.tcertify.specs.Channels.{link_of}
use Rattle.tcertify.specs.Contexts.{context_of}
use Rattle.tcertify.specs.Nodes.{Does, name_at, names, node_site, nothing}
use Rattle.tcertify.specs.Words.{reason_of}
use Rattle.tcertify.proofs.Following.{does_then}
use Rattle.tcertify.proofs.LinkChoices.{link_still}
use Rattle.tcertify.proofs.NodeRunning.{runs_at_stop}
use Rattle.tcertify.proofs.node.Node.disables_link.Goals as goal

-- what follows each part
abbrev holds : Context → (channel : ℕ) → Site → Name → Value → Doing
holds ctx channel s x v = spec.disables_pending s x ctx channel (link_in v)

abbrev looks : Context → (channel : ℕ) → Site → Name → Unit {0} → Doing
looks ctx channel s x _ = see (spec.input_of s channel) >>= holds ctx channel s x

pub returns-in_err-is_input : goal.returns-in_err-is_input
returns-in_err-is_input c =
    let a = c.args.self.now in let k = c.args.process in let ch : ℕ = c.args.channel in
    let ctx = context_of c.args.context.now in
    let p = err_from_is_err_and c.from_residual.result c.from_residual.ensures.1 in
    rw (p.1, p.2)
    (runs_at_stop (spec.is_input ch) (looks ctx ch (node_site a) (name_at a k)) a a
    (reason_of c.in_err-is_input.field-0.0) (c.in_err-is_input.ensures a))

pub returns : goal.returns
returns c =
    let a = c.args.self.now in let k = c.args.process in let ch : ℕ = c.args.channel in
    let ctx = context_of c.args.context.now in
    let b = c.sees_input-half.new.self in let d = c.disables_pending.new.self in
    let x = c.sees_input-half.result in let h = link_of (names a) x in
    let same : link_of (names b) x ≡ h =
    link_still a b x c.sees_input-half.ensures.looks.grows c.sees_input-half.ensures.known in
    does_then a a d k (spec.is_input ch) (looks ctx ch) tt (c.in_ok-is_input.ensures a) c.requires.there nothing
    c.disables_pending.result
    (does_then a b d k (see (spec.input_of (node_site a) ch)) (holds ctx ch) (IsLink h)
    c.sees_input-half.ensures.looks c.requires.there nothing c.disables_pending.result
    (subst (λ (l : value.Link). Does (spec.disables_pending (node_site b) (name_at b k) ctx ch l) nothing b
    c.disables_pending.result d) same c.disables_pending.ensures))
