use Rattle.std.proofs.Common.{◌∙◌, ℕ, sym, ap, Ok, Err}
use Rattle.tprocesses.specs.Choosing as spec
use Rattle.tprocesses.specs.Parts.{Doing, HasNoStep, require, see, ◌>>=◌}
use Rattle.tprocesses.specs.Places.{Name}
use Rattle.tprocesses.specs.Standing.{goes_on}
use Rattle.tprocesses.specs.Touching.{Site}
use Rattle.tprocesses.specs.Values.{Context, IsLink, Value, link_in}
use Rattle.tcertify.specs.Channels.{link_of}
use Rattle.tcertify.specs.Contexts.{context_of}
use Rattle.tcertify.specs.Nodes.{name_at, names, node_site}
use Rattle.tcertify.proofs.Choices.{refused, required}
use Rattle.tcertify.proofs.Following.{inside_still, runs_then}
use Rattle.tcertify.proofs.LinkChoices.{link_still}
use Rattle.tcertify.proofs.NodeRunning.{runs_at_stop}
use Rattle.tcertify.proofs.node.Node.goes_on_unfired.Goals as goal

-- what follows each part
abbrev goes : Context → Site → Name → Unit {0} → Doing
goes ctx s x _ = goes_on x ctx

abbrev gives : Context → (channel : ℕ) → Site → Name → Unit {0} → Doing
gives ctx channel s x _ = spec.gives_up_link s x channel >>= goes ctx s x

abbrev asks : Context → (channel : ℕ) → Site → Name → Value → Doing
asks ctx channel s x v = require (spec.is_unfired_by x (link_in v)) HasNoStep >>= gives ctx channel s x

pub returns-then-not-is_unfired_by : goal.returns-then-not-is_unfired_by
returns-then-not-is_unfired_by c =
    let a = c.args.self.now in let k = c.args.process in let ch : ℕ = c.args.channel in
    let ctx = context_of c.args.context.now in
    let b = c.sees_input-half.new.self in let x = c.sees_input-half.result in let h = link_of (names a) x in
    let same = link_still a b x c.sees_input-half.ensures.looks.grows c.sees_input-half.ensures.known in
    runs_then a b b k (see (spec.input_of (node_site a) ch)) (asks ctx ch) (IsLink h) c.sees_input-half.ensures.looks
    c.requires (Err HasNoStep)
    (runs_at_stop (require (spec.is_unfired_by (name_at b k) h) HasNoStep) (gives ctx ch (node_site b) (name_at b k)) b
    b HasNoStep
    (refused (spec.is_unfired_by (name_at b k) h) HasNoStep b
    (ap (spec.is_unfired_by (name_at b k)) (sym same) ∙ sym c.is_unfired_by.ensures ∙ c.if-not-is_unfired_by.true)))

pub returns : goal.returns
returns c =
    let a = c.args.self.now in let k = c.args.process in let ch : ℕ = c.args.channel in
    let ctx = context_of c.args.context.now in
    let b = c.sees_input-half.new.self in let d = c.gives_up_link.new.self in let e = c.goes_on.new.self in
    let x = c.sees_input-half.result in let h = link_of (names a) x in
    let same = link_still a b x c.sees_input-half.ensures.looks.grows c.sees_input-half.ensures.known in
    let in_b = inside_still a b k c.sees_input-half.ensures.looks.grows c.requires in
    runs_then a b e k (see (spec.input_of (node_site a) ch)) (asks ctx ch) (IsLink h) c.sees_input-half.ensures.looks
    c.requires (Ok tt)
    (runs_then b b e k (require (spec.is_unfired_by (name_at b k) h) HasNoStep) (gives ctx ch) tt
    (required (spec.is_unfired_by (name_at b k) h) HasNoStep b
    (ap (spec.is_unfired_by (name_at b k)) (sym same) ∙ sym c.is_unfired_by.ensures ∙ c.if-not-is_unfired_by.false))
    in_b (Ok tt)
    (runs_then b d e k (spec.gives_up_link (node_site b) (name_at b k) ch) (goes ctx) tt c.gives_up_link.ensures in_b
    (Ok tt) c.goes_on.ensures))
