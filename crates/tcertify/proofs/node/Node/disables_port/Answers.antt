use Rattle.std.proofs.Common.{◌∙◌, ℕ, sym, Err}
use Rattle.std.specs.Prelude.{if◌then◌else◌}
use Rattle.std.proofs.lemmas.Result.{err_from_is_err_and}
use Rattle.tproc.specs.LinkChannels.{is_link}
use Rattle.tprocesses.specs.Choosing as spec
use Rattle.tprocesses.specs.Parts.{Doing, WordInUse, require, ◌>>=◌}
use Rattle.tprocesses.specs.Places.{Name}
use Rattle.tprocesses.specs.Standing.{known}
use Rattle.tprocesses.specs.Touching.{Site}
use Rattle.tprocesses.specs.Values.{Context}
use Rattle.tcertify.specs.Contexts.{context_of}
use Rattle.tcertify.specs.Nodes.{name_at, node_site, nothing}
use Rattle.tcertify.specs.Words.{reason_of}
use Rattle.tcertify.proofs.Choices.{does_first, does_second}
use Rattle.tcertify.proofs.Following.{does_then, runs_then}
use Rattle.tcertify.proofs.NodeRunning.{runs_at_stop}
use Rattle.tcertify.proofs.node.Node.disables_port.Goals as goal

-- what follows each part
abbrev disables : Context → Site → Name → ℕ → Doing
disables ctx s x channel =
    if is_link channel then spec.disables_link s x ctx channel else spec.disables_internal s x ctx channel

abbrev sees : Context → Site → Name → Unit {0} → Doing
sees ctx s x _ = known ctx.c >>= disables ctx s x

pub returns-in_err-need_not_wait : goal.returns-in_err-need_not_wait
returns-in_err-need_not_wait c =
    let a = c.args.self.now in let k = c.args.process in let ctx = context_of c.args.context.now in
    let p = err_from_is_err_and c.from_residual.result c.from_residual.ensures.1 in
    rw (p.1, p.2)
    (runs_at_stop (require c.args.choice.skips WordInUse) (sees ctx (node_site a) (name_at a k)) a a
    (reason_of c.in_err-need_not_wait.field-0.0) (c.in_err-need_not_wait.ensures a))

pub returns-in_err-channel : goal.returns-in_err-channel
returns-in_err-channel c =
    let a = c.args.self.now in let k = c.args.process in let ctx = context_of c.args.context.now in
    let p = err_from_is_err_and c.from_residual-in_err-channel.result c.from_residual-in_err-channel.ensures.1 in
    rw (p.1, p.2)
    (runs_then a a a k (require c.args.choice.skips WordInUse) (sees ctx) tt (c.in_ok-need_not_wait.ensures a)
    c.requires (Err (reason_of c.in_err-channel.field-0.0))
    (runs_at_stop (known ctx.c) (disables ctx (node_site a) (name_at a k)) a a (reason_of c.in_err-channel.field-0.0)
    (c.in_err-channel.ensures a)))

pub returns-then-is_link : goal.returns-then-is_link
returns-then-is_link c =
    let a = c.args.self.now in let k = c.args.process in let ctx = context_of c.args.context.now in
    let ch = c.in_ok-channel.channel in let b = c.disables_link.new.self in let s = node_site a in
    let x = name_at a k in
    does_then a a b k (require c.args.choice.skips WordInUse) (sees ctx) tt (c.in_ok-need_not_wait.ensures a) c.requires
    nothing c.disables_link.result
    (does_then a a b k (known ctx.c) (disables ctx) ch (c.in_ok-channel.ensures a) c.requires nothing
    c.disables_link.result
    (does_first (spec.disables_link s x ctx ch) (spec.disables_internal s x ctx ch) (is_link ch) a b
    c.disables_link.result (sym c.is_link.ensures ∙ c.if-is_link.true) c.disables_link.ensures))

pub returns : goal.returns
returns c =
    let a = c.args.self.now in let k = c.args.process in let ctx = context_of c.args.context.now in
    let ch = c.in_ok-channel.channel in let b = c.disables_internal.new.self in let s = node_site a in
    let x = name_at a k in
    does_then a a b k (require c.args.choice.skips WordInUse) (sees ctx) tt (c.in_ok-need_not_wait.ensures a) c.requires
    nothing c.disables_internal.result
    (does_then a a b k (known ctx.c) (disables ctx) ch (c.in_ok-channel.ensures a) c.requires nothing
    c.disables_internal.result
    (does_second (spec.disables_link s x ctx ch) (spec.disables_internal s x ctx ch) (is_link ch) a b
    c.disables_internal.result (sym c.is_link.ensures ∙ c.if-is_link.false) c.disables_internal.ensures))
