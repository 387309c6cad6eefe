use Rattle.std.proofs.Common.{ℕ, subst, Ok, Err}
use Rattle.std.proofs.lemmas.Result.{err_from_is_err_and}
use Rattle.tprocesses.specs.Choosing as spec
use Rattle.tprocesses.specs.Parts.{Doing, ◌>>=◌}
use Rattle.tprocesses.specs.Places.{Name}
use Rattle.tprocesses.specs.Standing.{goes_on, known}
use Rattle.tprocesses.specs.Touching.{Site}
use Rattle.tprocesses.specs.Values.{Context}
use Rattle.tcertify.specs.Choosing.{enables_any}
use Rattle.tcertify.specs.Contexts.{context_of}
use Rattle.tcertify.specs.Nodes.{RunsAt, name_at, node_site, nothing}
use Rattle.tcertify.specs.Words.{reason_of}
use Rattle.tcertify.proofs.Following.{does_then, runs_then}
use Rattle.tcertify.proofs.NodeRunning.{does_stop, runs_at_stop}
use Rattle.tcertify.proofs.node.Node.enables_port.Goals as goal

-- what follows each part
abbrev goes : Context → Site → Name → Unit {0} → Doing
goes ctx s x _ = goes_on x (spec.drop_channel ctx)

abbrev enables : Context → Site → Name → ℕ → Doing
enables ctx s x channel = enables_any s x channel >>= goes ctx s x

pub returns-in_err-channel : goal.returns-in_err-channel
returns-in_err-channel c =
    let a = c.args.self.now in let k = c.args.process in let ctx = context_of c.args.context.now in
    let p = err_from_is_err_and c.from_residual.result c.from_residual.ensures.1 in
    rw (p.1, p.2)
    (runs_at_stop (known ctx.b) (enables ctx (node_site a) (name_at a k)) a a (reason_of c.in_err-channel.field-0.0)
    (c.in_err-channel.ensures a))

pub returns-in_err-enables_any : goal.returns-in_err-enables_any
returns-in_err-enables_any c =
    let a = c.args.self.now in let k = c.args.process in let ctx = context_of c.args.context.now in
    let b = c.enables_any.new.self in let e = c.in_err-enables_any.field-0.0 in
    let p = err_from_is_err_and c.from_residual-in_err-enables_any.result c.from_residual-in_err-enables_any.ensures.1
    in
    rw (p.1, p.2)
    (does_then a a b k (known ctx.b) (enables ctx) (c.in_ok-channel.channel) (c.in_ok-channel.ensures a) c.requires
    nothing (Err e)
    (does_stop (enables_any (node_site a) (name_at a k) c.in_ok-channel.channel) (goes ctx (node_site a) (name_at a k))
    nothing nothing a b e c.in_err-enables_any.ensures))

pub returns : goal.returns
returns c =
    let a = c.args.self.now in let k = c.args.process in let ctx = context_of c.args.context.now in
    let b = c.enables_any.new.self in let d = c.goes_on.new.self in
    runs_then a a d k (known ctx.b) (enables ctx) (c.in_ok-channel.channel) (c.in_ok-channel.ensures a) c.requires
    (Ok tt)
    (runs_then a b d k (enables_any (node_site a) (name_at a k) c.in_ok-channel.channel) (goes ctx) tt
    c.in_ok-enables_any.ensures c.requires (Ok tt)
    (subst (λ (l : Context). RunsAt (goes_on (name_at b k) l) b (Ok tt) d) (c.drop_channel.ensures) c.goes_on.ensures))
