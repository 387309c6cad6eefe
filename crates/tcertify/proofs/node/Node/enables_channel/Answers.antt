use Rattle.std.proofs.Common.{◌<◌, ℕ, sym, ◌∙◌, subst, length, Ok, Err}
use Rattle.std.specs.Prelude.{◌==◌, if◌then◌else◌}
use Rattle.std.proofs.lemmas.Result.{err_from_is_err_and}
use Rattle.tprocesses.specs.Choosing as spec
use Rattle.tprocesses.specs.Parts.{Doing, ◌>>=◌}
use Rattle.tprocesses.specs.Places.{Name}
use Rattle.tprocesses.specs.Standing.{goes_on, known}
use Rattle.tprocesses.specs.Touching.{Site}
use Rattle.tprocesses.specs.Values.{Choice, Context}
use Rattle.tcertify.specs.Contexts.{choice_of, context_of}
use Rattle.tcertify.specs.Nodes.{RunsAt, name_at, node_site, nothing}
use Rattle.tcertify.specs.Words.{reason_of}
use Rattle.tcertify.proofs.Choices.{does_first, does_second}
use Rattle.tcertify.proofs.Following.{does_then, inside_still, runs_then}
use Rattle.tcertify.proofs.NodeRunning.{runs_at_stop}
use Rattle.tcertify.proofs.node.Node.enables_channel.Goals as goal

-- what follows each part
abbrev enables : Context → Site → Name → ℕ → Doing
enables ctx s x guard = if guard == 0 then goes_on x (spec.drop_channel ctx) else spec.enables_port s x ctx

abbrev asks : Context → Site → Name → Choice → Doing
asks ctx s x _ = known ctx.a >>= enables ctx s x

pub returns-in_err-under_way : goal.returns-in_err-under_way
returns-in_err-under_way c =
    let a = c.args.self.now in let k = c.args.process in
    let ctx = context_of c.args.context.now in
    let b = c.under_way.new.self in
    let in_a : k < length a.processes.items.items = c.requires in
    let p = err_from_is_err_and c.from_residual.result c.from_residual.ensures.1 in
    rw (p.1, p.2)
    (runs_at_stop (spec.under_way (node_site a) ctx) ((asks ctx) (node_site a) (name_at a k)) a b
    (reason_of c.in_err-under_way.field-0.0) (c.in_err-under_way.ensures))

pub returns-in_err-guard : goal.returns-in_err-guard
returns-in_err-guard c =
    let a = c.args.self.now in let k = c.args.process in
    let ctx = context_of c.args.context.now in
    let b = c.under_way.new.self in
    let in_a : k < length a.processes.items.items = c.requires in
    let in_b = inside_still a b k (c.in_ok-under_way.ensures).grows in_a in
    let p = err_from_is_err_and c.from_residual-in_err-guard.result c.from_residual-in_err-guard.ensures.1 in
    rw (p.1, p.2)
    (runs_then a b b k (spec.under_way (node_site a) ctx) (asks ctx) (choice_of c.in_ok-under_way.field-0)
    (c.in_ok-under_way.ensures) in_a (Err (reason_of c.in_err-guard.field-0.0))
    (runs_at_stop (known ctx.a) ((enables ctx) (node_site b) (name_at b k)) b b (reason_of c.in_err-guard.field-0.0)
    (c.in_err-guard.ensures b)))

pub returns-then-is_clear : goal.returns-then-is_clear
returns-then-is_clear c =
    let a = c.args.self.now in let k = c.args.process in
    let ctx = context_of c.args.context.now in
    let b = c.under_way.new.self in
    let in_a : k < length a.processes.items.items = c.requires in
    let in_b = inside_still a b k (c.in_ok-under_way.ensures).grows in_a in
    let d = c.goes_on.new.self in
    (does_then a b d k (spec.under_way (node_site a) ctx) (asks ctx) (choice_of c.in_ok-under_way.field-0)
    (c.in_ok-under_way.ensures) in_a nothing (Ok tt)
    (does_then b b d k (known ctx.a) (enables ctx) (c.in_ok-guard.guard) (c.in_ok-guard.ensures b) in_b nothing (Ok tt)
    (does_first (goes_on (name_at b k) (spec.drop_channel ctx)) (spec.enables_port (node_site b) (name_at b k) ctx)
    (c.in_ok-guard.guard == 0) b d (Ok tt) (sym c.is_clear.ensures ∙ c.if-is_clear.true)
    (subst (λ (l : Context). RunsAt (goes_on (name_at b k) l) b (Ok tt) d) (c.drop_channel.ensures)
    c.goes_on.ensures))))

pub returns : goal.returns
returns c =
    let a = c.args.self.now in let k = c.args.process in
    let ctx = context_of c.args.context.now in
    let b = c.under_way.new.self in
    let in_a : k < length a.processes.items.items = c.requires in
    let in_b = inside_still a b k (c.in_ok-under_way.ensures).grows in_a in
    let d = c.enables_port.new.self in
    (does_then a b d k (spec.under_way (node_site a) ctx) (asks ctx) (choice_of c.in_ok-under_way.field-0)
    (c.in_ok-under_way.ensures) in_a nothing (c.enables_port.result)
    (does_then b b d k (known ctx.a) (enables ctx) (c.in_ok-guard.guard) (c.in_ok-guard.ensures b) in_b nothing
    (c.enables_port.result)
    (does_second (goes_on (name_at b k) (spec.drop_channel ctx)) (spec.enables_port (node_site b) (name_at b k) ctx)
    (c.in_ok-guard.guard == 0) b d c.enables_port.result (sym c.is_clear.ensures ∙ c.if-is_clear.false)
    c.enables_port.ensures)))
