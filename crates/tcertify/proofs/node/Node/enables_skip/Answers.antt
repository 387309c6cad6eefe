use Rattle.std.proofs.Common.{◌<◌, ℕ, ap, ◌∙◌, subst, length, Bool, not, Ok, Err}
use Rattle.std.specs.Prelude.{◌==◌, ◌||◌}
use Rattle.std.proofs.lemmas.Result.{err_from_is_err_and}
use Rattle.tprocesses.specs.Choosing as spec
use Rattle.tprocesses.specs.Parts.{Doing, ◌>>=◌}
use Rattle.tprocesses.specs.Places.{Name}
use Rattle.tprocesses.specs.Standing.{goes_on, known}
use Rattle.tprocesses.specs.Touching.{Site}
use Rattle.tprocesses.specs.Values.{Choice, Context}
use Rattle.tcertify.specs.Contexts.{choice_of, context_of}
use Rattle.tcertify.specs.Nodes.{RunsAt, name_at, node_site}
use Rattle.tcertify.specs.Words.{reason_of}
use Rattle.tcertify.proofs.Following.{inside_still, runs_then}
use Rattle.tcertify.proofs.NodeRunning.{runs_at_stop}
use Rattle.tcertify.proofs.node.Node.enables_skip.Goals as goal

-- what follows each part
abbrev goes : Context → Choice → Site → Name → ℕ → Doing
goes ctx choice s x guard = goes_on x (spec.with_choice (choice.skips || not (guard == 0)) ctx)

abbrev asks : Context → Site → Name → Choice → Doing
asks ctx s x choice = known ctx.a >>= goes ctx choice s x

pub returns-in_err-choice : goal.returns-in_err-choice
returns-in_err-choice c =
    let a = c.args.self.now in let k = c.args.process in
    let ctx = context_of c.args.context.now in
    let b = c.under_way.new.self in
    let in_a : k < length a.processes.items.items = c.requires in
    let p = err_from_is_err_and c.from_residual.result c.from_residual.ensures.1 in
    rw (p.1, p.2)
    (runs_at_stop (spec.under_way (node_site a) ctx) ((asks ctx) (node_site a) (name_at a k)) a b
    (reason_of c.in_err-choice.field-0.0) (c.in_err-choice.ensures))

pub returns-in_err-guard : goal.returns-in_err-guard
returns-in_err-guard c =
    let a = c.args.self.now in let k = c.args.process in
    let ctx = context_of c.args.context.now in
    let b = c.under_way.new.self in
    let in_a : k < length a.processes.items.items = c.requires in
    let in_b = inside_still a b k (c.in_ok-choice.ensures).grows in_a in
    let p = err_from_is_err_and c.from_residual-in_err-guard.result c.from_residual-in_err-guard.ensures.1 in
    rw (p.1, p.2)
    (runs_then a b b k (spec.under_way (node_site a) ctx) (asks ctx) (choice_of c.in_ok-choice.choice)
    (c.in_ok-choice.ensures) in_a (Err (reason_of c.in_err-guard.field-0.0))
    (runs_at_stop (known ctx.a) ((goes ctx (choice_of c.in_ok-choice.choice)) (node_site b) (name_at b k)) b b
    (reason_of c.in_err-guard.field-0.0) (c.in_err-guard.ensures b)))

pub returns : goal.returns
returns c =
    let a = c.args.self.now in let k = c.args.process in
    let ctx = context_of c.args.context.now in
    let b = c.under_way.new.self in
    let in_a : k < length a.processes.items.items = c.requires in
    let in_b = inside_still a b k (c.in_ok-choice.ensures).grows in_a in
    let d = c.goes_on.new.self in
    (runs_then a b d k (spec.under_way (node_site a) ctx) (asks ctx) (choice_of c.in_ok-choice.choice)
    (c.in_ok-choice.ensures) in_a (Ok tt)
    (runs_then b b d k (known ctx.a) (goes ctx (choice_of c.in_ok-choice.choice)) (c.in_ok-guard.guard)
    (c.in_ok-guard.ensures b) in_b (Ok tt)
    (subst (λ (l : Context). RunsAt (goes_on (name_at b k) l) b (Ok tt) d)
    (c.with_choice.ensures ∙ ap (λ (t : Bool). spec.with_choice t ctx) c.skips_then.ensures) c.goes_on.ensures)))
