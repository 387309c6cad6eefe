use Rattle.std.proofs.Common.{◌<◌, ℕ, subst, length, Bool, not, Err}
use Rattle.std.specs.Prelude.{◌==◌}
use Rattle.std.proofs.lemmas.Result.{err_from_is_err_and}
use Rattle.tprocesses.specs.Choosing as spec
use Rattle.tprocesses.specs.Parts.{Doing, ◌>>=◌}
use Rattle.tprocesses.specs.Places.{Name}
use Rattle.tprocesses.specs.Standing.{known}
use Rattle.tprocesses.specs.Touching.{Site}
use Rattle.tprocesses.specs.Values.{Choice, Context}
use Rattle.tcertify.specs.Contexts.{choice_of, context_of}
use Rattle.tcertify.specs.Nodes.{Does, name_at, node_site, nothing}
use Rattle.tcertify.specs.Words.{reason_of}
use Rattle.tcertify.proofs.Following.{does_then, runs_then}
use Rattle.tcertify.proofs.NodeRunning.{runs_at_stop}
use Rattle.tcertify.proofs.node.Node.disables_skip.Goals as goal

-- what follows each part
abbrev chooses : Context → Site → Name → ℕ → Doing
chooses ctx s x guard = spec.selects s x ctx (not (guard == 0))

abbrev asks : Context → Site → Name → Choice → Doing
asks ctx s x _ = known ctx.b >>= chooses ctx s x

pub returns-in_err-choice_of : goal.returns-in_err-choice_of
returns-in_err-choice_of c =
    let a = c.args.self.now in let k = c.args.process in
    let ctx = context_of c.args.context.now in
    let in_a : k < length a.processes.items.items = c.requires in
    let p = err_from_is_err_and c.from_residual.result c.from_residual.ensures.1 in
    rw (p.1, p.2)
    (runs_at_stop (spec.choice_of ctx.choice) ((asks ctx) (node_site a) (name_at a k)) a a
    (reason_of c.in_err-choice_of.field-0.0) (c.in_err-choice_of.ensures a))

pub returns-in_err-guard : goal.returns-in_err-guard
returns-in_err-guard c =
    let a = c.args.self.now in let k = c.args.process in
    let ctx = context_of c.args.context.now in
    let in_a : k < length a.processes.items.items = c.requires in
    let p = err_from_is_err_and c.from_residual-in_err-guard.result c.from_residual-in_err-guard.ensures.1 in
    rw (p.1, p.2)
    (runs_then a a a k (spec.choice_of ctx.choice) (asks ctx) (choice_of c.in_ok-choice_of.field-0)
    (c.in_ok-choice_of.ensures a) in_a (Err (reason_of c.in_err-guard.field-0.0))
    (runs_at_stop (known ctx.b) ((chooses ctx) (node_site a) (name_at a k)) a a (reason_of c.in_err-guard.field-0.0)
    (c.in_err-guard.ensures a)))

pub returns : goal.returns
returns c =
    let a = c.args.self.now in let k = c.args.process in
    let ctx = context_of c.args.context.now in
    let in_a : k < length a.processes.items.items = c.requires in
    let b = c.selects.new.self in
    (does_then a a b k (spec.choice_of ctx.choice) (asks ctx) (choice_of c.in_ok-choice_of.field-0)
    (c.in_ok-choice_of.ensures a) in_a nothing (c.selects.result)
    (does_then a a b k (known ctx.b) (chooses ctx) (c.in_ok-guard.guard) (c.in_ok-guard.ensures a) in_a nothing
    (c.selects.result)
    (subst (λ (t : Bool). Does (spec.selects (node_site a) (name_at a k) ctx (not t)) nothing a c.selects.result b)
    c.is_clear.ensures c.selects.ensures)))
