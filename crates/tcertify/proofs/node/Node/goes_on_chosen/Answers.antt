use Rattle.std.proofs.Common.{◌<◌, length}
use Rattle.std.proofs.Common.{Ok, Err}
use Rattle.std.proofs.lemmas.Result.{err_from_is_err_and}
use Rattle.tprocesses.specs.Choosing as spec
use Rattle.tprocesses.specs.Parts.{Doing, ◌>>=◌}
use Rattle.tprocesses.specs.Places.{Name}
use Rattle.tprocesses.specs.Standing.{goes_on, unsave_upper}
use Rattle.tprocesses.specs.Touching.{Site}
use Rattle.tprocesses.specs.Values.{Awaiting, Choosing, Context}
use Rattle.tcertify.specs.Contexts.{context_of}
use Rattle.tcertify.specs.Nodes.{name_at, node_site, nothing}
use Rattle.tcertify.proofs.Following.{does_then, inside_still, runs_then}
use Rattle.tcertify.proofs.NodeRunning.{does_stop}
use Rattle.tcertify.proofs.node.Node.goes_on_chosen.Goals as goal

-- what follows each part
abbrev goes : Context → Site → Name → Unit {0} → Doing
goes ctx s x _ = goes_on x ctx

abbrev frees : Context → Site → Name → Unit {0} → Doing
frees ctx s x _ = unsave_upper s ctx.wptr >>= goes ctx s x

pub returns-in_err-changes_use : goal.returns-in_err-changes_use
returns-in_err-changes_use c =
    let a = c.args.self.now in let k = c.args.process in
    let ctx = context_of c.args.context.now in
    let b = c.changes_use.new.self in
    let in_a : k < length a.processes.items.items = c.requires in
    let p = err_from_is_err_and c.from_residual.result c.from_residual.ensures.1 in
    rw (p.1, p.2)
    (does_stop (spec.changes_use (node_site a) ctx Awaiting Choosing) ((frees ctx) (node_site a) (name_at a k)) nothing
    nothing a b c.in_err-changes_use.field-0.0 (c.in_err-changes_use.ensures))

pub returns-in_err-unsaves_upper : goal.returns-in_err-unsaves_upper
returns-in_err-unsaves_upper c =
    let a = c.args.self.now in let k = c.args.process in
    let ctx = context_of c.args.context.now in
    let b = c.changes_use.new.self in
    let d = c.unsaves_upper.new.self in
    let in_a : k < length a.processes.items.items = c.requires in
    let in_b = inside_still a b k (c.in_ok-changes_use.ensures).grows in_a in
    let p = err_from_is_err_and c.from_residual-in_err-unsaves_upper.result
    c.from_residual-in_err-unsaves_upper.ensures.1 in
    rw (p.1, p.2)
    (does_then a b d k (spec.changes_use (node_site a) ctx Awaiting Choosing) (frees ctx) (tt)
    (c.in_ok-changes_use.ensures) in_a nothing (Err c.in_err-unsaves_upper.field-0.0)
    (does_stop (unsave_upper (node_site b) ctx.wptr) ((goes ctx) (node_site b) (name_at b k)) nothing nothing b d
    c.in_err-unsaves_upper.field-0.0 (c.in_err-unsaves_upper.ensures)))

pub returns : goal.returns
returns c =
    let a = c.args.self.now in let k = c.args.process in
    let ctx = context_of c.args.context.now in
    let b = c.changes_use.new.self in
    let d = c.unsaves_upper.new.self in
    let in_a : k < length a.processes.items.items = c.requires in
    let in_b = inside_still a b k (c.in_ok-changes_use.ensures).grows in_a in
    let in_d = inside_still b d k (c.in_ok-unsaves_upper.ensures).grows in_b in
    let e = c.goes_on.new.self in
    (runs_then a b e k (spec.changes_use (node_site a) ctx Awaiting Choosing) (frees ctx) (tt)
    (c.in_ok-changes_use.ensures) in_a (Ok tt)
    (runs_then b d e k (unsave_upper (node_site b) ctx.wptr) (goes ctx) (tt) (c.in_ok-unsaves_upper.ensures) in_b
    (Ok tt)
    c.goes_on.ensures))
