use Rattle.std.proofs.Common.{◌<◌, ℕ, subst, length, List}
use Rattle.std.proofs.Common.{Ok, Err}
use Rattle.std.proofs.lemmas.Result.{err_from_is_err_and}
use Rattle.tprocesses.specs.Choosing as spec
use Rattle.tprocesses.specs.Parts.{Doing, see, ◌>>=◌}
use Rattle.tprocesses.specs.Places.{Name, Ports}
use Rattle.tprocesses.specs.Standing.{forget, stands}
use Rattle.tprocesses.specs.Touching.{Site, save_upper}
use Rattle.tprocesses.specs.Values.{ArePorts, Awaiting, Chooses, Choosing, Context, Value}
use Rattle.tprocesses.specs.Values.{ports_in}
use Rattle.tcertify.specs.Contexts.{context_of}
use Rattle.tcertify.specs.Nodes.{Does, RunsAt, name_at, node_site, nothing, ports_at}
use Rattle.tcertify.specs.Words.{reason_of}
use Rattle.tcertify.proofs.Following.{does_then, inside_still, runs_then}
use Rattle.tcertify.proofs.NodePorts.{ports_same}
use Rattle.tcertify.proofs.NodeRunning.{does_stop, runs_at_stop}
use Rattle.tcertify.proofs.node.Node.waits_for_ports.Goals as goal

-- what follows each part
abbrev waits : Context → Site → Name → Unit {0} → Doing
waits ctx s x _ = stands x (Chooses (forget ctx))

abbrev saves : Context → Site → Name → Unit {0} → Doing
saves ctx s x _ = save_upper s ctx.wptr >>= waits ctx s x

abbrev changes : Context → Site → Name → Unit {0} → Doing
changes ctx s x _ = spec.changes_use s ctx Choosing Awaiting >>= saves ctx s x

abbrev awaits : Context → Site → Name → Value → Doing
awaits ctx s x v = spec.awaits_ports s x (ports_in v) >>= changes ctx s x

pub returns-in_err-awaits_ports : goal.returns-in_err-awaits_ports
returns-in_err-awaits_ports c =
    let a = c.args.self.now in let k = c.args.process in
    let ctx = context_of c.args.context.now in
    let b = c.sees_ports.new.self in
    let d = c.awaits_ports.new.self in
    let in_a : k < length a.processes.items.items = c.requires in
    let in_b = inside_still a b k (c.sees_ports.ensures.looks).grows in_a in
    let p = err_from_is_err_and c.from_residual.result c.from_residual.ensures.1 in
    rw (p.1, p.2)
    (does_then a b d k (see (Ports (name_at a k))) (awaits ctx) (ArePorts (ports_at a k)) (c.sees_ports.ensures.looks)
    in_a nothing (Err c.in_err-awaits_ports.field-0.0)
    (does_stop (spec.awaits_ports (node_site b) (name_at b k) (ports_at a k))
    ((changes ctx) (node_site b) (name_at b k)) nothing nothing b d c.in_err-awaits_ports.field-0.0
    (subst (λ (l : List ℕ). Does (spec.awaits_ports (node_site b) (name_at b k) l) nothing b
    (Err c.in_err-awaits_ports.field-0.0) d) (ports_same a b k c.sees_ports.ensures.processes)
    c.in_err-awaits_ports.ensures)))

pub returns-in_err-changes_use : goal.returns-in_err-changes_use
returns-in_err-changes_use c =
    let a = c.args.self.now in let k = c.args.process in
    let ctx = context_of c.args.context.now in
    let b = c.sees_ports.new.self in
    let d = c.awaits_ports.new.self in
    let e = c.changes_use.new.self in
    let in_a : k < length a.processes.items.items = c.requires in
    let in_b = inside_still a b k (c.sees_ports.ensures.looks).grows in_a in
    let in_d = inside_still b d k (rw (ports_same a b k c.sees_ports.ensures.processes) at
    c.in_ok-awaits_ports.ensures).grows in_b in
    let p = err_from_is_err_and c.from_residual-in_err-changes_use.result c.from_residual-in_err-changes_use.ensures.1
    in
    rw (p.1, p.2)
    (does_then a b e k (see (Ports (name_at a k))) (awaits ctx) (ArePorts (ports_at a k)) (c.sees_ports.ensures.looks)
    in_a nothing (Err c.in_err-changes_use.field-0.0)
    (does_then b d e k (spec.awaits_ports (node_site b) (name_at b k) (ports_at a k)) (changes ctx) (tt)
    (rw (ports_same a b k c.sees_ports.ensures.processes) at c.in_ok-awaits_ports.ensures) in_b nothing
    (Err c.in_err-changes_use.field-0.0)
    (does_stop (spec.changes_use (node_site d) ctx Choosing Awaiting) ((saves ctx) (node_site d) (name_at d k)) nothing
    nothing d e c.in_err-changes_use.field-0.0 (c.in_err-changes_use.ensures))))

pub returns-in_err-saves_upper : goal.returns-in_err-saves_upper
returns-in_err-saves_upper c =
    let a = c.args.self.now in let k = c.args.process in
    let ctx = context_of c.args.context.now in
    let b = c.sees_ports.new.self in
    let d = c.awaits_ports.new.self in
    let e = c.changes_use.new.self in
    let f = c.saves_upper.new.self in
    let in_a : k < length a.processes.items.items = c.requires in
    let in_b = inside_still a b k (c.sees_ports.ensures.looks).grows in_a in
    let in_d = inside_still b d k (rw (ports_same a b k c.sees_ports.ensures.processes) at
    c.in_ok-awaits_ports.ensures).grows in_b in
    let in_e = inside_still d e k (c.in_ok-changes_use.ensures).grows in_d in
    let p = err_from_is_err_and c.from_residual-in_err-saves_upper.result c.from_residual-in_err-saves_upper.ensures.1
    in
    rw (p.1, p.2)
    (runs_then a b f k (see (Ports (name_at a k))) (awaits ctx) (ArePorts (ports_at a k)) (c.sees_ports.ensures.looks)
    in_a (Err (reason_of c.in_err-saves_upper.field-0.0))
    (runs_then b d f k (spec.awaits_ports (node_site b) (name_at b k) (ports_at a k)) (changes ctx) (tt)
    (rw (ports_same a b k c.sees_ports.ensures.processes) at c.in_ok-awaits_ports.ensures) in_b
    (Err (reason_of c.in_err-saves_upper.field-0.0))
    (runs_then d e f k (spec.changes_use (node_site d) ctx Choosing Awaiting) (saves ctx) (tt)
    (c.in_ok-changes_use.ensures) in_d (Err (reason_of c.in_err-saves_upper.field-0.0))
    (runs_at_stop (save_upper (node_site e) ctx.wptr) ((waits ctx) (node_site e) (name_at e k)) e f
    (reason_of c.in_err-saves_upper.field-0.0) (c.in_err-saves_upper.ensures)))))

pub returns : goal.returns
returns c =
    let a = c.args.self.now in let k = c.args.process in
    let ctx = context_of c.args.context.now in
    let b = c.sees_ports.new.self in
    let d = c.awaits_ports.new.self in
    let e = c.changes_use.new.self in
    let f = c.saves_upper.new.self in
    let in_a : k < length a.processes.items.items = c.requires in
    let in_b = inside_still a b k (c.sees_ports.ensures.looks).grows in_a in
    let in_d = inside_still b d k (rw (ports_same a b k c.sees_ports.ensures.processes) at
    c.in_ok-awaits_ports.ensures).grows in_b in
    let in_e = inside_still d e k (c.in_ok-changes_use.ensures).grows in_d in
    let in_f = inside_still e f k (c.in_ok-saves_upper.ensures).grows in_e in
    let g = c.stands.new.self in
    (runs_then a b g k (see (Ports (name_at a k))) (awaits ctx) (ArePorts (ports_at a k)) (c.sees_ports.ensures.looks)
    in_a (Ok tt)
    (runs_then b d g k (spec.awaits_ports (node_site b) (name_at b k) (ports_at a k)) (changes ctx) (tt)
    (rw (ports_same a b k c.sees_ports.ensures.processes) at c.in_ok-awaits_ports.ensures) in_b (Ok tt)
    (runs_then d e g k (spec.changes_use (node_site d) ctx Choosing Awaiting) (saves ctx) (tt)
    (c.in_ok-changes_use.ensures) in_d (Ok tt)
    (runs_then e f g k (save_upper (node_site e) ctx.wptr) (waits ctx) (tt) (c.in_ok-saves_upper.ensures) in_e (Ok tt)
    (subst (λ (l : Context). RunsAt (stands (name_at f k) (Chooses l)) f (Ok tt) g) c.forget.ensures
    c.stands.ensures)))))
