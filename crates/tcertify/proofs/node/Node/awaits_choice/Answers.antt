use Rattle.std.proofs.Common.{◌<◌, length, Ok, Err}
use Rattle.std.specs.Prelude.{if◌then◌else◌}
use Rattle.std.specs.Int.{w32, to_le_bytes}
use Rattle.std.proofs.lemmas.Result.{err_from_is_err_and}
use Rattle.tword.specs.Stores.{as_cells}
use Rattle.tproc.specs.Alternatives.{none_selected}
use Rattle.tprocesses.specs.Choosing as spec
use Rattle.tprocesses.specs.Parts.{Doing, ◌>>=◌}
use Rattle.tprocesses.specs.Places.{Name}
use Rattle.tprocesses.specs.Standing.{goes_on}
use Rattle.tprocesses.specs.Touching.{Site, write_word_at}
use Rattle.tprocesses.specs.Values.{Choice, Context}
use Rattle.tcertify.specs.Contexts.{choice_of, context_of}
use Rattle.tcertify.specs.Nodes.{name_at, node_site, nothing}
use Rattle.tcertify.specs.Words.{reason_of}
use Rattle.tcertify.proofs.Choices.{does_first, does_second}
use Rattle.tcertify.proofs.Following.{does_then, inside_still, runs_then}
use Rattle.tcertify.proofs.NodeRunning.{runs_at_stop}
use Rattle.tcertify.proofs.node.Node.awaits_choice.Goals as goal

-- what follows each part
abbrev waits : Context → Site → Name → Choice → Doing
waits ctx s x choice = if choice.skips then goes_on x ctx else spec.waits_for_ports s x ctx

abbrev asks : Context → Site → Name → Unit {0} → Doing
asks ctx s x _ = spec.under_way s ctx >>= waits ctx s x

pub returns-in_err-store : goal.returns-in_err-store
returns-in_err-store c =
    let a = c.args.self.now in let k = c.args.process in
    let ctx = context_of c.args.context.now in
    let b = c.store.new.self in
    let in_a : k < length a.processes.items.items = c.requires in
    let p = err_from_is_err_and c.from_residual.result c.from_residual.ensures.1 in
    rw (p.1, p.2)
    (runs_at_stop (write_word_at (node_site a) ctx.wptr (as_cells (to_le_bytes w32 none_selected)))
    ((asks ctx) (node_site a) (name_at a k)) a b (reason_of c.in_err-store.field-0.0)
    (rw c.new.ensures at c.in_err-store.ensures))

pub returns-in_err-choice : goal.returns-in_err-choice
returns-in_err-choice c =
    let a = c.args.self.now in let k = c.args.process in
    let ctx = context_of c.args.context.now in
    let b = c.store.new.self in
    let d = c.under_way.new.self in
    let in_a : k < length a.processes.items.items = c.requires in
    let in_b = inside_still a b k (rw c.new.ensures at c.in_ok-store.ensures).grows in_a in
    let p = err_from_is_err_and c.from_residual-in_err-choice.result c.from_residual-in_err-choice.ensures.1 in
    rw (p.1, p.2)
    (runs_then a b d k (write_word_at (node_site a) ctx.wptr (as_cells (to_le_bytes w32 none_selected))) (asks ctx)
    (tt) (rw c.new.ensures at c.in_ok-store.ensures) in_a (Err (reason_of c.in_err-choice.field-0.0))
    (runs_at_stop (spec.under_way (node_site b) ctx) ((waits ctx) (node_site b) (name_at b k)) b d
    (reason_of c.in_err-choice.field-0.0) (c.in_err-choice.ensures)))

pub returns-then-choice : goal.returns-then-choice
returns-then-choice c =
    let a = c.args.self.now in let k = c.args.process in
    let ctx = context_of c.args.context.now in
    let b = c.store.new.self in
    let d = c.under_way.new.self in
    let in_a : k < length a.processes.items.items = c.requires in
    let in_b = inside_still a b k (rw c.new.ensures at c.in_ok-store.ensures).grows in_a in
    let in_d = inside_still b d k (c.in_ok-choice.ensures).grows in_b in
    let e = c.goes_on.new.self in
    (does_then a b e k (write_word_at (node_site a) ctx.wptr (as_cells (to_le_bytes w32 none_selected))) (asks ctx)
    (tt) (rw c.new.ensures at c.in_ok-store.ensures) in_a nothing (Ok tt)
    (does_then b d e k (spec.under_way (node_site b) ctx) (waits ctx) (choice_of c.in_ok-choice.choice)
    (c.in_ok-choice.ensures) in_b nothing (Ok tt)
    (does_first (goes_on (name_at d k) ctx) (spec.waits_for_ports (node_site d) (name_at d k) ctx)
    c.in_ok-choice.choice.skips d e (Ok tt) c.if-choice.true c.goes_on.ensures)))

pub returns : goal.returns
returns c =
    let a = c.args.self.now in let k = c.args.process in
    let ctx = context_of c.args.context.now in
    let b = c.store.new.self in
    let d = c.under_way.new.self in
    let in_a : k < length a.processes.items.items = c.requires in
    let in_b = inside_still a b k (rw c.new.ensures at c.in_ok-store.ensures).grows in_a in
    let in_d = inside_still b d k (c.in_ok-choice.ensures).grows in_b in
    let e = c.waits_for_ports.new.self in
    (does_then a b e k (write_word_at (node_site a) ctx.wptr (as_cells (to_le_bytes w32 none_selected))) (asks ctx)
    (tt) (rw c.new.ensures at c.in_ok-store.ensures) in_a nothing (c.waits_for_ports.result)
    (does_then b d e k (spec.under_way (node_site b) ctx) (waits ctx) (choice_of c.in_ok-choice.choice)
    (c.in_ok-choice.ensures) in_b nothing (c.waits_for_ports.result)
    (does_second (goes_on (name_at d k) ctx) (spec.waits_for_ports (node_site d) (name_at d k) ctx)
    c.in_ok-choice.choice.skips d e c.waits_for_ports.result c.if-choice.false c.waits_for_ports.ensures)))
