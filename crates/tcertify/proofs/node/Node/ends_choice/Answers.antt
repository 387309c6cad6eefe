use Rattle.std.proofs.Common.{◌<◌, ℕ, subst, length, List, None, Ok, Err}
use Rattle.std.proofs.lemmas.Result.{err_from_is_err_and}
use Rattle.tword.specs.Stores.{Store}
use Rattle.tword.specs.Touches.{Reads}
use Rattle.tword.specs.Words.{plus}
use Rattle.tprocesses.specs.Changes.{known_word}
use Rattle.tprocesses.specs.Choosing as spec
use Rattle.tprocesses.specs.Parts.{Doing, WordInUse, require, see, ◌>>=◌}
use Rattle.tprocesses.specs.Places.{Name, Ports}
use Rattle.tprocesses.specs.Standing.{goes_on, known}
use Rattle.tprocesses.specs.Touching.{Site, touch_word_at}
use Rattle.tprocesses.specs.Values.{ArePorts, Choice, Context, Free, Value, ports_in}
use Rattle.tcertify.specs.Cells.{cells_of}
use Rattle.tcertify.specs.Choosing.{puts_state}
use Rattle.tcertify.specs.Contexts.{choice_of, context_of}
use Rattle.tcertify.specs.Nodes.{Does, RunsAt, name_at, node_site, nothing, ports_at}
use Rattle.tcertify.specs.Words.{reason_of}
use Rattle.tcertify.proofs.Following.{does_then, inside_still, runs_then}
use Rattle.tcertify.proofs.NodePorts.{ports_same}
use Rattle.tcertify.proofs.NodeRunning.{does_stop, runs_at_stop}
use Rattle.tcertify.proofs.node.Node.ends_choice.Goals as goal

-- what follows each part
abbrev goes : Context → (offset : ℕ) → Site → Name → Unit {0} → Doing
goes ctx offset s x _ = goes_on x (record ctx { iptr = plus ctx.iptr offset; choice = None })

abbrev frees : Context → Site → Name → ℕ → Doing
frees ctx s x offset = puts_state s (spec.state_address ctx) Free >>= goes ctx offset s x

abbrev knows : Context → Site → Name → Store → Doing
knows ctx s x cells = known (known_word cells) >>= frees ctx s x

abbrev reads : Context → Site → Name → Unit {0} → Doing
reads ctx s x _ = touch_word_at s Reads ctx.wptr >>= knows ctx s x

abbrev asks : Context → Site → Name → Value → Doing
asks ctx s x v = require (spec.has_none (ports_in v)) WordInUse >>= reads ctx s x

abbrev sees : Context → Site → Name → Choice → Doing
sees ctx s x _ = see (Ports x) >>= asks ctx s x

pub returns-in_err-under_way : goal.returns-in_err-under_way
returns-in_err-under_way c =
    let a = c.args.self.now in let k = c.args.process in
    let ctx = context_of c.args.context.now in
    let b = c.under_way.new.self in
    let in_a : k < length a.processes.items.items = c.requires in
    let p = err_from_is_err_and c.from_residual.result c.from_residual.ensures.1 in
    rw (p.1, p.2)
    (runs_at_stop (spec.under_way (node_site a) ctx) ((sees ctx) (node_site a) (name_at a k)) a b
    (reason_of c.in_err-under_way.field-0.0) (c.in_err-under_way.ensures))

pub returns-in_err-has_no_port : goal.returns-in_err-has_no_port
returns-in_err-has_no_port c =
    let a = c.args.self.now in let k = c.args.process in
    let ctx = context_of c.args.context.now in
    let b = c.under_way.new.self in
    let d = c.sees_ports.new.self in
    let in_a : k < length a.processes.items.items = c.requires in
    let in_b = inside_still a b k (c.in_ok-under_way.ensures).grows in_a in
    let in_d = inside_still b d k (c.sees_ports.ensures.looks).grows in_b in
    let p = err_from_is_err_and c.from_residual-in_err-has_no_port.result c.from_residual-in_err-has_no_port.ensures.1
    in
    rw (p.1, p.2)
    (runs_then a b d k (spec.under_way (node_site a) ctx) (sees ctx) (choice_of c.in_ok-under_way.field-0)
    (c.in_ok-under_way.ensures) in_a (Err (reason_of c.in_err-has_no_port.field-0.0))
    (runs_then b d d k (see (Ports (name_at b k))) (asks ctx) (ArePorts (ports_at b k)) (c.sees_ports.ensures.looks)
    in_b (Err (reason_of c.in_err-has_no_port.field-0.0))
    (runs_at_stop (require (spec.has_none (ports_at b k)) WordInUse) ((reads ctx) (node_site d) (name_at d k)) d d
    (reason_of c.in_err-has_no_port.field-0.0) (subst (λ (l : List ℕ). RunsAt (require (spec.has_none l) WordInUse) d
    (Err (reason_of c.in_err-has_no_port.field-0.0)) d) (ports_same b d k c.sees_ports.ensures.processes)
    c.in_err-has_no_port.ensures))))

pub returns-in_err-cells : goal.returns-in_err-cells
returns-in_err-cells c =
    let a = c.args.self.now in let k = c.args.process in
    let ctx = context_of c.args.context.now in
    let b = c.under_way.new.self in
    let d = c.sees_ports.new.self in
    let e = c.read_word.new.self in
    let in_a : k < length a.processes.items.items = c.requires in
    let in_b = inside_still a b k (c.in_ok-under_way.ensures).grows in_a in
    let in_d = inside_still b d k (c.sees_ports.ensures.looks).grows in_b in
    let p = err_from_is_err_and c.from_residual-in_err-cells.result c.from_residual-in_err-cells.ensures.1 in
    rw (p.1, p.2)
    (runs_then a b e k (spec.under_way (node_site a) ctx) (sees ctx) (choice_of c.in_ok-under_way.field-0)
    (c.in_ok-under_way.ensures) in_a (Err (reason_of c.in_err-cells.field-0.0))
    (runs_then b d e k (see (Ports (name_at b k))) (asks ctx) (ArePorts (ports_at b k)) (c.sees_ports.ensures.looks)
    in_b (Err (reason_of c.in_err-cells.field-0.0))
    (runs_then d d e k (require (spec.has_none (ports_at b k)) WordInUse) (reads ctx) (tt)
    (subst (λ (l : List ℕ). RunsAt (require (spec.has_none l) WordInUse) d (Ok tt) d)
    (ports_same b d k c.sees_ports.ensures.processes) c.in_ok-has_no_port.ensures) in_d
    (Err (reason_of c.in_err-cells.field-0.0))
    (runs_at_stop (touch_word_at (node_site d) Reads ctx.wptr) ((knows ctx) (node_site d) (name_at d k)) d e
    (reason_of c.in_err-cells.field-0.0) (c.in_err-cells.ensures)))))

pub returns-in_err-offset : goal.returns-in_err-offset
returns-in_err-offset c =
    let a = c.args.self.now in let k = c.args.process in
    let ctx = context_of c.args.context.now in
    let b = c.under_way.new.self in
    let d = c.sees_ports.new.self in
    let e = c.read_word.new.self in
    let in_a : k < length a.processes.items.items = c.requires in
    let in_b = inside_still a b k (c.in_ok-under_way.ensures).grows in_a in
    let in_d = inside_still b d k (c.sees_ports.ensures.looks).grows in_b in
    let in_e = inside_still d e k (c.in_ok-cells.ensures).grows in_d in
    let p = err_from_is_err_and c.from_residual-in_err-offset.result c.from_residual-in_err-offset.ensures.1 in
    rw (p.1, p.2)
    (runs_then a b e k (spec.under_way (node_site a) ctx) (sees ctx) (choice_of c.in_ok-under_way.field-0)
    (c.in_ok-under_way.ensures) in_a (Err (reason_of c.in_err-offset.field-0.0))
    (runs_then b d e k (see (Ports (name_at b k))) (asks ctx) (ArePorts (ports_at b k)) (c.sees_ports.ensures.looks)
    in_b (Err (reason_of c.in_err-offset.field-0.0))
    (runs_then d d e k (require (spec.has_none (ports_at b k)) WordInUse) (reads ctx) (tt)
    (subst (λ (l : List ℕ). RunsAt (require (spec.has_none l) WordInUse) d (Ok tt) d)
    (ports_same b d k c.sees_ports.ensures.processes) c.in_ok-has_no_port.ensures) in_d
    (Err (reason_of c.in_err-offset.field-0.0))
    (runs_then d e e k (touch_word_at (node_site d) Reads ctx.wptr) (knows ctx) (cells_of c.in_ok-cells.cells)
    (c.in_ok-cells.ensures) in_d (Err (reason_of c.in_err-offset.field-0.0))
    (runs_at_stop (known (known_word (cells_of c.in_ok-cells.cells))) ((frees ctx) (node_site e) (name_at e k)) e e
    (reason_of c.in_err-offset.field-0.0) (c.in_err-offset.ensures e))))))

pub returns-in_err-puts_state : goal.returns-in_err-puts_state
returns-in_err-puts_state c =
    let a = c.args.self.now in let k = c.args.process in
    let ctx = context_of c.args.context.now in
    let b = c.under_way.new.self in
    let d = c.sees_ports.new.self in
    let e = c.read_word.new.self in
    let f = c.puts_state.new.self in
    let in_a : k < length a.processes.items.items = c.requires in
    let in_b = inside_still a b k (c.in_ok-under_way.ensures).grows in_a in
    let in_d = inside_still b d k (c.sees_ports.ensures.looks).grows in_b in
    let in_e = inside_still d e k (c.in_ok-cells.ensures).grows in_d in
    let p = err_from_is_err_and c.from_residual-in_err-puts_state.result c.from_residual-in_err-puts_state.ensures.1 in
    rw (p.1, p.2)
    (does_then a b f k (spec.under_way (node_site a) ctx) (sees ctx) (choice_of c.in_ok-under_way.field-0)
    (c.in_ok-under_way.ensures) in_a nothing (Err c.in_err-puts_state.field-0.0)
    (does_then b d f k (see (Ports (name_at b k))) (asks ctx) (ArePorts (ports_at b k)) (c.sees_ports.ensures.looks)
    in_b nothing (Err c.in_err-puts_state.field-0.0)
    (does_then d d f k (require (spec.has_none (ports_at b k)) WordInUse) (reads ctx) (tt)
    (subst (λ (l : List ℕ). RunsAt (require (spec.has_none l) WordInUse) d (Ok tt) d)
    (ports_same b d k c.sees_ports.ensures.processes) c.in_ok-has_no_port.ensures) in_d nothing
    (Err c.in_err-puts_state.field-0.0)
    (does_then d e f k (touch_word_at (node_site d) Reads ctx.wptr) (knows ctx) (cells_of c.in_ok-cells.cells)
    (c.in_ok-cells.ensures) in_d nothing (Err c.in_err-puts_state.field-0.0)
    (does_then e e f k (known (known_word (cells_of c.in_ok-cells.cells))) (frees ctx) (c.in_ok-offset.offset)
    (c.in_ok-offset.ensures e) in_e nothing (Err c.in_err-puts_state.field-0.0)
    (does_stop (puts_state (node_site e) (spec.state_address ctx) Free)
    ((goes ctx c.in_ok-offset.offset) (node_site e) (name_at e k)) nothing nothing e f c.in_err-puts_state.field-0.0
    (subst (λ (w : ℕ). Does (puts_state (node_site e) w Free) nothing e (Err c.in_err-puts_state.field-0.0) f)
    c.below.ensures c.in_err-puts_state.ensures)))))))

pub returns : goal.returns
returns c =
    let a = c.args.self.now in let k = c.args.process in
    let ctx = context_of c.args.context.now in
    let b = c.under_way.new.self in
    let d = c.sees_ports.new.self in
    let e = c.read_word.new.self in
    let f = c.puts_state.new.self in
    let in_a : k < length a.processes.items.items = c.requires in
    let in_b = inside_still a b k (c.in_ok-under_way.ensures).grows in_a in
    let in_d = inside_still b d k (c.sees_ports.ensures.looks).grows in_b in
    let in_e = inside_still d e k (c.in_ok-cells.ensures).grows in_d in
    let in_f = inside_still e f k (rw c.below.ensures at c.in_ok-puts_state.ensures).grows in_e in
    let g = c.goes_on.new.self in
    (runs_then a b g k (spec.under_way (node_site a) ctx) (sees ctx) (choice_of c.in_ok-under_way.field-0)
    (c.in_ok-under_way.ensures) in_a (Ok tt)
    (runs_then b d g k (see (Ports (name_at b k))) (asks ctx) (ArePorts (ports_at b k)) (c.sees_ports.ensures.looks)
    in_b (Ok tt)
    (runs_then d d g k (require (spec.has_none (ports_at b k)) WordInUse) (reads ctx) (tt)
    (subst (λ (l : List ℕ). RunsAt (require (spec.has_none l) WordInUse) d (Ok tt) d)
    (ports_same b d k c.sees_ports.ensures.processes) c.in_ok-has_no_port.ensures) in_d (Ok tt)
    (runs_then d e g k (touch_word_at (node_site d) Reads ctx.wptr) (knows ctx) (cells_of c.in_ok-cells.cells)
    (c.in_ok-cells.ensures) in_d (Ok tt)
    (runs_then e e g k (known (known_word (cells_of c.in_ok-cells.cells))) (frees ctx) (c.in_ok-offset.offset)
    (c.in_ok-offset.ensures e) in_e (Ok tt)
    (runs_then e f g k (puts_state (node_site e) (spec.state_address ctx) Free) (goes ctx c.in_ok-offset.offset) (tt)
    (rw c.below.ensures at c.in_ok-puts_state.ensures) in_e (Ok tt)
    (subst (λ (l : Context). RunsAt (goes_on (name_at f k) l) f (Ok tt) g) (c.without_choice.ensures)
    c.goes_on.ensures)))))))
