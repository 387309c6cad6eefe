use Rattle.std.proofs.Common.{◌<◌, ℕ, subst, length, false, Ok, Err}
use Rattle.std.proofs.lemmas.Result.{err_from_is_err_and}
use Rattle.tword.specs.Stores.{Store}
use Rattle.tword.specs.Touches.{Writes}
use Rattle.tprocesses.specs.Choosing as spec
use Rattle.tprocesses.specs.Parts.{Doing, ◌>>=◌}
use Rattle.tprocesses.specs.Places.{Name}
use Rattle.tprocesses.specs.Standing.{goes_on}
use Rattle.tprocesses.specs.Touching.{Site, touch_word_at}
use Rattle.tprocesses.specs.Values.{Choosing, Context}
use Rattle.tcertify.specs.Cells.{cells_of}
use Rattle.tcertify.specs.Choosing.{puts_state}
use Rattle.tcertify.specs.Contexts.{context_of}
use Rattle.tcertify.specs.Nodes.{Does, RunsAt, name_at, node_site, nothing}
use Rattle.tcertify.specs.Words.{reason_of}
use Rattle.tcertify.proofs.Following.{does_then, inside_still, runs_then}
use Rattle.tcertify.proofs.NodeRunning.{does_stop, runs_at_stop}
use Rattle.tcertify.proofs.node.Node.begins_choice.Goals as goal

-- what follows the touch of the word, and what follows its change
abbrev goes : Context → Site → Name → Unit {0} → Doing
goes ctx s x _ = goes_on x (spec.with_choice false ctx)

abbrev puts : Context → Site → Name → Store → Doing
puts ctx s x _ = puts_state s (spec.state_address ctx) Choosing >>= goes ctx s x

pub returns-in_err-takes_word : goal.returns-in_err-takes_word
returns-in_err-takes_word c =
    let a = c.args.self.now in let k = c.args.process in
    let ctx = context_of c.args.context.now in
    let b = c.takes_word.new.self in
    let in_a : k < length a.processes.items.items = c.requires in
    let p = err_from_is_err_and c.from_residual.result c.from_residual.ensures.1 in
    rw (p.1, p.2)
    (runs_at_stop (touch_word_at (node_site a) Writes (spec.state_address ctx))
    ((puts ctx) (node_site a) (name_at a k)) a b (reason_of c.in_err-takes_word.field-0.0)
    (rw c.below.ensures at c.in_err-takes_word.ensures))

pub returns-in_err-puts_state : goal.returns-in_err-puts_state
returns-in_err-puts_state c =
    let a = c.args.self.now in let k = c.args.process in
    let ctx = context_of c.args.context.now in
    let b = c.takes_word.new.self in
    let d = c.puts_state.new.self in
    let in_a : k < length a.processes.items.items = c.requires in
    let in_b = inside_still a b k (rw c.below.ensures at c.in_ok-takes_word.ensures).grows in_a in
    let p = err_from_is_err_and c.from_residual-in_err-puts_state.result c.from_residual-in_err-puts_state.ensures.1 in
    rw (p.1, p.2)
    (does_then a b d k (touch_word_at (node_site a) Writes (spec.state_address ctx)) (puts ctx)
    (cells_of c.in_ok-takes_word.field-0) (rw c.below.ensures at c.in_ok-takes_word.ensures) in_a nothing
    (Err c.in_err-puts_state.field-0.0)
    (does_stop (puts_state (node_site b) (spec.state_address ctx) Choosing) ((goes ctx) (node_site b) (name_at b k))
    nothing nothing b d c.in_err-puts_state.field-0.0 (subst
    (λ (w : ℕ). Does (puts_state (node_site b) w Choosing) nothing b (Err c.in_err-puts_state.field-0.0) d)
    c.below-2.ensures c.in_err-puts_state.ensures)))

pub returns : goal.returns
returns c =
    let a = c.args.self.now in let k = c.args.process in
    let ctx = context_of c.args.context.now in
    let b = c.takes_word.new.self in
    let d = c.puts_state.new.self in
    let in_a : k < length a.processes.items.items = c.requires in
    let in_b = inside_still a b k (rw c.below.ensures at c.in_ok-takes_word.ensures).grows in_a in
    let in_d = inside_still b d k (rw c.below-2.ensures at c.in_ok-puts_state.ensures).grows in_b in
    let e = c.goes_on.new.self in
    (runs_then a b e k (touch_word_at (node_site a) Writes (spec.state_address ctx)) (puts ctx)
    (cells_of c.in_ok-takes_word.field-0) (rw c.below.ensures at c.in_ok-takes_word.ensures) in_a (Ok tt)
    (runs_then b d e k (puts_state (node_site b) (spec.state_address ctx) Choosing) (goes ctx) (tt)
    (rw c.below-2.ensures at c.in_ok-puts_state.ensures) in_b (Ok tt)
    (subst (λ (l : Context). RunsAt (goes_on (name_at d k) l) d (Ok tt) e) (c.with_choice.ensures) c.goes_on.ensures)))
