use Rattle.std.proofs.Common.{◌<◌, subst, length, Bool, Ok, Err}
use Rattle.std.proofs.lemmas.Result.{err_from_is_err_and}
use Rattle.tword.specs.Stores.{Store}
use Rattle.tword.specs.Touches.{Writes}
use Rattle.tprocesses.specs.Changes.{known_word}
use Rattle.tprocesses.specs.Choosing as spec
use Rattle.tprocesses.specs.Parts.{Doing, ◌>>=◌}
use Rattle.tprocesses.specs.Places.{Name}
use Rattle.tprocesses.specs.Standing.{goes_on}
use Rattle.tprocesses.specs.Touching.{Site, touch_word_at}
use Rattle.tprocesses.specs.Values.{Context}
use Rattle.tcertify.specs.Cells.{cells_of}
use Rattle.tcertify.specs.Contexts.{context_of}
use Rattle.tcertify.specs.Nodes.{RunsAt, name_at, node_site, nothing}
use Rattle.tcertify.specs.Words.{reason_of}
use Rattle.tcertify.proofs.Following.{does_then, inside_still, runs_then}
use Rattle.tcertify.proofs.NodeRunning.{does_stop, runs_at_stop}
use Rattle.tcertify.proofs.node.Node.selects.Goals as goal

-- what follows each part
abbrev goes : Context → Bool → Site → Name → Unit {0} → Doing
goes ctx chosen s x _ = goes_on x (spec.answers chosen ctx)

abbrev sets : Context → Site → Name → Bool → Doing
sets ctx s x chosen = spec.sets_offset s ctx chosen >>= goes ctx chosen s x

abbrev asks : Context → Bool → Site → Name → Store → Doing
asks ctx ready s x cells = spec.is_first ready (known_word cells) >>= sets ctx s x

pub returns-in_err-cells : goal.returns-in_err-cells
returns-in_err-cells c =
    let a = c.args.self.now in let k = c.args.process in
    let ctx = context_of c.args.context.now in
    let b = c.takes_word.new.self in
    let in_a : k < length a.processes.items.items = c.requires in
    let p = err_from_is_err_and c.from_residual.result c.from_residual.ensures.1 in
    rw (p.1, p.2)
    (runs_at_stop (touch_word_at (node_site a) Writes ctx.wptr) ((asks ctx c.args.ready) (node_site a) (name_at a k)) a
    b (reason_of c.in_err-cells.field-0.0) (c.in_err-cells.ensures))

pub returns-in_err-chosen : goal.returns-in_err-chosen
returns-in_err-chosen c =
    let a = c.args.self.now in let k = c.args.process in
    let ctx = context_of c.args.context.now in
    let b = c.takes_word.new.self in
    let in_a : k < length a.processes.items.items = c.requires in
    let in_b = inside_still a b k (c.in_ok-cells.ensures).grows in_a in
    let p = err_from_is_err_and c.from_residual-in_err-chosen.result c.from_residual-in_err-chosen.ensures.1 in
    rw (p.1, p.2)
    (runs_then a b b k (touch_word_at (node_site a) Writes ctx.wptr) (asks ctx c.args.ready)
    (cells_of c.in_ok-cells.cells) (c.in_ok-cells.ensures) in_a (Err (reason_of c.in_err-chosen.field-0.0))
    (runs_at_stop (spec.is_first c.args.ready (known_word (cells_of c.in_ok-cells.cells)))
    ((sets ctx) (node_site b) (name_at b k)) b b (reason_of c.in_err-chosen.field-0.0) (c.in_err-chosen.ensures b)))

pub returns-in_err-sets_offset : goal.returns-in_err-sets_offset
returns-in_err-sets_offset c =
    let a = c.args.self.now in let k = c.args.process in
    let ctx = context_of c.args.context.now in
    let b = c.takes_word.new.self in
    let d = c.sets_offset.new.self in
    let in_a : k < length a.processes.items.items = c.requires in
    let in_b = inside_still a b k (c.in_ok-cells.ensures).grows in_a in
    let p = err_from_is_err_and c.from_residual-in_err-sets_offset.result c.from_residual-in_err-sets_offset.ensures.1
    in
    rw (p.1, p.2)
    (does_then a b d k (touch_word_at (node_site a) Writes ctx.wptr) (asks ctx c.args.ready)
    (cells_of c.in_ok-cells.cells) (c.in_ok-cells.ensures) in_a nothing (Err c.in_err-sets_offset.field-0.0)
    (does_then b b d k (spec.is_first c.args.ready (known_word (cells_of c.in_ok-cells.cells))) (sets ctx)
    (c.in_ok-chosen.chosen) (c.in_ok-chosen.ensures b) in_b nothing (Err c.in_err-sets_offset.field-0.0)
    (does_stop (spec.sets_offset (node_site b) ctx c.in_ok-chosen.chosen)
    ((goes ctx c.in_ok-chosen.chosen) (node_site b) (name_at b k)) nothing nothing b d c.in_err-sets_offset.field-0.0
    (c.in_err-sets_offset.ensures))))

pub returns : goal.returns
returns c =
    let a = c.args.self.now in let k = c.args.process in
    let ctx = context_of c.args.context.now in
    let b = c.takes_word.new.self in
    let d = c.sets_offset.new.self in
    let in_a : k < length a.processes.items.items = c.requires in
    let in_b = inside_still a b k (c.in_ok-cells.ensures).grows in_a in
    let in_d = inside_still b d k (c.in_ok-sets_offset.ensures).grows in_b in
    let e = c.goes_on.new.self in
    (runs_then a b e k (touch_word_at (node_site a) Writes ctx.wptr) (asks ctx c.args.ready)
    (cells_of c.in_ok-cells.cells) (c.in_ok-cells.ensures) in_a (Ok tt)
    (runs_then b b e k (spec.is_first c.args.ready (known_word (cells_of c.in_ok-cells.cells))) (sets ctx)
    (c.in_ok-chosen.chosen) (c.in_ok-chosen.ensures b) in_b (Ok tt)
    (runs_then b d e k (spec.sets_offset (node_site b) ctx c.in_ok-chosen.chosen) (goes ctx c.in_ok-chosen.chosen) (tt)
    (c.in_ok-sets_offset.ensures) in_b (Ok tt)
    (subst (λ (l : Context). RunsAt (goes_on (name_at d k) l) d (Ok tt) e) (c.answers.ensures) c.goes_on.ensures))))
