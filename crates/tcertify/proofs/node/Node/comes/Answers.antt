use Rattle.std.proofs.Common.{refl, sym, Ok, Err}
use Rattle.std.proofs.lemmas.Result.{err_from_is_err_and}
use Rattle.tcertify.specs.Contexts.{context_of}
use Rattle.tcertify.specs.Processes.{named}
use Rattle.tcertify.specs.Starts.{start_of}
use Rattle.tcertify.specs.Standing.{stand_of}
use Rattle.tcertify.proofs.Growing.{lists_stay}
use Rattle.tcertify.proofs.NodeChanging.{grows_alone}
use Rattle.tcertify.proofs.NodeComing.{comes_all, comes_half, comes_not, comes_uncounted, joins_there}
use Rattle.tcertify.proofs.NodeRunning.{number_stays}
use Rattle.tcertify.proofs.node.Node.comes.Goals as goal

pub returns-in_err-begins_life : goal.returns-in_err-begins_life
returns-in_err-begins_life c =
    let a = c.args.self.now in
    let p = err_from_is_err_and c.from_residual.result c.from_residual.ensures.1 in
    rw (p.1, p.2)
    (comes_not a c.begins_life.new.self (named a.words.number c.args.root c.args.path.items)
    (context_of c.args.context.now) (start_of c.args.start) c.in_err-begins_life.field-0.0 c.in_err-begins_life.ensures)

pub returns-in_err-joins : goal.returns-in_err-joins
returns-in_err-joins c =
    let a = c.args.self.now in let b = c.begins_life.new.self in let d = c.joins.new.self in
    let p = err_from_is_err_and c.from_residual-in_err-joins.result c.from_residual-in_err-joins.ensures.1 in
    let e = c.in_err-joins.field-0.0 in
    rw (p.1, p.2)
    (comes_half a b (named a.words.number c.args.root c.args.path.items)
    (context_of c.args.context.now) (start_of c.args.start) _ d c.in_ok-begins_life.ensures
    (grows_alone b _ (lists_stay b _ refl refl refl refl refl refl) (λ rest. refl) refl refl) e
    (joins_there _ d (Err e) b.words.number a.words.number c.args.root c.args.path.items (stand_of c.stand-stand.result)
    (start_of c.args.start (context_of c.args.context.now)) (sym (number_stays a b c.in_ok-begins_life.ensures.grows))
    c.stand-stand.ensures c.in_err-joins.ensures))

pub returns-in_err-counts_process : goal.returns-in_err-counts_process
returns-in_err-counts_process c =
    let a = c.args.self.now in let b = c.begins_life.new.self in let d = c.joins.new.self in
    let p = err_from_is_err_and c.from_residual-in_err-counts_process.result
    c.from_residual-in_err-counts_process.ensures.1 in
    rw (p.1, p.2)
    (comes_uncounted a b (named a.words.number c.args.root c.args.path.items)
    (context_of c.args.context.now) (start_of c.args.start) _ d c.in_ok-begins_life.ensures
    (grows_alone b _ (lists_stay b _ refl refl refl refl refl refl) (λ rest. refl) refl refl)
    (joins_there _ d (Ok tt) b.words.number a.words.number c.args.root c.args.path.items (stand_of c.stand-stand.result)
    (start_of c.args.start (context_of c.args.context.now)) (sym (number_stays a b c.in_ok-begins_life.ensures.grows))
    c.stand-stand.ensures c.in_ok-joins.ensures) c.counts_process.new.self c.in_err-counts_process.field-0.0
    c.in_err-counts_process.ensures)

pub returns : goal.returns
returns c =
    let a = c.args.self.now in let b = c.begins_life.new.self in let d = c.joins.new.self in
    comes_all a b (named a.words.number c.args.root c.args.path.items)
    (context_of c.args.context.now) (start_of c.args.start) _ d c.in_ok-begins_life.ensures
    (grows_alone b _ (lists_stay b _ refl refl refl refl refl refl) (λ rest. refl) refl refl)
    (joins_there _ d (Ok tt) b.words.number a.words.number c.args.root c.args.path.items (stand_of c.stand-stand.result)
    (start_of c.args.start (context_of c.args.context.now)) (sym (number_stays a b c.in_ok-begins_life.ensures.grows))
    c.stand-stand.ensures c.in_ok-joins.ensures) c.counts_process.new.self c.raises_has_run.new.self
    c.in_ok-counts_process.ensures c.raises_has_run.ensures
