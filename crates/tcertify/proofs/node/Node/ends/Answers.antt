use Rattle.std.proofs.Common.{ℕ, arith, negsuc, subst, Err, Ok}
use Rattle.std.specs.Prelude.{is_none}
use Rattle.std.proofs.lemmas.Result.{err_from_is_err_and}
use Rattle.tprocesses.specs.Changes.{Add}
use Rattle.tprocesses.specs.Parts.{Doing, WordInUse, change, require, ◌>>◌}
use Rattle.tprocesses.specs.Places.{Life, Name}
use Rattle.tprocesses.specs.Standing.{stands}
use Rattle.tprocesses.specs.Values.{Ended}
use Rattle.tcertify.specs.Contexts.{choice_in}
use Rattle.tcertify.specs.Nodes.{RunsAt, name_at, nothing}
use Rattle.tcertify.specs.Words.{reason_of}
use Rattle.tcertify.proofs.NodeRunning.{does_on, does_stop, name_stays, runs_at_on, runs_at_stop}
use Rattle.tcertify.proofs.node.Node.ends.Goals as goal

-- what follows the check that no alternative is under way
abbrev leaves : (node workspace : ℕ) → Name → Doing
leaves n w x = change (Life n w) (Add (negsuc 0)) >> stands x Ended

pub returns-in_err-no_choice : goal.returns-in_err-no_choice
returns-in_err-no_choice c =
    let a = c.args.self.now in
    let p = err_from_is_err_and c.from_residual.result c.from_residual.ensures.1 in
    rw (p.1, p.2)
    (runs_at_stop (require (is_none (choice_in c.args.context.now.choice)) WordInUse)
    (λ (u : Unit {0}). leaves a.words.number c.args.context.now.wptr (name_at a c.args.process)) a a
    (reason_of c.in_err-no_choice.field-0.0) (c.in_err-no_choice.ensures a))

pub returns-in_err-adds_life : goal.returns-in_err-adds_life
returns-in_err-adds_life c =
    let a = c.args.self.now in
    let p = err_from_is_err_and c.from_residual-in_err-adds_life.result c.from_residual-in_err-adds_life.ensures.1 in
    rw (p.1, p.2)
    (does_on (require (is_none (choice_in c.args.context.now.choice)) WordInUse)
    (λ (u : Unit {0}). leaves a.words.number c.args.context.now.wptr (name_at a c.args.process)) nothing a a
    c.adds_life.new.self tt (Err c.in_err-adds_life.field-0.0) (c.in_ok-no_choice.ensures a)
    (does_stop (change (Life a.words.number c.args.context.now.wptr) (Add (negsuc 0)))
    (λ (u : Unit {0}). stands (name_at a c.args.process) Ended) nothing nothing a c.adds_life.new.self
    c.in_err-adds_life.field-0.0 c.in_err-adds_life.ensures))

pub stands-requires : goal.stands-requires
stands-requires c = omega (arith, c.requires, c.in_ok-adds_life.ensures.grows.processes)

pub returns : goal.returns
returns c =
    let a = c.args.self.now in let b = c.adds_life.new.self in let first = c.in_ok-adds_life.ensures in
    runs_at_on (require (is_none (choice_in c.args.context.now.choice)) WordInUse)
    (λ (u : Unit {0}). leaves a.words.number c.args.context.now.wptr (name_at a c.args.process)) a a c.stands.new.self
    tt (Ok tt) (c.in_ok-no_choice.ensures a)
    (runs_at_on (change (Life a.words.number c.args.context.now.wptr) (Add (negsuc 0)))
    (λ (u : Unit {0}). stands (name_at a c.args.process) Ended) a b c.stands.new.self tt (Ok tt) first
    (subst (λ (x : Name). RunsAt (stands x Ended) b (Ok tt) c.stands.new.self)
    (name_stays a b c.args.process first.grows c.requires) c.stands.ensures))
