use Rattle.std.proofs.Common.{ℕ, Ok, Err}
use Rattle.std.proofs.lemmas.Result.{err_from_is_err_and}
use Rattle.tword.specs.declared.breaks.Break.TheVariants.{LinkBusy}
use Rattle.tprocesses.specs.Choosing as spec
use Rattle.tprocesses.specs.Parts.{Breaks, Doing, require}
use Rattle.tprocesses.specs.Places.{Name, same_name}
use Rattle.tprocesses.specs.Touching.{Site}
use Rattle.tprocesses.specs.Values.{Context}
use Rattle.tcertify.specs.Contexts.{context_of}
use Rattle.tcertify.specs.Nodes.{name_at, node_site}
use Rattle.tcertify.specs.Words.{reason_of}
use Rattle.tcertify.proofs.Following.{runs_then}
use Rattle.tcertify.proofs.NodeRunning.{runs_at_stop}
use Rattle.tcertify.proofs.node.Node.listens.Goals as goal

-- what follows
abbrev begins : Context → (channel : ℕ) → Site → Name → Unit {0} → Doing
begins ctx channel s x _ = spec.begins_to_listen s x ctx channel

pub returns-in_err-is_own : goal.returns-in_err-is_own
returns-in_err-is_own c =
    let a = c.args.self.now in let k = c.args.process in let ctx = context_of c.args.context.now in
    let p = err_from_is_err_and c.from_residual.result c.from_residual.ensures.1 in
    rw (p.1, p.2)
    (runs_at_stop (require (same_name (name_at a c.args.other) (name_at a k)) (Breaks LinkBusy))
    (begins ctx c.args.channel (node_site a) (name_at a k)) a a (reason_of c.in_err-is_own.field-0.0)
    c.in_err-is_own.ensures)

pub returns-in_err-begins_to_listen : goal.returns-in_err-begins_to_listen
returns-in_err-begins_to_listen c =
    let a = c.args.self.now in let k = c.args.process in let ctx = context_of c.args.context.now in
    let why = reason_of c.in_err-begins_to_listen.field-0.0 in
    let p = err_from_is_err_and c.from_residual-in_err-begins_to_listen.result
    c.from_residual-in_err-begins_to_listen.ensures.1 in
    rw (p.1, p.2)
    (runs_then a a c.begins_to_listen.new.self k
    (require (same_name (name_at a c.args.other) (name_at a k)) (Breaks LinkBusy)) (begins ctx c.args.channel) tt
    c.in_ok-is_own.ensures c.requires.there (Err why) c.in_err-begins_to_listen.ensures)

pub returns : goal.returns
returns c =
    let a = c.args.self.now in let k = c.args.process in let ctx = context_of c.args.context.now in
    runs_then a a c.begins_to_listen.new.self k
    (require (same_name (name_at a c.args.other) (name_at a k)) (Breaks LinkBusy)) (begins ctx c.args.channel) tt
    c.in_ok-is_own.ensures c.requires.there (Ok tt) c.in_ok-begins_to_listen.ensures
