use Rattle.std.proofs.Common.{ℕ, true}
use Rattle.std.proofs.lemmas.Result.{err_from_is_err_and}
use Rattle.tword.specs.declared.breaks.Break.TheVariants.{LinkBusy}
use Rattle.tprocesses.specs.Choosing as spec
use Rattle.tprocesses.specs.Parts.{Breaks, Doing, require, ◌>>=◌}
use Rattle.tprocesses.specs.Places.{Name, same_name}
use Rattle.tprocesses.specs.Touching.{Site}
use Rattle.tprocesses.specs.Values.{Context}
use Rattle.tcertify.specs.Contexts.{context_of}
use Rattle.tcertify.specs.Nodes.{name_at, node_site, nothing}
use Rattle.tcertify.specs.Words.{reason_of}
use Rattle.tcertify.proofs.Following.{does_then}
use Rattle.tcertify.proofs.NodeRunning.{runs_at_stop}
use Rattle.tcertify.proofs.node.Node.chooses_fired.Goals as goal

-- what follows each part
abbrev chooses : Context → Site → Name → Unit {0} → Doing
chooses ctx s x _ = spec.selects s x ctx true

abbrev gives : Context → (channel : ℕ) → Site → Name → Unit {0} → Doing
gives ctx channel s x _ = spec.gives_up_link s x channel >>= chooses ctx s x

pub returns-in_err-is_own : goal.returns-in_err-is_own
returns-in_err-is_own c =
    let a = c.args.self.now in let k = c.args.process in let ctx = context_of c.args.context.now in
    let p = err_from_is_err_and c.from_residual.result c.from_residual.ensures.1 in
    rw (p.1, p.2)
    (runs_at_stop (require (same_name (name_at a c.args.other) (name_at a k)) (Breaks LinkBusy))
    (gives ctx c.args.channel (node_site a) (name_at a k)) a a (reason_of c.in_err-is_own.field-0.0)
    c.in_err-is_own.ensures)

pub returns : goal.returns
returns c =
    let a = c.args.self.now in let k = c.args.process in let ctx = context_of c.args.context.now in
    let b = c.gives_up_link.new.self in
    does_then a a c.selects.new.self k
    (require (same_name (name_at a c.args.other) (name_at a k)) (Breaks LinkBusy)) (gives ctx c.args.channel) tt
    c.in_ok-is_own.ensures c.requires.there nothing c.selects.result
    (does_then a b c.selects.new.self k (spec.gives_up_link (node_site a) (name_at a k) c.args.channel) (chooses ctx) tt
    c.gives_up_link.ensures c.requires.there nothing c.selects.result c.selects.ensures)
