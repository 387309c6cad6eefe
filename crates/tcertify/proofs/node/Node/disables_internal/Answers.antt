use Rattle.std.proofs.Common.{Bool}
use Rattle.std.proofs.lemmas.Result.{err_from_is_err_and}
use Rattle.tprocesses.specs.Choosing as spec
use Rattle.tprocesses.specs.Parts.{Doing}
use Rattle.tprocesses.specs.Places.{Name}
use Rattle.tprocesses.specs.Touching.{Site}
use Rattle.tprocesses.specs.Values.{Context}
use Rattle.tcertify.specs.Contexts.{context_of}
use Rattle.tcertify.specs.Nodes.{name_at, node_site, nothing}
use Rattle.tcertify.proofs.Following.{does_then}
use Rattle.tcertify.proofs.NodeRunning.{does_stop}
use Rattle.tcertify.proofs.node.Node.disables_internal.Goals as goal

-- what follows
abbrev selects : Context → Site → Name → Bool → Doing
selects ctx s x ready = spec.selects s x ctx ready

pub returns-in_err-ready : goal.returns-in_err-ready
returns-in_err-ready c =
    let a = c.args.self.now in let k = c.args.process in let ctx = context_of c.args.context.now in
    let p = err_from_is_err_and c.from_residual.result c.from_residual.ensures.1 in
    rw (p.1, p.2)
    (does_stop (spec.disables (node_site a) (name_at a k) c.args.channel) (selects ctx (node_site a) (name_at a k))
    (λ (b : Bool). b) nothing a c.disables.new.self c.in_err-ready.field-0.0 c.in_err-ready.ensures)

pub returns : goal.returns
returns c =
    let a = c.args.self.now in let k = c.args.process in let ctx = context_of c.args.context.now in
    does_then a c.disables.new.self c.selects.new.self k (spec.disables (node_site a) (name_at a k) c.args.channel)
    (selects ctx) c.in_ok-ready.ready c.in_ok-ready.ensures c.requires nothing c.selects.result c.selects.ensures
