use Rattle.std.proofs.Common.{sym, ap, subst, Err, inl, inr}
use Rattle.tword.specs.declared.breaks.Break.TheVariants.{LinkBusy}
use Rattle.tprocesses.specs.Choosing.{disables_pending}
use Rattle.tprocesses.specs.Parts.{Breaks}
use Rattle.tcertify.specs.declared.channel.LinkHalf.{LinkHalf}
use Rattle.tcertify.specs.Channels.{link_of, process_on}
use Rattle.tcertify.specs.Contexts.{context_of}
use Rattle.tcertify.specs.Nodes.{Does, RunsAt, name_at, names, node_site, nothing}
use Rattle.tcertify.proofs.NodeRunning.{runs_at_stopped}
use Rattle.tcertify.proofs.node.Node.disables_pending.Goals as goal

pub chooses_fired-requires-clause-known : goal.chooses_fired-requires-clause-known
chooses_fired-requires-clause-known c = c.requires.known c.in-Fired.other (ap process_on c.in-Fired.is)

pub listens-requires-clause-known : goal.listens-requires-clause-known
listens-requires-clause-known c = c.requires.known c.in-Enabled.other (ap process_on c.in-Enabled.is)

pub listens-requires-in-Awaited-clause-known : goal.listens-requires-in-Awaited-clause-known
listens-requires-in-Awaited-clause-known c = c.requires.known c.in-Awaited.other (ap process_on c.in-Awaited.is)

pub returns-in-Fired : goal.returns-in-Fired
returns-in-Fired c =
    let a = c.args.self.now in let k = c.args.process in let ctx = context_of c.args.context.now in
    subst (λ (h : LinkHalf). Does (disables_pending (node_site a) (name_at a k) ctx c.args.channel
    (link_of (names a) h)) nothing a c.chooses_fired.result c.chooses_fired.new.self) (sym c.in-Fired.is)
    c.chooses_fired.ensures

pub returns-in-Enabled : goal.returns-in-Enabled
returns-in-Enabled c =
    let a = c.args.self.now in let k = c.args.process in let ctx = context_of c.args.context.now in
    subst (λ (h : LinkHalf). Does (disables_pending (node_site a) (name_at a k) ctx c.args.channel
    (link_of (names a) h)) nothing a c.listens.result c.listens.new.self) (sym c.in-Enabled.is) c.listens.ensures

pub returns-in-Awaited : goal.returns-in-Awaited
returns-in-Awaited c =
    let a = c.args.self.now in let k = c.args.process in let ctx = context_of c.args.context.now in
    subst (λ (h : LinkHalf). Does (disables_pending (node_site a) (name_at a k) ctx c.args.channel
    (link_of (names a) h)) nothing a c.listens-in-Awaited.result c.listens-in-Awaited.new.self) (sym c.in-Awaited.is)
    c.listens-in-Awaited.ensures

pub returns-in-Empty : goal.returns-in-Empty
returns-in-Empty c =
    let a = c.args.self.now in let k = c.args.process in let ctx = context_of c.args.context.now in
    let stops = λ (h : LinkHalf). RunsAt (disables_pending (node_site a) (name_at a k) ctx c.args.channel
    (link_of (names a) h)) a (Err (Breaks LinkBusy)) a in
    elim c.in-Empty.is [
      | inl e ↦ subst stops (sym e) (runs_at_stopped (Breaks LinkBusy) a)
      | inr e ↦ subst stops (sym e.1) (runs_at_stopped (Breaks LinkBusy) a)
    ]
