use Rattle.std.proofs.Common.{sym, ap, subst, Ok, Err, inl, inr}
use Rattle.tword.specs.declared.breaks.Break.TheVariants.{LinkBusy}
use Rattle.tprocesses.specs.Choosing.{enables_pending}
use Rattle.tprocesses.specs.Parts.{Breaks}
use Rattle.tcertify.specs.declared.channel.LinkHalf.{LinkHalf}
use Rattle.tcertify.specs.Channels.{link_of, process_on}
use Rattle.tcertify.specs.Nodes.{RunsAt, name_at, names, node_site, nothing}
use Rattle.tcertify.specs.Words.{told}
use Rattle.tcertify.proofs.NodeRunning.{runs_at_stopped}
use Rattle.tcertify.proofs.node.Node.enables_pending.Goals as goal

pub is_own-requires-clause-known : goal.is_own-requires-clause-known
is_own-requires-clause-known c = c.requires.known c.in-Enabled.other (ap process_on c.in-Enabled.is)

pub returns-in-Empty : goal.returns-in-Empty
returns-in-Empty c =
    let a = c.args.self.now in let k = c.args.process in
    subst (λ (h : LinkHalf). RunsAt (enables_pending (node_site a) (name_at a k) c.args.channel (link_of (names a) h)) a
    (Ok tt) c.sets_input.new.self) (sym c.in-Empty.is) c.sets_input.ensures.sets

pub returns-in-Enabled : goal.returns-in-Enabled
returns-in-Enabled c =
    let a = c.args.self.now in let k = c.args.process in
    subst (λ (h : LinkHalf). RunsAt (enables_pending (node_site a) (name_at a k) c.args.channel (link_of (names a) h)) a
    (told nothing c.is_own.result) a) (sym c.in-Enabled.is) c.is_own.ensures

pub returns-in-Offered : goal.returns-in-Offered
returns-in-Offered c =
    let a = c.args.self.now in let k = c.args.process in
    let stops = λ (h : LinkHalf). RunsAt (enables_pending (node_site a) (name_at a k) c.args.channel
    (link_of (names a) h)) a (Err (Breaks LinkBusy)) a in
    elim c.in-Offered.is [
      | inl e ↦ subst stops (sym e.1) (runs_at_stopped (Breaks LinkBusy) a)
      | inr rest ↦ elim rest [
        | inl e ↦ subst stops (sym e.1) (runs_at_stopped (Breaks LinkBusy) a)
        | inr e ↦ subst stops (sym e.1) (runs_at_stopped (Breaks LinkBusy) a)
      ]
    ]
