use Rattle.std.proofs.Common.{Ok, Bool, subst, sym}
use Rattle.tprocesses.specs.Instructions.{flags_after}
use Rattle.tcertify.specs.Flags.{flags_of}
use Rattle.tcertify.specs.Nodes.{RunsAt, node_site}
use Rattle.tcertify.proofs.NodeFlags.{flags_put}
use Rattle.tcertify.proofs.NodeRunning.{runs_at_given}
use Rattle.tcertify.proofs.node.Node.flags_after.Goals as goal

pub returns-then-looked : goal.returns-then-looked
returns-then-looked c =
    let a = c.args.self.now in let b = c.puts_halt_on_error.new.self in let r = c.args.registers.now in
    subst (λ (t : Bool). RunsAt (flags_after (node_site a) t (flags_of c.args.before) r) a (Ok tt) b)
    (sym c.if-looked.true)
    (flags_put a c.puts_error.new.self b (flags_of c.args.before) r.error r.halt_on_error c.puts_error.ensures
    c.puts_halt_on_error.ensures)

pub returns-else-looked : goal.returns-else-looked
returns-else-looked c =
    let a = c.args.self.now in let r = c.args.registers.now in
    subst (λ (t : Bool). RunsAt (flags_after (node_site a) t (flags_of c.args.before) r) a (Ok tt) a)
    (sym c.if-looked.false) (runs_at_given tt a)
