use Rattle.std.proofs.Common.{Ok, Bool, true, false, subst, sym}
use Rattle.tprocesses.specs.Instructions.{flags_before}
use Rattle.tcertify.specs.Nodes.{RunsAt, node_site}
use Rattle.tcertify.proofs.NodeFlags.{flags_seen}
use Rattle.tcertify.proofs.NodeRunning.{runs_at_given}
use Rattle.tcertify.proofs.node.Node.flags_before.Goals as goal

pub returns-then-not-looks : goal.returns-then-not-looks
returns-then-not-looks c =
    let a = c.args.self.now in
    subst (λ (t : Bool). RunsAt (flags_before (node_site a) t) a (Ok (record {
      error = false;
      halt_on_error = true;
    })) a)
    (sym c.if-not-looks.true) (runs_at_given (record { error = false; halt_on_error = true }) a)

pub returns : goal.returns
returns c =
    let a = c.args.self.now in let b = c.sees_halt_on_error-halt_on_error.new.self in
    let e = c.sees_error-error.result in let h = c.sees_halt_on_error-halt_on_error.result in
    subst (λ (t : Bool). RunsAt (flags_before (node_site a) t) a (Ok (record { error = e; halt_on_error = h })) b)
    (sym c.if-not-looks.false)
    (flags_seen a c.sees_error-error.new.self b e h c.sees_error-error.ensures
    c.sees_halt_on_error-halt_on_error.ensures)
