use Rattle.std.proofs.Common.{ℕ, ◌<◌, Ok, Err, arith, length, subst}
use Rattle.tprocesses.specs.Parts.{HasNoStep}
use Rattle.tcertify.specs.Nodes.{RunsAt, name_at}
use Rattle.tcertify.specs.Standing.{stand_of}
use Rattle.tcertify.specs.Starts.{joins}
use Rattle.tcertify.proofs.NodeWaking.{joined, joins_not}
use Rattle.tcertify.proofs.node.Node.joins_again.Goals as goal

pub returns-in_default-stand : goal.returns-in_default-stand
returns-in_default-stand c =
    let a = c.args.self.now in let b = c.stand.new.self in
    subst (λ (n : ℕ). RunsAt (joins (name_at a n) (stand_of c.args.stand)) a (Err HasNoStep) b) c.in-Ok.ensures.1
    (joins_not a b c.in-Ok.process c.stand.result c.stand.ensures (stand_of c.args.stand) c.in_default-stand.not-Absent)

pub returns : goal.returns
returns c =
    let a = c.args.self.now in let b = c.stands.new.self in
    let same = c.in-Ok.ensures.1 in
    let there : c.in-Ok.process < length a.processes.items.items = omega (arith, same, c.requires) in
    subst (λ (n : ℕ). RunsAt (joins (name_at a n) (stand_of c.args.stand)) a (Ok tt) b) same
    (joined a c.stand.new.self c.in-Ok.process c.stand.result c.stand.ensures b there (stand_of c.args.stand)
    c.in-Absent.is c.stands.ensures)
