use Rattle.std.proofs.Common.{arith}
use Rattle.tcertify.specs.Contexts.{context_of, lent_of}
use Rattle.tcertify.proofs.NodeWaking.{wakes_not, woken}
use Rattle.tcertify.proofs.node.Node.wakes.Goals as goal

pub returns-in_default : goal.returns-in_default
returns-in_default c =
    wakes_not c.args.self.now c.stand.new.self c.args.process c.stand.result c.stand.ensures (lent_of c.args.lent)
    c.in_default.not-Waits

pub stands-requires : goal.stands-requires
stands-requires c = omega (arith, c.requires, c.stand.ensures.grows.processes)

pub returns : goal.returns
returns c =
    woken c.args.self.now c.stand.new.self c.args.process c.stand.result c.stand.ensures c.stands.new.self c.requires
    (lent_of c.args.lent) c.in-Waits.context (context_of c.with_lent.result) c.in-Waits.is c.with_lent.ensures
    c.stands.ensures
