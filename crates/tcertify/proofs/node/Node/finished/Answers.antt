use Rattle.tcertify.proofs.NodeOutputs.{finishes, finishes_not}
use Rattle.tcertify.proofs.NodeRunning.{runs_at_given}
use Rattle.tcertify.proofs.node.Node.finished.Goals as goal

pub returns-in-Input : goal.returns-in-Input
returns-in-Input c = rw c.in-Input.is (runs_at_given tt c.args.self.now)

pub returns-then-is_unfinished : goal.returns-then-is_unfinished
returns-then-is_unfinished c =
    rw c.in-Output.is
    (finishes_not c.args.self.now c.is_unfinished.new.self c.args.link c.is_unfinished.result c.is_unfinished.ensures
    c.if-is_unfinished.true)

pub returns-else-is_unfinished : goal.returns-else-is_unfinished
returns-else-is_unfinished c =
    rw c.in-Output.is
    (finishes c.args.self.now c.is_unfinished.new.self c.args.link c.is_unfinished.result c.is_unfinished.ensures
    c.if-is_unfinished.false)
