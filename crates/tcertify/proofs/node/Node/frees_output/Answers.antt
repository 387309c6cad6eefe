use Rattle.tcertify.proofs.NodeOutputs.{frees, frees_not}
use Rattle.tcertify.proofs.node.Node.frees_output.Goals as goal

pub returns-then-not-is_unfinished : goal.returns-then-not-is_unfinished
returns-then-not-is_unfinished c =
    frees_not c.args.self.now c.is_unfinished.new.self c.args.link c.is_unfinished.result c.is_unfinished.ensures
    c.if-not-is_unfinished.true

pub returns : goal.returns
returns c =
    frees c.args.self.now c.is_unfinished.new.self c.args.link c.is_unfinished.result c.is_unfinished.ensures
    c.set_unfinished.new.self c.if-not-is_unfinished.false c.set_unfinished.ensures
