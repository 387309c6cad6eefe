use Rattle.tcertify.specs.Words.{number_of, word_of}
use Rattle.tcertify.proofs.Successors.{all_ended, not_ended}
use Rattle.tcertify.proofs.node.Node.successor_step.Goals as goal

pub returns-in_default : goal.returns-in_default
returns-in_default c =
    not_ended c.args.self.now c.look.new.self c.args.count (word_of c.look.result) c.look.ensures.looks
    (c.last_priority.ensures.none c.in_default.is)

pub returns : goal.returns
returns c =
    all_ended c.args.self.now c.look.new.self c.args.count (word_of c.look.result) c.look.ensures.looks _ _
    (number_of c.in-Some.priority) (rw c.in-Some.is at c.last_priority.ensures.some) c.goes_on_after.ensures
