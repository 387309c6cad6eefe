use Rattle.tverdict.proofs.Ended.{had_many_at}
use Rattle.tverdict.proofs.machine.Machine.crowding.Goals as goal

pub returns : goal.returns
returns c = λ plan f. (f, had_many_at plan c.args.self.now f c.in_ok-node.node c.in_ok-node.ensures.some)
