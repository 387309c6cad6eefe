use Rattle.std.proofs.Common.{◌+◌, false}
use Rattle.tfree.proofs.AnyByte.{none_may}
use Rattle.tfree.proofs.worker.Worker.may_take.Goals as goal

pub returns-else-enabled : goal.returns-else-enabled
returns-else-enabled c = λ none.
    none_may c.args.self.now.share (c.args.self.now.share.first + c.args.i) c.args.link c.args.self.now.events 0 false
    (c.enabled.ensures c.if-enabled.false) (c.enabled-else-enabled.ensures none)
