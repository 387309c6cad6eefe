use Rattle.std.proofs.Common.{arith}
use Rattle.tnet.proofs.Starting.{still_added}
use Rattle.tnet.proofs.opening.add_process.Goals as goal

pub returns-clause-still : goal.returns-clause-still
returns-clause-still c =
    still_added c.args.memory c.args.process.now.wdesc c.args.process.now.iptr _ _ c.add_process.result
    (omega (arith, c.get-descriptor.type_inv)) c.add_process.ensures c.requires.unstarted
