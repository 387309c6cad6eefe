use Rattle.tproc.specs.Machine.{priority_of}
use Rattle.tproc.proofs.Saved.{last_is_saved}
use Rattle.tproc.proofs.state.State.last_saved.Goals as goal

pub returns-clause-saved : goal.returns-clause-saved
returns-clause-saved c =
    rw c.last.ensures
    (last_is_saved (c.args.claimed.now.marks) c.args.self.now (priority_of c.args.process) c.requires.saved)
