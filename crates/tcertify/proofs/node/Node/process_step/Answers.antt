use Rattle.std.proofs.Common.{refl}
use Rattle.tcertify.proofs.Completing.{steps}
use Rattle.tcertify.proofs.node.Node.process_step.Goals as goal

pub returns-in-Runs-clause-done : goal.returns-in-Runs-clause-done
returns-in-Runs-clause-done c =
    steps c.args.self.now c.sees_running.new.self c.args.process _ c.sees_running.ensures c.requires.there _ _ _ refl
    c.runs.ensures.done
