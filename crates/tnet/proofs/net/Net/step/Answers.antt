use Rattle.tnet.specs.NetParts.{net_of_parts}
use Rattle.tnet.proofs.Applying.{step_seen}
use Rattle.tnet.proofs.Soundness.{left_sound}
use Rattle.tnet.proofs.net.Net.step.Goals as goal

pub invariant_of-self : goal.invariant_of-self
invariant_of-self c =
    left_sound c.args.event (net_of_parts c.self.inside.parts) (net_of_parts c.step.new.self) c.step.result
    c.self.invariant c.step.ensures

pub returns-clause-run : goal.returns-clause-run
returns-clause-run c =
    rw (← c.self.view_is)
    (step_seen c.args.event (net_of_parts c.self.inside.parts) (net_of_parts c.step.new.self) c.step.result
    c.self.invariant c.step.ensures)
