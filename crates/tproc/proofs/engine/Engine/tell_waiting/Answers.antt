use Rattle.tproc.specs.Links.{wakes}
use Rattle.tproc.proofs.Ready.{acted_or_unchanged}
use Rattle.tproc.proofs.engine.Engine.tell_waiting.Goals as goal

pub returns : goal.returns
returns c = acted_or_unchanged (wakes c.args.process) c.args.self.now c.wake.new.self _ c.wake.ensures
