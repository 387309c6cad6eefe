use Rattle.tproc.specs.Links.{readies_running}
use Rattle.tproc.proofs.Ready.{acted_or_unchanged}
use Rattle.tproc.proofs.engine.Engine.tell_running.Goals as goal

pub returns : goal.returns
returns c =
    acted_or_unchanged (readies_running c.args.process) c.args.self.now c.ready_running-broken.new.self _
    c.ready_running-broken.ensures
