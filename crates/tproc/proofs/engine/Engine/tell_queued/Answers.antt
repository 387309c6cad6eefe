use Rattle.tproc.specs.Links.{readies_queued}
use Rattle.tproc.proofs.Ready.{acted_or_unchanged}
use Rattle.tproc.proofs.engine.Engine.tell_queued.Goals as goal

pub returns : goal.returns
returns c =
    acted_or_unchanged (readies_queued c.args.process) c.args.self.now c.ready_queued.new.self _ c.ready_queued.ensures
