use Rattle.std.proofs.Common.{sym, ap}
use Rattle.tlink.specs.Roles.{Role}
use Rattle.twhere.specs.Waits.{role_waits}
use Rattle.twhere.proofs.AwaitedNodes.{adds_as}
use Rattle.twhere.proofs.awaited.with_node.Goals as goal

pub returns-in-Processor : goal.returns-in-Processor
returns-in-Processor c =
    adds_as c.with_processes.ensures
    (ap (λ (r : Role). role_waits r c.args.at.now.node.now c.args.waiting.now) (sym c.in-Processor.ensures.0))

pub returns-in-Source : goal.returns-in-Source
returns-in-Source c =
    adds_as c.with_source.ensures
    (ap (λ (r : Role). role_waits r c.args.at.now.node.now c.args.waiting.now) (sym c.in-Source.ensures.0))

pub returns-in-Sink : goal.returns-in-Sink
returns-in-Sink c =
    adds_as c.with_sink.ensures
    (ap (λ (r : Role). role_waits r c.args.at.now.node.now c.args.waiting.now) (sym c.in-Sink.ensures.0))
