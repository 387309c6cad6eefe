use Rattle.std.proofs.Common.{sym, ap}
use Rattle.tlink.specs.Roles.{Role}
use Rattle.tfiles.proofs.Told.{tells_as}
use Rattle.twhere.specs.Standing.{role_stuck}
use Rattle.twhere.proofs.stuck.put_node.Goals as goal

pub returns-in-Processor : goal.returns-in-Processor
returns-in-Processor g c =
    tells_as c.put_processes.ensures
    (ap (λ (r : Role). role_stuck r c.args.at.now.net.now c.args.at.now.number c.args.at.now.node.now
    c.args.waiting.now) (sym c.in-Processor.ensures.0))

pub returns-in-Source : goal.returns-in-Source
returns-in-Source g c =
    tells_as c.put_source.ensures
    (ap (λ (r : Role). role_stuck r c.args.at.now.net.now c.args.at.now.number c.args.at.now.node.now
    c.args.waiting.now) (sym c.in-Source.ensures.0))

pub returns-in-Sink : goal.returns-in-Sink
returns-in-Sink g c =
    tells_as c.put_sink.ensures
    (ap (λ (r : Role). role_stuck r c.args.at.now.net.now c.args.at.now.number c.args.at.now.node.now
    c.args.waiting.now) (sym c.in-Sink.ensures.0))
