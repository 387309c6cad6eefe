use Rattle.std.proofs.Common.{sym, ◌∙◌}
use Rattle.trounds.specs.RoundNodes.{station_of}
use Rattle.trounds.proofs.PartRests.{data_is_busy, ack_is_busy}
use Rattle.trounds.proofs.round_node.RoundNode.packet_comes_in.Goals as goal

pub returns-then-enabled-clause-busy : goal.returns-then-enabled-clause-busy
returns-then-enabled-clause-busy c = λ on.
    data_is_busy (station_of c.args.self.now) c.args.link c.requires (sym c.enabled.ensures ∙ on)

pub returns-else-enabled-clause-busy : goal.returns-else-enabled-clause-busy
returns-else-enabled-clause-busy c = λ on.
    ack_is_busy (station_of c.args.self.now) c.args.link c.requires (sym c.enabled-else-enabled.ensures ∙ on)
