use Rattle.std.proofs.Common.{ap, ◌∙◌}
use Rattle.tplan.specs.declared.event.PacketKind.TheVariants.{Data}
use Rattle.trounds.specs.Parts.{part_packet}
use Rattle.trounds.proofs.round_node.RoundNode.arrivals_at.Goals as goal

pub returns-clause-part : goal.returns-clause-part
returns-clause-part c =
    c.packet_comes-2.ensures.part
    ∙ ap (part_packet c.args.lay c.args.rule.now.holds.now c.args.rule.now.round Data c.args.link)
    c.packet_comes.ensures.part
