use Rattle.std.proofs.Common.{ap, ◌∙◌}
use Rattle.tplan.specs.declared.event.Act.{Act}
use Rattle.trounds.specs.Parts.{part_does}
use Rattle.trounds.specs.RoundNodes.{part_so_far}
use Rattle.trounds.proofs.PartPackets.{comes_in, stays_out}
use Rattle.trounds.proofs.round_node.RoundNode.packet_that_lay.Goals as goal

pub returns-then-not-is_held-clause-part : goal.returns-then-not-is_held-clause-part
returns-then-not-is_held-clause-part c = λ lay there.
    comes_in lay c.args.rule.now.holds.now c.args.rule.now.round c.args.link (part_so_far c.args.self.now)
    c.end_at-end.result c.end_at-end.ensures c.args.kind (part_so_far c.does.new.self) c.is_held.result
    c.is_held.ensures there c.if-not-is_held.true
    (c.does.ensures.part ∙ ap (λ (a : Act). part_does a (part_so_far c.args.self.now)) c.taking.ensures)

pub returns-else-not-is_held-clause-part : goal.returns-else-not-is_held-clause-part
returns-else-not-is_held-clause-part c = λ lay there.
    stays_out lay c.args.rule.now.holds.now c.args.rule.now.round c.args.link (part_so_far c.args.self.now)
    c.end_at-end.result c.end_at-end.ensures c.args.kind c.is_held.result c.is_held.ensures c.if-not-is_held.false
