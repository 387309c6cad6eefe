use Rattle.std.proofs.Common.{sym, ◌∙◌}
use Rattle.trounds.specs.RoundNodes.{station_of}
use Rattle.trounds.proofs.PartRests.{rests_in_round}
use Rattle.trounds.proofs.round_node.RoundNode.part_of_round.Goals as goal

pub returns-else-not-self : goal.returns-else-not-self
returns-else-not-self c =
    c.requires.is_fresh
    ∙ sym (rests_in_round c.args.rule.now.holds.now c.args.rule.now.slice c.args.rule.now.round (station_of
    c.args.self.now)
    (c.args.self.now.no_event c.if-not-self.false))
