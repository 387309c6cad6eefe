use Rattle.std.proofs.Common.{ap, ◌∙◌}
use Rattle.tplan.specs.declared.event.Act.TheVariants.{Take}
use Rattle.trounds.specs.Parts.{part_does}
use Rattle.trounds.proofs.round_node.RoundNode.takes.Goals as goal

pub returns-clause-part : goal.returns-clause-part
returns-clause-part c =
    c.take-4.ensures.part
    ∙ ap (part_does (Take 3))
    (c.take-3.ensures.part
    ∙ ap (part_does (Take 2))
    (c.take-2.ensures.part
    ∙ ap (part_does (Take 1)) c.take.ensures.part))
