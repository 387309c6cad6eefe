use Rattle.std.proofs.Common.{◌∙◌, ap}
use Rattle.trounds.specs.Parts.{Part, part_arrivals}
use Rattle.trounds.proofs.round_node.RoundNode.arrivals.Goals as goal

pub returns-clause-part : goal.returns-clause-part
returns-clause-part c =
    c.arrivals_at-4.ensures.part
    ∙ ap (λ (p : Part). part_arrivals c.args.self.now.inboxes c.args.rule.now.holds.now c.args.rule.now.round p 3)
    (c.arrivals_at-3.ensures.part
    ∙ ap (λ (p : Part). part_arrivals c.args.self.now.inboxes c.args.rule.now.holds.now c.args.rule.now.round p 2)
    (c.arrivals_at-2.ensures.part
    ∙ ap (λ (p : Part). part_arrivals c.args.self.now.inboxes c.args.rule.now.holds.now c.args.rule.now.round p 1)
    c.arrivals_at.ensures.part))
