use Rattle.std.proofs.Common.{ap, ◌∙◌, fold}
use Rattle.tnet.specs.Net.{four_links}
use Rattle.trounds.specs.Parts.{Part, part_arrivals, part_runs, after_takes, after_sends}
use Rattle.trounds.proofs.round_node.RoundNode.active_part.Goals as goal

pub returns : goal.returns
returns c =
    c.settle.ensures
    ∙ (c.sends.ensures.part
    ∙ ap after_sends
    (c.run.ensures.part
    ∙ ap (part_runs c.args.rule.now.slice)
    (c.takes.ensures.part
    ∙ ap after_takes (c.arrivals.ensures.part
    ∙ ap (λ (p : Part). fold (part_arrivals c.args.self.now.inboxes c.args.rule.now.holds.now c.args.rule.now.round) p
    four_links)
    c.requires.fresh))))
