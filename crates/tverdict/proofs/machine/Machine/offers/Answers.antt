use Rattle.tverdict.proofs.machine.Machine.offers.Goals as goal

pub returns-then-from-len : goal.returns-then-from-len
returns-then-from-len c = c.node_offers.ensures c.args.plan.now c.args.notes.now c.requires
