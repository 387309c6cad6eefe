use Rattle.tverdict.proofs.machine.Machine.step.Goals as goal

pub returns-in-Channel-clause-stepped : goal.returns-in-Channel-clause-stepped
returns-in-Channel-clause-stepped c =
    c.channel_step.ensures.stepped c.args.plan.now c.requires.follows c.requires.step

pub returns-in-Successor-clause-stepped : goal.returns-in-Successor-clause-stepped
returns-in-Successor-clause-stepped c =
    c.successor_step.ensures.stepped c.args.plan.now c.requires.follows c.requires.step
