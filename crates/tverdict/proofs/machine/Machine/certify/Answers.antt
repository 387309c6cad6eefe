use Rattle.tverdict.proofs.Turned.{made_follows, over_follows}
use Rattle.tverdict.proofs.machine.Machine.certify.Goals as goal

pub returns-in-Some-clause-told : goal.returns-in-Some-clause-told
returns-in-Some-clause-told c =
    c.in-Some.ensures c.args.plan.now
    (made_follows c.args.plan.now c.loop-self.self c.turns.new.self _ _ c.in-Made.is c.in_ok-turns.ensures)

pub returns-in-Over-clause-told : goal.returns-in-Over-clause-told
returns-in-Over-clause-told c =
    let (follows, none) =
    over_follows c.args.plan.now c.loop-self.self c.turns.new.self _ c.in-Over.is c.in_ok-turns.ensures in
    c.ending.ensures c.args.plan.now c.args.most_steps follows none
