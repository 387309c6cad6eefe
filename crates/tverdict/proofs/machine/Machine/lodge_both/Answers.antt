use Rattle.tverdict.proofs.Berths.{lodged_once, lodged_twice}
use Rattle.tverdict.proofs.machine.Machine.lodge_both.Goals as goal

pub returns-in_ok-lodge-2 : goal.returns-in_ok-lodge-2
returns-in_ok-lodge-2 c =
    lodged_twice c.args.number c.args.one c.args.other c.args.self.now c.lodge.new.self c.lodge-then-other-one.new.self
    c.in_ok-lodge.ensures c.in_ok-lodge-2.ensures c.if-other-one.true

pub returns-else-other-one : goal.returns-else-other-one
returns-else-other-one c =
    lodged_once c.args.number c.args.one c.args.other c.args.self.now c.lodge.new.self c.lodge.new.self
    c.in_ok-lodge.ensures c.if-other-one.false
