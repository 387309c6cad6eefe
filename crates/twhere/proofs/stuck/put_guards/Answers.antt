use Rattle.std.proofs.Common.{sym}
use Rattle.tfiles.proofs.Told.{tells_as, tells_then}
use Rattle.twhere.specs.declared.stuck.Who.TheVariants.{Process}
use Rattle.twhere.specs.Standing.{stuck_fact}
use Rattle.twhere.specs.Waits.{guard_at}
use Rattle.twhere.proofs.StuckFacts.{four_parts}
use Rattle.twhere.proofs.stuck.put_guards.Goals as goal

pub returns : goal.returns
returns g c =
    tells_as
    (tells_then c.put_guard.ensures
    (tells_then c.put_guard-2.ensures (tells_then c.put_guard-3.ensures c.put_guard-4.ensures)))
    (sym (four_parts
    (stuck_fact c.args.at.now.net.now c.args.at.now.number c.args.at.now.node.now (Process c.args.process))
    (guard_at c.args.at.now.node.now.machine.control c.args.process 0)
    (guard_at c.args.at.now.node.now.machine.control c.args.process 1)
    (guard_at c.args.at.now.node.now.machine.control c.args.process 2)
    (guard_at c.args.at.now.node.now.machine.control c.args.process 3)))
