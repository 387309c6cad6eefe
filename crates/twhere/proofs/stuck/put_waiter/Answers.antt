use Rattle.std.proofs.Common.{sym, ap}
use Rattle.tproc.specs.declared.waiter.Reason.{Reason}
use Rattle.tfiles.proofs.Told.{tells_as, tells_none}
use Rattle.twhere.specs.declared.stuck.Who.TheVariants.{Process}
use Rattle.twhere.specs.Standing.{stuck_facts}
use Rattle.twhere.specs.Waits.{process_waits}
use Rattle.twhere.proofs.stuck.put_waiter.Goals as goal

pub returns-in-Receives : goal.returns-in-Receives
returns-in-Receives g c =
    tells_as (tells_none c.args.out.now)
    (ap (λ (r : Reason). stuck_facts c.args.at.now.net.now c.args.at.now.number c.args.at.now.node.now
    (Process c.args.waiter.now.process)
    (process_waits c.args.at.now.node.now.machine.control c.args.waiter.now.process r)) (sym c.in-Receives.is))

pub returns-in-Sends : goal.returns-in-Sends
returns-in-Sends g c =
    tells_as (tells_none c.args.out.now)
    (ap (λ (r : Reason). stuck_facts c.args.at.now.net.now c.args.at.now.number c.args.at.now.node.now
    (Process c.args.waiter.now.process)
    (process_waits c.args.at.now.node.now.machine.control c.args.waiter.now.process r)) (sym c.in-Sends.is))

pub returns-in-LinkInput : goal.returns-in-LinkInput
returns-in-LinkInput g c =
    tells_as c.put_wait_of.ensures
    (ap (λ (r : Reason). stuck_facts c.args.at.now.net.now c.args.at.now.number c.args.at.now.node.now
    (Process c.args.waiter.now.process)
    (process_waits c.args.at.now.node.now.machine.control c.args.waiter.now.process r)) (sym c.in-LinkInput.is))

pub returns-in-LinkOutput : goal.returns-in-LinkOutput
returns-in-LinkOutput g c =
    tells_as c.put_wait_of-in-LinkOutput.ensures
    (ap (λ (r : Reason). stuck_facts c.args.at.now.net.now c.args.at.now.number c.args.at.now.node.now
    (Process c.args.waiter.now.process)
    (process_waits c.args.at.now.node.now.machine.control c.args.waiter.now.process r)) (sym c.in-LinkOutput.is))

pub returns-in-Chooses : goal.returns-in-Chooses
returns-in-Chooses g c =
    tells_as c.put_guards.ensures
    (ap (λ (r : Reason). stuck_facts c.args.at.now.net.now c.args.at.now.number c.args.at.now.node.now
    (Process c.args.waiter.now.process)
    (process_waits c.args.at.now.node.now.machine.control c.args.waiter.now.process r)) (sym c.in-Chooses.is))
