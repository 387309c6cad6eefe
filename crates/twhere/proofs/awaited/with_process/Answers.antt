use Rattle.std.proofs.Common.{sym, ap}
use Rattle.tproc.specs.declared.waiter.Reason.{Reason}
use Rattle.twhere.specs.declared.waits.Want.TheVariants.{Input, Output}
use Rattle.twhere.specs.Waits.{process_waits}
use Rattle.twhere.proofs.AwaitedNodes.{adds_as, adds_none}
use Rattle.twhere.proofs.awaited.with_process.Goals as goal

pub returns-in-Receives : goal.returns-in-Receives
returns-in-Receives c =
    adds_as (adds_none c.args.set)
    (ap (λ (r : Reason). process_waits c.args.at.now.node.now.machine.control c.args.waiter.now.process r)
    (sym c.in-Receives.is))

pub returns-in-Sends : goal.returns-in-Sends
returns-in-Sends c =
    adds_as (adds_none c.args.set)
    (ap (λ (r : Reason). process_waits c.args.at.now.node.now.machine.control c.args.waiter.now.process r)
    (sym c.in-Sends.is))

pub returns-in-LinkInput : goal.returns-in-LinkInput
returns-in-LinkInput c =
    adds_as (c.with_far_node.ensures Input)
    (ap (λ (r : Reason). process_waits c.args.at.now.node.now.machine.control c.args.waiter.now.process r)
    (sym c.in-LinkInput.is))

pub returns-in-LinkOutput : goal.returns-in-LinkOutput
returns-in-LinkOutput c =
    adds_as (c.with_far_node-in-LinkOutput.ensures Output)
    (ap (λ (r : Reason). process_waits c.args.at.now.node.now.machine.control c.args.waiter.now.process r)
    (sym c.in-LinkOutput.is))

pub returns-in-Chooses : goal.returns-in-Chooses
returns-in-Chooses c =
    adds_as c.with_guards.ensures
    (ap (λ (r : Reason). process_waits c.args.at.now.node.now.machine.control c.args.waiter.now.process r)
    (sym c.in-Chooses.is))
