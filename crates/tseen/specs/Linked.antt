-- Which steps of links are seen as which steps of the process machine. Each case has the premise that the step of the
-- process machine does not stop, as none of a certified run does.
-- Source: own choice.
use Rattle.std.specs.Prelude.{ℕ, ◌≡◌, true, None, Some, slice_get}
use Rattle.tcode.specs.declared.instruction.Operation.{Operation}
use Rattle.tcpu.specs.declared.registers.Next.TheVariants.{Schedule}
use Rattle.tplan.specs.declared.plan.End.{End}
use Rattle.tplan.specs.declared.plan.NodePlan.{NodePlan}
use Rattle.tplan.specs.declared.plan.Plan.{Plan}
use Rattle.tproc.specs.LinkChannels.{is_link}
use Rattle.tnet.specs.Building.{fault_of}
use Rattle.tnet.specs.Rendezvous.{Configuration, IsCopy, IsWake, IsMismatch}
use Rattle.tplan.specs.Wires.{end_at}
use Rattle.tagents.specs.Agents.{Does}
use Rattle.tprocesses.specs.Places.{Place, Name}
use Rattle.tprocesses.specs.Values.{Value}
use Rattle.tprocesses.specs.Machine.{Wire}
use Rattle.tprocesses.specs.Certified.{ProcessStep, machine_of}
use Rattle.tseen.specs.Shown.{Shows}
use Rattle.tseen.specs.Steps.{AreSteady, IsCurrent, Makes, LeadsTo, next_of}
use Rattle.tseen.specs.Messages.{is_message}
use Rattle.tseen.specs.AgentSteps.{AgentMakes}

-- where the output of a processor that was copied is over, nothing changes that is shown: its process rests already
abbrev pub WakesAreSeen : Type 0
WakesAreSeen =
    (p : Plan) (c c' : Configuration) (s : Place → Value) (f : End) (plan : NodePlan)
    → slice_get p.nodes f.node ≡ Some plan → Shows p c s → AreSteady c → IsWake c f c' → Shows p c' s

-- a copy is seen as the step of its wire
abbrev pub CopiesAreSeen : Type 0
CopiesAreSeen =
    (p : Plan) (c c' : Configuration) (s s' : Place → Value) (f e : End)
    → fault_of p ≡ None → Shows p c s → AreSteady c → IsCopy c f e c' → AgentMakes p (Wire e) s s' → Shows p c' s'

-- a wire has a step, and it stops
pub record IsStopped (p : Plan) (e : End) (s : Place → Value) : Type 0 where
  pub label : ProcessStep
  pub after : Place → Value
  pub agent : label.agent ≡ Wire e
  pub step : Does (machine_of p) s label after
  pub stops : (machine_of p).stops label ≡ true

-- where an input and the offer that is wired to it differ in length, the wire has a step, and it stops: so no certified
-- run comes there
abbrev pub MismatchesStop : Type 0
MismatchesStop =
    (p : Plan) (c : Configuration) (s : Place → Value) (n : ℕ)
    → fault_of p ≡ None → Shows p c s → AreSteady c → (k : IsMismatch c n) → IsStopped p (end_at n k.link) s

-- an operation that sends or receives on a link is seen as its instruction: the process waits, and its half of the link
-- is taken
abbrev pub LinkOperationsAreSeen : Type 0
LinkOperationsAreSeen =
    (p : Plan) (c : Configuration) (s s' : Place → Value) (n : ℕ) (x : Name) (o : Operation)
    → (k : IsCurrent p c s n x) → next_of k.node.machine ≡ Some (Schedule o) → is_message o ≡ true
    → is_link k.node.machine.control.registers.b ≡ true → Makes p x s s' → LeadsTo p c n s'
