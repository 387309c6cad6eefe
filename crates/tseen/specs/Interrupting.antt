-- Where a high process interrupts a low one, and where the low one goes on again.
-- Source: own choice.
use Rattle.std.specs.Prelude.{ℕ, ◌≡◌, List, [], ◌∷◌, Some, None, slice_get}
use Rattle.tproc.specs.declared.waiter.Suspended.{Suspended}
use Rattle.tplan.specs.declared.plan.NodePlan.{NodePlan}
use Rattle.tplan.specs.declared.plan.Plan.{Plan}
use Rattle.tnet.specs.Rendezvous.{Node, Configuration, node_of}
use Rattle.tprocesses.specs.Places.{Place, Name}
use Rattle.tprocesses.specs.Values.{Value}
use Rattle.tseen.specs.Seats.{Queued}
use Rattle.tseen.specs.Processes.{KeepsFlags}
use Rattle.tseen.specs.Shown.{Shows}
use Rattle.tseen.specs.Steps.{IsSteady, Makes, LeadsTo}

-- at a node a low process runs, and a high one is the first that is queued; no schedule can change its flags
pub record IsInterrupting (p : Plan) (c : Configuration) (s : Place → Value) (n : ℕ) (x : Name) : Type 0 where
  pub shows : Shows p c s
  pub plan : NodePlan
  pub planned : slice_get p.nodes n ≡ Some plan
  pub node : Node
  pub here : node_of c n ≡ Some node
  pub steady : IsSteady node
  pub low : node.machine.control.current ≡ Some 1
  pub process : ℕ
  pub others : List ℕ
  pub high : node.machine.control.high ≡ process ∷ others
  pub name : shows.named n (Queued process) ≡ x
  pub kept : KeepsFlags s n

-- that the high one interrupts it is seen as that this one goes on from its rest; the low one stands as running still
abbrev pub InterruptionsAreSeen : Type 0
InterruptionsAreSeen =
    (p : Plan) (c : Configuration) (s s' : Place → Value) (n : ℕ) (x : Name) → IsInterrupting p c s n x
    → Makes p x s s' → LeadsTo p c n s'

-- at a node no process runs, no high one is queued, and a low one was interrupted; no schedule can change its flags
pub record IsResuming (p : Plan) (c : Configuration) (s : Place → Value) (n : ℕ) : Type 0 where
  pub shows : Shows p c s
  pub plan : NodePlan
  pub planned : slice_get p.nodes n ≡ Some plan
  pub node : Node
  pub here : node_of c n ≡ Some node
  pub steady : IsSteady node
  pub idle : node.machine.control.current ≡ None
  pub no_high : node.machine.control.high ≡ []
  pub suspended : Suspended
  pub interrupted : node.machine.control.interrupted ≡ Some suspended
  pub kept : KeepsFlags s n

-- it goes on, and nothing changes that is shown: in the process machine it never stopped running
abbrev pub ResumptionsAreSeen : Type 0
ResumptionsAreSeen = (p : Plan) (c : Configuration) (s : Place → Value) (n : ℕ) → IsResuming p c s n → LeadsTo p c n s
