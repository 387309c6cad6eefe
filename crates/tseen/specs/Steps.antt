-- Which own steps of a node are seen as which steps of its processes. Each case has the premise that the steps of the
-- process do not stop, as none of a certified run does.
-- Source: own choice.
use Rattle.std.specs.Prelude.{ℕ, zero, suc, ◌+◌, ◌≡◌, ◌≢◌, ◌&&◌, List, [], ◌∷◌, Bool, true, false, Option, Some, None}
use Rattle.std.specs.Prelude.{Ok, Result, Err, slice_get, nat_le, nat_lt, length, option_map}
use Rattle.tword.specs.declared.breaks.Break.{Break}
use Rattle.tword.specs.Stores.{Store, HoldsBytes}
use Rattle.tword.specs.Actions.{run}
use Rattle.tcode.specs.declared.instruction.Instruction.{Instruction}
use Rattle.tcode.specs.declared.instruction.Operation.{Operation}
use Rattle.tcode.specs.declared.instruction.Operation.TheVariants.{Ldpri, Stoperr, Stopp}
use Rattle.tcode.specs.Decoding.{decode}
use Rattle.tcpu.specs.declared.registers.Registers.{Registers}
use Rattle.tcpu.specs.declared.registers.Next.{Next}
use Rattle.tcpu.specs.declared.registers.Next.TheVariants.{Go, Jumped, Schedule, Halt}
use Rattle.tcpu.specs.Outcomes.{Outcome}
use Rattle.tcpu.specs.Effects.{effect}
use Rattle.tproc.specs.Machine.{Control, Machine, claims_of}
use Rattle.tproc.specs.Hidden.{hidden}
use Rattle.tproc.specs.Kinds.{IsSized}
use Rattle.tproc.specs.Placement.{IsPlaced}
use Rattle.tproc.specs.Scheduler.{raised}
use Rattle.tproc.specs.declared.channels.Side.TheVariants.{Input}
use Rattle.tproc.specs.declared.waiter.Suspended.{Suspended}
use Rattle.tplan.specs.declared.event.Note.{Note}
use Rattle.tplan.specs.declared.plan.End.{End}
use Rattle.tplan.specs.declared.plan.NodePlan.{NodePlan}
use Rattle.tplan.specs.declared.plan.Plan.{Plan}
use Rattle.tplan.specs.declared.plan.SourcePlan.{SourcePlan}
use Rattle.tlink.specs.Roles.{Processor}
use Rattle.tnet.specs.Building.{fault_of, opening_configuration, ArePlanWords}
use Rattle.tnet.specs.Rendezvous.{Node, Configuration, Step, Lawful, node_of, IsLocal, IsNotice, IsRun, IsWake}
use Rattle.tplan.specs.Wires.{end_at}
use Rattle.tprocesses.specs.Places.{Place, Name, Standing, LinkHalf}
use Rattle.tprocesses.specs.Values.{Value, Stand, Chooses, stand_in, link_in}
use Rattle.tprocesses.specs.Machine.{Process, Wire, awaiting}
use Rattle.tseen.specs.AgentSteps.{AgentMakes, HasStep, HandsNone}
use Rattle.tseen.specs.Seats.{Current, Queued}
use Rattle.tseen.specs.Processes.{KeepsFlags}
use Rattle.tseen.specs.Shown.{Shows}

-- a processor that is placed, whose memory has a size of its kind, and whose pending inputs are hidden
pub record IsSteady (node : Node) : Type 0 where
  pub placed : IsPlaced node.machine
  pub sized : IsSized node.machine
  pub hides : hidden node.machine ≡ node.machine

-- the next step is a dispatch, or there is none: no process runs, or a high one is queued while a low one runs
abbrev pub is_dispatching : Option ℕ → (high : List ℕ) → Bool
is_dispatching None high = true
is_dispatching (Some zero) high = false
is_dispatching (Some (suc level)) [] = false
is_dispatching (Some (suc level)) (w ∷ ws) = true

-- a process is the current one of a node, and the next step of the node is its instruction. No schedule can change the
-- flags of the node
pub record IsCurrent (p : Plan) (c : Configuration) (s : Place → Value) (n : ℕ) (x : Name) : Type 0 where
  pub shows : Shows p c s
  pub plan : NodePlan
  pub planned : slice_get p.nodes n ≡ Some plan
  pub node : Node
  pub here : node_of c n ≡ Some node
  pub steady : IsSteady node
  pub runs : is_dispatching node.machine.control.current node.machine.control.high ≡ false
  pub name : shows.named n Current ≡ x
  pub kept : KeepsFlags s n

-- a process makes a step that does not stop
abbrev pub Makes : Plan → Name → (s s' : Place → Value) → Type 0
Makes p x s s' = AgentMakes p (Process x) s s'

-- the node's own step leads to a configuration that a state shows
pub record LeadsTo (p : Plan) (c : Configuration) (n : ℕ) (s : Place → Value) : Type 0 where
  pub configuration : Configuration
  pub local : IsLocal c n configuration
  pub shows : Shows p configuration s

-- what follows an instruction that breaks no rule
abbrev pub next_in : Result (Outcome × Store) Break → Option Next
next_in (Ok ((r, next), store)) = Some next
next_in (Err b) = None

abbrev pub next_after : Machine → Result (Instruction × Store) Break → Option Next
next_after m (Ok (i, store)) =
    next_in (run (effect m.control.kind i m.control.registers) m.store (claims_of m.control))
next_after m (Err b) = None

-- what follows the instruction of the process that runs, if it breaks no rule
abbrev pub next_of : Machine → Option Next
next_of m = next_after m (run (decode m.control.kind m.control.registers.iptr) m.store (claims_of m.control))

-- a low process yields at a jump: its timeslice is over, and another low one is queued
abbrev pub yields : Control → Bool
yields m = nat_le m.timeslice (raised 1 m.count m.timeslice) && nat_lt 0 (length m.low)

-- the instruction of a process whose step does not stop breaks no rule, and does not halt the processor
abbrev pub InstructionsAreDone : Type 0
InstructionsAreDone =
    (p : Plan) (c : Configuration) (s s' : Place → Value) (n : ℕ) (x : Name) → (k : IsCurrent p c s n x)
    → Makes p x s s' → (next : Next) × (next_of k.node.machine ≡ Some next) × (next ≢ Halt)

-- a local instruction, one that sets Error among them, is seen as the step of its process
abbrev pub LocalInstructionsAreSeen : Type 0
LocalInstructionsAreSeen =
    (p : Plan) (c : Configuration) (s s' : Place → Value) (n : ℕ) (x : Name) → (k : IsCurrent p c s n x)
    → next_of k.node.machine ≡ Some Go → Makes p x s s' → LeadsTo p c n s'

-- a jump of a high process is seen as the step of the process
abbrev pub HighJumpsAreSeen : Type 0
HighJumpsAreSeen =
    (p : Plan) (c : Configuration) (s s' : Place → Value) (n : ℕ) (x : Name) → (k : IsCurrent p c s n x)
    → next_of k.node.machine ≡ Some Jumped → k.node.machine.control.current ≡ Some 0 → Makes p x s s'
    → LeadsTo p c n s'

-- a jump of a low process that does not yield is seen as two steps of its process: the jump, after which it rests, and
-- that it goes on
abbrev pub LowJumpsAreSeen : Type 0
LowJumpsAreSeen =
    (p : Plan) (c : Configuration) (s s' s'' : Place → Value) (n : ℕ) (x : Name) → (k : IsCurrent p c s n x)
    → next_of k.node.machine ≡ Some Jumped → k.node.machine.control.current ≡ Some 1
    → yields k.node.machine.control ≡ false → Makes p x s s' → Makes p x s' s'' → LeadsTo p c n s''

-- one that yields is seen as only the jump
abbrev pub YieldsAreSeen : Type 0
YieldsAreSeen =
    (p : Plan) (c : Configuration) (s s' : Place → Value) (n : ℕ) (x : Name) → (k : IsCurrent p c s n x)
    → next_of k.node.machine ≡ Some Jumped → k.node.machine.control.current ≡ Some 1
    → yields k.node.machine.control ≡ true → Makes p x s s' → LeadsTo p c n s'

-- the process that is dispatched next: the first high one, or else the first low one, where none was interrupted
abbrev pub next_queued : Option Suspended → (high low : List ℕ) → Option ℕ
next_queued interrupted (w ∷ ws) low = Some w
next_queued None [] (w ∷ ws) = Some (w + 1)
next_queued _ [] _ = None

-- a process is the next one of a node at which none runs. No schedule can change the flags of the node
pub record IsNext (p : Plan) (c : Configuration) (s : Place → Value) (n : ℕ) (x : Name) : Type 0 where
  pub shows : Shows p c s
  pub plan : NodePlan
  pub planned : slice_get p.nodes n ≡ Some plan
  pub node : Node
  pub here : node_of c n ≡ Some node
  pub steady : IsSteady node
  pub idle : node.machine.control.current ≡ None
  pub process : ℕ
  pub next : next_queued node.machine.control.interrupted node.machine.control.high node.machine.control.low
      ≡ Some process
  pub name : shows.named n (Queued process) ≡ x
  pub kept : KeepsFlags s n

-- a dispatch is seen as that the process goes on from its rest
abbrev pub DispatchesAreSeen : Type 0
DispatchesAreSeen =
    (p : Plan) (c : Configuration) (s s' : Place → Value) (n : ℕ) (x : Name) → IsNext p c s n x → Makes p x s s'
    → LeadsTo p c n s'

-- `ldpri` is seen as its instruction
abbrev pub LoadedPrioritiesAreSeen : Type 0
LoadedPrioritiesAreSeen =
    (p : Plan) (c : Configuration) (s s' : Place → Value) (n : ℕ) (x : Name) → (k : IsCurrent p c s n x)
    → next_of k.node.machine ≡ Some (Schedule Ldpri) → Makes p x s s' → LeadsTo p c n s'

-- `stoperr` where Error is clear is seen as its instruction
abbrev pub UnstoppedAreSeen : Type 0
UnstoppedAreSeen =
    (p : Plan) (c : Configuration) (s s' : Place → Value) (n : ℕ) (x : Name) → (k : IsCurrent p c s n x)
    → next_of k.node.machine ≡ Some (Schedule Stoperr) → k.node.machine.control.registers.error ≡ false
    → Makes p x s s' → LeadsTo p c n s'

-- an operation that ends its process: `stopp`, or `stoperr` where Error is set
abbrev pub stops_process : Registers → Operation → Bool
stops_process r Stopp = true
stops_process r Stoperr = r.error
stops_process r _ = false

-- an operation that ends its process is seen as its instruction
abbrev pub StopsAreSeen : Type 0
StopsAreSeen =
    (p : Plan) (c : Configuration) (s s' : Place → Value) (n : ℕ) (x : Name) (o : Operation)
    → (k : IsCurrent p c s n x) → next_of k.node.machine ≡ Some (Schedule o)
    → stops_process k.node.machine.control.registers o ≡ true → Makes p x s s' → LeadsTo p c n s'

-- the processors of a plan without a fault are steady before the first step
abbrev pub OpeningIsSteady : Type 0
OpeningIsSteady =
    (p : Plan) → fault_of p ≡ None → ArePlanWords p → (n : ℕ) (plan : NodePlan) (node : Node)
    → slice_get p.nodes n ≡ Some plan → node_of (opening_configuration p) n ≡ Some node → IsSteady node

-- a node's own step leaves its processor steady
abbrev pub OwnStepsKeepSteady : Type 0
OwnStepsKeepSteady =
    (c c' : Configuration) (n : ℕ) (node : Node) → IsLocal c n c' → node_of c n ≡ Some node → IsSteady node
    → (node' : Node) × (node_of c' n ≡ Some node') × IsSteady node'

-- a node whose memory holds bytes, whose pending inputs are hidden, which tells of each of four links whether its
-- output was copied, and which is steady where it is a processor
pub record IsSteadyNode (node : Node) : Type 0 where
  pub bytes : HoldsBytes node.machine.store
  pub copied : length node.copied ≡ 4
  pub hides : hidden node.machine ≡ node.machine
  pub steady : node.role ≡ Processor → IsSteady node

-- all nodes are steady in this way
abbrev pub AreSteady : Configuration → Type 0
AreSteady c = (n : ℕ) (node : Node) → node_of c n ≡ Some node → IsSteadyNode node

-- the nodes of a plan without a fault are steady in this way before the first step
abbrev pub OpeningNodesAreSteady : Type 0
OpeningNodesAreSteady = (p : Plan) → fault_of p ≡ None → ArePlanWords p → AreSteady (opening_configuration p)

-- each step leaves all nodes steady
abbrev pub StepsKeepSteady : Type 0
StepsKeepSteady = (c c' : Configuration) (l : Step) → Lawful c l c' → AreSteady c → AreSteady c'

-- so all nodes are steady wherever a run of a plan without a fault leads
abbrev pub RunsStaySteady : Type 0
RunsStaySteady =
    (p : Plan) (c : Configuration) (steps : List Step) (notes : List Note) → fault_of p ≡ None → ArePlanWords p
    → IsRun (opening_configuration p) steps notes c → AreSteady c

-- where the process stands that awaits the input of an end and others, if one does
abbrev pub stand_at : (Place → Value) → End → Option Stand
stand_at s e = option_map (λ x. stand_in (s (Standing x))) (awaiting (link_in (s (LinkHalf e Input))))

-- by where it stands: if it waits, the step of the wire follows, which hands over no message, and if not, none
abbrev pub IsNoticeSeen : Option Stand → Plan → Configuration → End → (Place → Value) → Type 0
IsNoticeSeen (Some (Chooses k)) p c e s =
    HasStep p (Wire e) s × ((t : Place → Value) → (m : AgentMakes p (Wire e) s t) → HandsNone m × Shows p c t)
IsNoticeSeen _ p c e s = Shows p c s

-- a notice is seen as no step, or, if a process waits there for its alternative, as the step of the wire
abbrev pub NoticesAreSeen : Type 0
NoticesAreSeen =
    (p : Plan) (c c' : Configuration) (s : Place → Value) (e : End)
    → fault_of p ≡ None → Shows p c s → AreSteady c → IsNotice c e c' → IsNoticeSeen (stand_at s e) p c' e s

-- where the output of a source that was copied is over, nothing changes that is shown
abbrev pub SourceWakesAreSeen : Type 0
SourceWakesAreSeen =
    (p : Plan) (c c' : Configuration) (s : Place → Value) (k : ℕ) (source : SourcePlan)
    → slice_get p.sources k ≡ Some source → Shows p c s → AreSteady c → IsWake c (end_at (length p.nodes + k) 0) c'
    → Shows p c' s
