-- Messages on internal channels, as the process machine shows them: the first process to come takes its half of the
-- channel and waits; the second takes the other half, the channel copies, and the second goes on.
-- Source: own choice.
use Rattle.std.specs.Prelude.{ℕ, ◌≡◌, ◌≢◌, Bool, true, false, Some, None}
use Rattle.tword.specs.Stores.{word_at}
use Rattle.tcode.specs.declared.instruction.Operation.{Operation}
use Rattle.tcode.specs.declared.instruction.Operation.TheVariants.{In, Out, Outbyte, Outword}
use Rattle.tcpu.specs.declared.registers.Next.TheVariants.{Schedule}
use Rattle.tproc.specs.LinkChannels.{is_link}
use Rattle.tproc.specs.Queues.{not_process}
use Rattle.tplan.specs.declared.plan.Plan.{Plan}
use Rattle.tnet.specs.Rendezvous.{Configuration}
use Rattle.tprocesses.specs.Places.{Place, Name}
use Rattle.tprocesses.specs.Values.{Value}
use Rattle.tprocesses.specs.Machine.{Process, Channel}
use Rattle.tseen.specs.Choices.{enabler_at}
use Rattle.tseen.specs.Steps.{IsCurrent, Makes, LeadsTo, next_of}
use Rattle.tseen.specs.AgentSteps.{AgentMakes, HasStep, NothingStops}

-- an operation that sends or receives
abbrev pub is_message : Operation → Bool
is_message In = true
is_message Out = true
is_message Outbyte = true
is_message Outword = true
is_message _ = false

-- the current process of a node makes its step, which sends or receives on an internal channel
pub record Communicates (p : Plan) (c : Configuration) (s s' : Place → Value) (n : ℕ) (x : Name) : Type 0 where
  pub current : IsCurrent p c s n x
  pub operation : Operation
  pub next : next_of current.node.machine ≡ Some (Schedule operation)
  pub message : is_message operation ≡ true
  pub internal : is_link current.node.machine.control.registers.b ≡ false
  pub makes : Makes p x s s'
  pub none_stops : NothingStops p s'

-- the channel that it names, and the word there
abbrev pub channel_of : {p : Plan} {c : Configuration} {s s' : Place → Value} {n : ℕ} {x : Name}
    → Communicates p c s s' n x → ℕ
channel_of k = k.current.node.machine.control.registers.b

abbrev pub channel_word : {p : Plan} {c : Configuration} {s s' : Place → Value} {n : ℕ} {x : Name}
    → Communicates p c s s' n x → ℕ
channel_word k = word_at k.current.node.machine.store (channel_of k)

-- another process waits at the channel, and no alternative has enabled it
abbrev pub FindsOther : {p : Plan} {c : Configuration} {s s' : Place → Value} {n : ℕ} {x : Name}
    → Communicates p c s s' n x → Type 0
FindsOther {s} {n} k = (channel_word k ≢ not_process) × (enabler_at s n (channel_of k) ≡ None)

-- the first of two processes at a channel is seen as its instruction: it waits, and has its half
abbrev pub FirstHalvesAreSeen : Type 0
FirstHalvesAreSeen =
    (p : Plan) (c : Configuration) (s s' : Place → Value) (n : ℕ) (x : Name) → (k : Communicates p c s s' n x)
    → channel_word k ≡ not_process → LeadsTo p c n s'

-- the second is seen as three steps: its instruction, the channel's copy, and that it goes on from its rest
abbrev pub MeetingsAreSeen : Type 0
MeetingsAreSeen =
    (p : Plan) (c : Configuration) (s s' s'' s''' : Place → Value) (n : ℕ) (x : Name)
    → (k : Communicates p c s s' n x) → FindsOther k
    → AgentMakes p (Channel n (channel_of k)) s' s'' → Makes p x s'' s''' → LeadsTo p c n s'''

-- after the first of these steps the channel has one, and after that the process
abbrev pub MeetingsGoOn : Type 0
MeetingsGoOn =
    (p : Plan) (c : Configuration) (s s' : Place → Value) (n : ℕ) (x : Name) → (k : Communicates p c s s' n x)
    → FindsOther k → HasStep p (Channel n (channel_of k)) s'
    × ((s'' : Place → Value) → AgentMakes p (Channel n (channel_of k)) s' s'' → HasStep p (Process x) s'')
