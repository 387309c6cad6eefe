-- What a call on one net, or on one node of it, promises.
-- Source: own choice, what is seen and proved of nets.
use Rattle.std.specs.Prelude.{◌≡◌, ◌≢◌, ◌≤◌, ⊤, ℕ, Bool, true, false, Option, Some, None, Result, Err, IfSome}
use Rattle.tproc.specs.declared.offer.Offer.{Offer}
use Rattle.tlink.specs.declared.event.Emitted.{Emitted}
use Rattle.tlink.specs.declared.event.NodeEvent.{NodeEvent}
use Rattle.tlink.specs.declared.event.StepFault.{StepFault}
use Rattle.tlink.specs.declared.event.StepFault.TheVariants.{NotEnabled}
use Rattle.tlink.specs.Node.{NodeState}
use Rattle.tlink.specs.Events.{happens, node_left_by, node_answered}
use Rattle.tplan.specs.declared.event.Act.{Act}
use Rattle.tplan.specs.declared.event.Act.TheVariants.{Data, Take, Ack}
use Rattle.tplan.specs.declared.event.Event.{Event}
use Rattle.tnet.specs.Net.{NetState, with_node}
use Rattle.tnet.specs.Packets.{NetAnswer, net_happens, net_left_by, answered}

-- a net does what an answer of the machine says: the caller is told it, and the net is left as it says
pub record DoesNet (e : Event) (answer : NetAnswer) (old : NetState) (result : Result Emitted StepFault)
    (new : NetState) : Type 0 where
  pub told : result ≡ answered answer
  pub left : new ≡ net_left_by e old answer

-- a net does an event
abbrev pub DoesEvent : Event → NetState → Result Emitted StepFault → NetState → Type 0
DoesEvent e old result new = DoesNet e (net_happens e old) old result new

-- a node of a net does an event, and the rest of the net is unchanged; or there is no such node
abbrev pub DoesAt : ℕ → NodeEvent → Option NodeState → NetState → Result Emitted StepFault → NetState → Type 0
DoesAt n e None old result new = (result ≡ Err NotEnabled) × (new ≡ old)
DoesAt n e (Some node) old result new = (result ≡ node_answered (happens e node))
    × (new ≡ with_node n (node_left_by node (happens e node)) old)

-- an event is done; or it is not enabled, and nothing changes
abbrev pub Did : Option NetState → NetState → Bool → NetState → Type 0
Did None old result new = (result ≡ false) × (new ≡ old)
Did (Some net) old result new = (result ≡ true) × (new ≡ net)

-- room for the message of an input, in `room` bytes
abbrev pub HasMessageRoom : Option Offer → ℕ → Type 0
HasMessageRoom input room = IfSome input (λ (o : Offer). o.length ≤ room)

-- the links where what the next byte completes is surely the same after an act: all after one that takes a packet, and
-- all others after one that takes a byte
abbrev pub KeepsInput : Act → ℕ → Type 0
KeepsInput (Data k) l = ⊤
KeepsInput (Ack k) l = ⊤
KeepsInput (Take k) l = l ≢ k
KeepsInput _ l = ⊥
