-- What one event of a node does at its rings.
-- Source: own choice.
use Rattle.std.specs.Prelude.{ℕ, ◌≡◌, ◌+◌, ◌<◌, Bool, true, false, IsTrue, nat_lt, List, [], ◌∷◌, ◌++◌, length, Option}
use Rattle.std.specs.Prelude.{Some, None, IsSome, option_map, Result, MatchResult, MatchOption}
use Rattle.tlink.specs.declared.event.Packet.{Packet}
use Rattle.tlink.specs.declared.event.NodeEvent.{NodeEvent}
use Rattle.tlink.specs.Node.{NodeState}
use Rattle.tlink.specs.Events.{happens, is_node_enabled}
use Rattle.tplan.specs.declared.plan.Wire.{Wire}
use Rattle.tfree.specs.declared.stamp.Sent.{Sent}
use Rattle.tfree.specs.declared.steps.OwnLink.{OwnLink}
use Rattle.tfree.specs.declared.log.TurnFault.{TurnFault}
use Rattle.tfree.specs.Lists.{event_taking}
use Rattle.tfree.specs.Views.{InView, OutView, got_of, put_of, with_put, with_got}
use Rattle.tfree.specs.WorkerNotes.{told_at}
use Rattle.tfree.specs.Logs.{LogView, Acted, packet_of, sent_as}
use Rattle.tfree.specs.Ends.{IsFront}
use Rattle.tfree.specs.Slots.{slot_at}
use Rattle.tfree.specs.Turns.{WhyStopped}

-- where the other end of a ring is at hand, it is an end of that ring
abbrev pub SameRing : Option OwnLink → InView → List (List (Option OutView)) → Type 0
SameRing own v outs = (q : OwnLink) → own ≡ Some q → (q.node < length outs) × (q.link < 4)
    × ((o : OutView) × (slot_at outs q.node q.link ≡ Some o) × (o.id ≡ v.id))

abbrev pub SameRingBack : Option OwnLink → OutView → List (List (Option InView)) → Type 0
SameRingBack own o ins = (q : OwnLink) → own ≡ Some q → (q.node < length ins) × (q.link < 4)
    × ((v : InView) × (slot_at ins q.node q.link ≡ Some v) × (o.id ≡ v.id))

-- the packet in front of the ring of a link was taken; with the other end at hand, it is the first of what was put and
-- not yet taken
pub record Received (n l : ℕ) (own : Option OwnLink) (node node' : NodeState) (v v' : LogView) (x x' : Option InView)
    (outs : List (List (Option OutView))) : Type 0 where
  pub packet : Sent
  pub acted : Acted [] n (event_taking l packet.packet) packet.stamp node node' v v'
  pub some : IsSome x
  pub taken : x' ≡ option_map (with_got (packet ∷ [])) x
  pub front : (q : OwnLink) (o : OutView) → own ≡ Some q → slot_at outs q.node q.link ≡ Some o → (rest : List Sent)
      × (got_of x ++ packet ∷ rest ≡ o.put)

-- no packet is due: with the other end at hand, there is none, or the event of the first is not enabled
abbrev pub NoneDue : ℕ → Option OwnLink → NodeState → Option InView → List (List (Option OutView)) → Type 0
NoneDue l own node x outs =
    (q : OwnLink) (o : OutView) (p : Sent) (rest : List Sent) → IsSome x → own ≡ Some q
    → slot_at outs q.node q.link ≡ Some o → got_of x ++ p ∷ rest ≡ o.put
    → is_node_enabled (event_taking l p.packet) node ≡ false

-- the packet that is seen in front is left, for a fault; with the other end at hand, it is the first of what was put
-- and not yet taken
pub record LeftAtFront (l : ℕ) (own : Option OwnLink) (node : NodeState) (clock : ℕ) (x : Option InView)
    (seen : List Sent) (outs : List (List (Option OutView))) (fault : TurnFault) : Type 0 where
  pub packet : Sent
  pub front : IsFront packet seen
  pub why : WhyStopped (event_taking l packet.packet) node clock packet.stamp fault
  pub first : (q : OwnLink) (o : OutView) → own ≡ Some q → slot_at outs q.node q.link ≡ Some o → (rest : List Sent)
      × (got_of x ++ packet ∷ rest ≡ o.put)

-- whether a ring has room: with the other end at hand, whether fewer than two lie there; else it has where fewer than
-- two were ever put there; where there is no ring, there is room
pub record AnswersRoom (own : Option OwnLink) (x : Option OutView) (ins : List (List (Option InView))) (room : Bool)
    : Type 0 where
  pub bare : x ≡ None → IsTrue room
  pub certain : length (put_of x) < 2 → IsTrue room
  pub exact : (q : OwnLink) (o : OutView) (w : InView) → x ≡ Some o → own ≡ Some q → slot_at ins q.node q.link ≡ Some w
      → room ≡ nat_lt (length o.put) (length w.got + 2)

-- an event that takes no packet was done, and this is its stamp and the packet that it emits; or nothing was done
abbrev pub Acts : List Wire → ℕ → NodeEvent → (node node' : NodeState) → (v v' : LogView)
    → Result (Option (ℕ × Option Packet)) TurnFault → Type 0
Acts wires n e node node' v v' r =
    MatchResult r (λ done. MatchOption done ((node' ≡ node) × (v' ≡ v))
    (λ d. Acted (told_at wires n e node) n e 0 node node' v v' × (d.0 ≡ v'.clock)
    × (d.1 ≡ packet_of (happens e node))))
    (λ _. (node' ≡ node) × (v' ≡ v))

-- an event that emits was done, where there was room
pub record Emitted (n : ℕ) (wires : List Wire) (e : NodeEvent) (own : Option OwnLink) (node node' : NodeState)
    (v v' : LogView) (x x' : Option OutView) (ins : List (List (Option InView))) : Type 0 where
  pub acted : Acted (told_at wires n e node) n e 0 node node' v v'
  pub put : x' ≡ option_map (with_put (sent_as (packet_of (happens e node)) v'.clock)) x
  pub room : AnswersRoom own x ins true

-- an event that emits is left, for a fault, where there is room
pub record LeftWithRoom (e : NodeEvent) (own : Option OwnLink) (node : NodeState) (clock : ℕ) (x : Option OutView)
    (ins : List (List (Option InView))) (fault : TurnFault) : Type 0 where
  pub why : WhyStopped e node clock 0 fault
  pub room : AnswersRoom own x ins true
