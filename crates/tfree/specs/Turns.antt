-- One turn of a worker, as what it adds to its list of events. What it takes from a ring that another worker fills is
-- free; whether it emits into a ring that another worker empties is free once two packets were put there, those at the
-- opening included. Nothing else is.
-- Source: own choice.
use Rattle.std.specs.Prelude.{ℕ, zero, suc, ◌≡◌, ◌+◌, ◌^◌, ◌<◌, ◌≤◌, ◌⊎◌, max, Bool, true, false, IsTrue, List, [], ◌∷◌}
use Rattle.std.specs.Prelude.{◌++◌, length, Some, slice_get, slice_index_or, take, drop}
use Rattle.tlink.specs.declared.event.NodeEvent.{NodeEvent}
use Rattle.tlink.specs.declared.event.Packet.TheVariants as packet
use Rattle.tlink.specs.declared.event.NodeEvent.TheVariants.{Run, Send, Data, Take, Ack}
use Rattle.tlink.specs.Node.{NodeState}
use Rattle.tlink.specs.Events.{is_node_enabled}
use Rattle.tplan.specs.declared.plan.End.{End}
use Rattle.tplan.specs.Wires.{end_at, far_end}
use Rattle.tfree.specs.declared.stamp.Sent.{Sent}
use Rattle.tfree.specs.declared.stamp.OwnEvent.{OwnEvent}
use Rattle.tfree.specs.declared.log.TurnFault.{TurnFault}
use Rattle.tfree.specs.declared.log.TurnFault.TheVariants.{ClockFull}
use Rattle.tfree.specs.Lists.{takes}
use Rattle.tfree.specs.Lists.{event_taking}
use Rattle.tfree.specs.Views.{Share, View}
use Rattle.tfree.specs.Ends.{IsFront}
use Rattle.tfree.specs.Kept.{nodes_after, put_to, last_stamp, IsMine}

-- a phase leads from the events so far to those after it; where it did not run to its end, it may have stopped anywhere
abbrev pub Phase : Type 1
Phase = List OwnEvent → Bool → List OwnEvent → Type 0

-- a step adds one event
abbrev pub Step : Type 1
Step = List OwnEvent → List OwnEvent → Type 0

module _ (s : Share) where
  -- an event is enabled at a node after these events
  abbrev pub IsEnabled : ℕ → NodeEvent → List OwnEvent → Type 0
  IsEnabled n e es = (node : NodeState) × (slice_get (nodes_after s.opened.nodes es) n ≡ Some node)
      × (is_node_enabled e node ≡ true)

  -- this event of a node is done
  pub record Does (n : ℕ) (e : NodeEvent) (es es' : List OwnEvent) : Type 0 where
    pub stamp : ℕ
    pub taken : ℕ
    pub enabled : IsEnabled n e es
    pub more : es' ≡ es ++ record { stamp = stamp; node = n; event = e; taken = taken } ∷ []

  -- the wire of a link leads to this end, and the worker has both
  abbrev pub IsInner : End → End → Type 0
  IsInner e f = (far_end s.opened.wires e ≡ Some f) × IsMine s f.node

  -- this packet lies in front of the ring that leads to an end from another, both of them the worker's
  abbrev pub LiesInFront : (e f : End) → Sent → List OwnEvent → Type 0
  LiesInFront e f p es = (rest : List Sent) × (takes e es ++ p ∷ rest ≡ put_to s.opened f es)

  -- there is room in the ring that leads from an end to another: fewer than two packets lie there
  abbrev pub HasPlace : (f e : End) → List OwnEvent → Type 0
  HasPlace f e es = length (put_to s.opened f es) < length (takes e es) + 2

  -- a packet of a link is taken; of an inner ring it is the front one
  pub record Receives (n l : ℕ) (es es' : List OwnEvent) : Type 0 where
    pub packet : Sent
    pub does : Does n (event_taking l packet.packet) es es'
    pub front : (f : End) → IsInner (end_at n l) f → LiesInFront (end_at n l) f packet es

  -- a packet of an inner ring is due: it lies in front, and its event is enabled
  abbrev pub IsPacketDue : (n l : ℕ) → List OwnEvent → Type 0
  IsPacketDue n l es = (f : End) × (p : Sent) × IsInner (end_at n l) f × LiesInFront (end_at n l) f p es
      × IsEnabled n (event_taking l p.packet) es

  -- an event of a link that emits is done; into an inner ring only where it has room
  pub record Emits (n l : ℕ) (e : NodeEvent) (es es' : List OwnEvent) : Type 0 where
    pub does : Does n e es es'
    pub room : (f : End) → IsInner (end_at n l) f → HasPlace (end_at n l) f es

  -- room is certain: fewer than two packets were ever put there, or the ring is an inner one with fewer than two
  abbrev pub IsRoomCertain : (n l : ℕ) → List OwnEvent → Type 0
  IsRoomCertain n l es = (length (put_to s.opened (end_at n l) es) < 2)
      ⊎ ((f : End) × IsInner (end_at n l) f × HasPlace (end_at n l) f es)

  -- an event that emits is due
  abbrev pub IsEmissionDue : (n l : ℕ) → NodeEvent → List OwnEvent → Type 0
  IsEmissionDue n l e es = IsEnabled n e es × IsRoomCertain n l es

-- a step as a phase, which stops nowhere within it
abbrev pub once : Step → Phase
once step es whole es' = step es es'

-- a step is made this number of times
abbrev pub Times : ℕ → Step → Step
Times zero step es es' = es' ≡ es
Times (suc k) step es es' = (mid : List OwnEvent) × Times k step es mid × step mid es'

-- a step is made at most this number of times, and no fewer as long as it is due
abbrev pub UpTo : ℕ → Step → (List OwnEvent → Type 0) → Phase
UpTo most step IsDue es whole es' = (k : ℕ) × (k ≤ most) × Times k step es es'
    × ((k ≡ most) ⊎ (IsTrue whole → IsDue es' → ⊥))

-- a phase, and then another
abbrev pub Then : Phase → Phase → Phase
Then first second es whole es' = ((whole ≡ false) × first es false es')
    ⊎ ((mid : List OwnEvent) × first es true mid × second mid whole es')

-- the four links, one after another
abbrev pub OverLinks : (ℕ → Phase) → Phase
OverLinks phase = Then (phase 0) (Then (phase 1) (Then (phase 2) (phase 3)))

module _ (s : Share) where
  -- at most two packets of a link
  abbrev pub packets_of : (n l : ℕ) → Phase
  packets_of n l = UpTo 2 (Receives s n l) (IsPacketDue s n l)

  -- an event of a link that emits, at most once
  abbrev pub emission_of : (n l : ℕ) → NodeEvent → Phase
  emission_of n l e = UpTo 1 (Emits s n l e) (IsEmissionDue s n l e)

  -- the runs of a node, `slice` at most
  abbrev pub runs_of : (slice n : ℕ) → Phase
  runs_of slice n = UpTo slice (Does s n Run) (IsEnabled s n Run)

  -- what came, over all links; the bytes that wait; the next bytes to send
  abbrev pub all_packets : ℕ → Phase
  all_packets n = OverLinks (packets_of n)

  abbrev pub all_takes : ℕ → Phase
  all_takes n = OverLinks (λ l. emission_of n l (Take l))

  abbrev pub all_sends : ℕ → Phase
  all_sends n = OverLinks (λ l. emission_of n l (Send l))

  -- the part of one node
  abbrev pub NodeTurn : ℕ → ℕ → Phase
  NodeTurn slice n = Then (all_packets n) (Then (all_takes n) (Then (runs_of slice n) (all_sends n)))

  -- the parts of the first nodes of the worker, as many as the number says, each to its end
  abbrev pub FirstNodes : ℕ → ℕ → Step
  FirstNodes slice zero es es' = es' ≡ es
  FirstNodes slice (suc k) es es' = (mid : List OwnEvent) × FirstNodes slice k es mid
      × NodeTurn slice (s.first + k) mid true es'

  -- a turn: all nodes of the worker; or its beginning, which stops within a node
  abbrev pub IsTurn : ℕ → Phase
  IsTurn slice es true es' = FirstNodes slice s.owned es es'
  IsTurn slice es false es' = (k : ℕ) × (k < s.owned)
      × ((mid : List OwnEvent) × FirstNodes slice k es mid × NodeTurn slice (s.first + k) mid false es')

-- a worker keeps its share, and a phase leads from its list before to its list after
abbrev pub Phased : (Share → Phase) → View → Bool → View → Type 0
Phased phase v whole w = (w.share ≡ v.share) × phase v.share v.events whole w.events

-- a list begins with what it held before
abbrev pub Extends : List OwnEvent → List OwnEvent → Type 0
Extends es es' = (more : List OwnEvent) × (es' ≡ es ++ more)

-- the nodes of a worker are where its list leaves them
abbrev pub AreLeft : View → Type 0
AreLeft v = v.nodes ≡ take v.share.owned (drop v.share.first (nodes_after v.share.opened.nodes v.events))

-- the stamp of the next event would pass 2^64 - 1
abbrev pub IsFull : (last taken : ℕ) → Type 0
IsFull last taken = max last taken + 1 ≡ 2 ^ 64

-- why an event of a node was not done: it is enabled, and where the clock is full its stamp would pass 2^64 - 1
pub record WhyStopped (e : NodeEvent) (node : NodeState) (clock taken : ℕ) (fault : TurnFault) : Type 0 where
  pub enabled : is_node_enabled e node ≡ true
  pub full : fault ≡ ClockFull → IsFull clock taken

-- the packets that are seen in the ring of a link of the worker's i-th node
abbrev pub seen_of_link : View → ℕ → ℕ → List Sent
seen_of_link v i l = slice_index_or (slice_index_or v.seen i []) l []

-- the stamp that an event of the worker's i-th node takes: that of the packet that is seen in front of its ring, or 0
abbrev pub MayTake : View → ℕ → NodeEvent → ℕ → Type 0
MayTake v i (Data l byte last) stamp =
    IsFront (record { packet = packet.Data byte last; stamp = stamp }) (seen_of_link v i l)
MayTake v i (Ack l) stamp =
    IsFront (record { packet = packet.Ack; stamp = stamp }) (seen_of_link v i l)
MayTake v i _ stamp = stamp ≡ 0

-- a worker with one event more on its list
abbrev pub with_event : OwnEvent → View → View
with_event d v = record v { events = v.events ++ d ∷ [] }

-- why a phase stopped, of which the list is a beginning: an event of one of the worker's nodes comes next in it. That
-- event is enabled and was not done; the packet that it takes is still seen in front of its ring; where the clock is
-- full, the event has no stamp
pub record IsNext (phase : Share → Phase) (v w : View) (fault : TurnFault) : Type 0 where
  pub i : ℕ
  pub event : NodeEvent
  pub taken : ℕ
  pub own : i < w.share.owned
  pub enabled : IsEnabled w.share (w.share.first + i) event w.events
  pub takes : MayTake w i event taken
  pub next : Phased phase v false (with_event (record {
    stamp = max (last_stamp 0 w.events) taken + 1;
    node = w.share.first + i;
    event = event;
    taken = taken;
  }) w)
  pub full : fault ≡ ClockFull → IsFull (last_stamp 0 w.events) taken

-- the clock of a worker is full: an event of one of its nodes is enabled, and has no stamp
pub record IsClockFull (v : View) : Type 0 where
  pub i : ℕ
  pub event : NodeEvent
  pub taken : ℕ
  pub own : i < v.share.owned
  pub enabled : IsEnabled v.share (v.share.first + i) event v.events
  pub takes : MayTake v i event taken
  pub full : IsFull (last_stamp 0 v.events) taken
