-- Sources and sinks as what they are: lists of messages, and what they do at each event. A node keeps one in a memory
-- with addresses (`Roles`, `Node`); that it does the same at each event is the law of `KeptLists`.
-- Source: own choice: what a node's surroundings send to it and take from it.
use Rattle.std.specs.Prelude.{ℕ, zero, suc, ◌+◌, Bool, true, false, not, ◌&&◌, ◌==◌, nat_lt}
use Rattle.std.specs.Prelude.{List, [], ◌∷◌, ◌++◌, length}
use Rattle.std.specs.Prelude.{slice_get, slice_index_or, Option, Some, None, Result, Ok, Err, if◌then◌else◌}
use Rattle.tlink.specs.declared.counts.Arrival.{Arrival}
use Rattle.tlink.specs.declared.event.Emitted.{Emitted}
use Rattle.tlink.specs.declared.event.Mark.{Mark}
use Rattle.tlink.specs.declared.event.Mark.TheVariants.{Nothing, Completed}
use Rattle.tlink.specs.declared.event.NodeEvent.{NodeEvent}
use Rattle.tlink.specs.declared.event.NodeEvent.TheVariants.{Send, Data, Take, Ack}
use Rattle.tlink.specs.declared.event.Packet.{Packet}
use Rattle.tlink.specs.declared.event.Packet.TheVariants as packet
use Rattle.tlink.specs.declared.event.StepFault.{StepFault}
use Rattle.tlink.specs.declared.event.StepFault.TheVariants.{NotEnabled}

-- a source: its messages, how many of them are over, and how many bytes of the next one were sent and acknowledged
pub record Source : Type 0 where
  pub messages : List (List ℕ)
  pub over : ℕ
  pub sent : ℕ
  pub acked : ℕ

-- a sink: the messages that it has kept, the part that it has of the next one, for how many bytes more it has room, and
-- the byte that waits
pub record Sink : Type 0 where
  pub kept : List (List ℕ)
  pub part : List ℕ
  pub room : ℕ
  pub arrived : Option Arrival

-- a source of these messages, and a sink for a number of bytes, before the first event
abbrev pub unsent : List (List ℕ) → Source
unsent messages = record { messages = messages; over = 0; sent = 0; acked = 0 }

abbrev pub empty : ℕ → Sink
empty capacity = record { kept = []; part = []; room = capacity; arrived = None }

-- what an event of a script leaves and emits, or that it is not enabled
abbrev pub ScriptAnswer : Type 0 → Type 0
ScriptAnswer S = Result (S × Emitted) StepFault

-- an event that emits nothing, and one that emits a packet on link 0
abbrev pub quietly : {S : Type 0} → S → ScriptAnswer S
quietly s = Ok (s, record { packet = None; mark = Nothing })

abbrev pub sending : {S : Type 0} → Packet → Mark → S → ScriptAnswer S
sending p mark s = Ok (s, record { packet = Some (0, p); mark = mark })

-- the next byte of a message is sent, once the one before was acknowledged
abbrev pub sent_of : Source → Option (List ℕ) → ScriptAnswer Source
sent_of s None = Err NotEnabled
sent_of s (Some m) =
    if (s.acked == s.sent) && nat_lt s.sent (length m)
    then sending (packet.Data (slice_index_or m s.sent 0) (s.sent + 1 == length m)) Nothing
    (record s { sent = s.sent + 1 })
    else Err NotEnabled

-- the byte that was sent is acknowledged; with its last one the message is over
abbrev pub acked_of : Source → Option (List ℕ) → ScriptAnswer Source
acked_of s None = Err NotEnabled
acked_of s (Some m) =
    if not (s.sent == s.acked + 1) then Err NotEnabled
    else if s.acked + 1 == length m then quietly (record s { over = suc s.over; sent = 0; acked = 0 })
    else quietly (record s { acked = s.acked + 1 })

-- what a source does
abbrev pub source_does : NodeEvent → Source → ScriptAnswer Source
source_does (Send zero) s = sent_of s (slice_get s.messages s.over)
source_does (Ack zero) s = acked_of s (slice_get s.messages s.over)
source_does _ s = Err NotEnabled

-- a byte comes where none waits
abbrev pub arrived_of : Sink → Arrival → Option Arrival → ScriptAnswer Sink
arrived_of s a None = quietly (record s { arrived = Some a })
arrived_of s a (Some b) = Err NotEnabled

-- a byte is kept with the part; the one that is marked as the last ends the message
abbrev pub kept_of : Sink → ℕ → ℕ → Bool → ScriptAnswer Sink
kept_of s room byte true =
    sending packet.Ack (Completed 0)
    (record { kept = s.kept ++ (s.part ++ byte ∷ []) ∷ []; part = []; room = room; arrived = None })
kept_of s room byte false =
    sending packet.Ack Nothing (record s { part = s.part ++ byte ∷ []; room = room; arrived = None })

-- the byte that waits is taken, where there is room for it
abbrev pub taken_of : Sink → Option Arrival → ℕ → ScriptAnswer Sink
taken_of s (Some a) (suc room) = kept_of s room a.byte a.last
taken_of s _ _ = Err NotEnabled

-- what a sink does
abbrev pub sink_does : NodeEvent → Sink → ScriptAnswer Sink
sink_does (Data zero byte last) s = arrived_of s (record { byte = byte; last = last }) s.arrived
sink_does (Take zero) s = taken_of s s.arrived s.room
sink_does _ s = Err NotEnabled
