-- A node at its place in a net: what lies at its links, and what an event of it takes, emits and tells.
-- Source: the T414 data sheet: data and acknowledge packets. What is told: own choice.
use Rattle.std.specs.Prelude.{ℕ, zero, suc, ◌+◌, true, false, List, [], ◌∷◌, Option, Some, None, Result, Ok, Err}
use Rattle.std.specs.Prelude.{slice_index_or, slice_set, if◌then◌else◌}
use Rattle.tword.specs.Stores.{bytes_at}
use Rattle.tproc.specs.declared.offer.Offer.{Offer}
use Rattle.tlink.specs.declared.counts.Arrival.{Arrival}
use Rattle.tlink.specs.declared.event.Packet.{Packet}
use Rattle.tlink.specs.declared.event.Packet.TheVariants as packet
use Rattle.tlink.specs.declared.event.NodeEvent.{NodeEvent}
use Rattle.tlink.specs.declared.event.NodeEvent.TheVariants as at_node
use Rattle.tlink.specs.declared.event.Emitted.{Emitted}
use Rattle.tlink.specs.declared.event.Mark.{Mark}
use Rattle.tlink.specs.declared.event.Mark.TheVariants.{Nothing, Halted, Completed}
use Rattle.tlink.specs.declared.event.StepFault.{StepFault}
use Rattle.tlink.specs.declared.event.StepFault.TheVariants.{NotEnabled, Frozen}
pub use Rattle.tlink.specs.Roles.{due}
use Rattle.tlink.specs.Node.{NodeState, due_at}
use Rattle.tlink.specs.Events.{happens, node_answered, node_left_by}
use Rattle.tplan.specs.declared.event.Act.{Act}
use Rattle.tplan.specs.declared.event.Act.TheVariants.{Run, Send, Data, Take, Ack}
use Rattle.tplan.specs.declared.event.Note.{Note}
use Rattle.tplan.specs.declared.event.Note.TheVariants.{Msg, Halt, Freeze}
use Rattle.tplan.specs.declared.plan.End.{End}
use Rattle.tplan.specs.Wires.{end_at}
use Rattle.tnet.specs.Net.{empty_inbox}
use Rattle.tnet.specs.declared.inbox.Inbox.{Inbox}
use Rattle.tnet.specs.declared.station.Done.{Done}
use Rattle.tnet.specs.declared.station.RunsDone.{RunsDone}

-- what lies at a link
abbrev pub box_at : List Inbox → ℕ → Inbox
box_at boxes l = slice_index_or boxes l empty_inbox

-- the event that takes a packet that lies at a link
abbrev pub with_carried : ℕ → Option Arrival → Option NodeEvent
with_carried l None = None
with_carried l (Some a) = Some (at_node.Data l a.byte a.last)

-- the event that an act asks a node for, if its packet lies there
abbrev pub asked : Act → List Inbox → Option NodeEvent
asked Run boxes = Some at_node.Run
asked (Send l) boxes = Some (at_node.Send l)
asked (Data l) boxes = with_carried l (box_at boxes l).carried
asked (Take l) boxes = Some (at_node.Take l)
asked (Ack l) boxes = if (box_at boxes l).acknowledged then Some (at_node.Ack l) else None

-- what lies at a link without the packet that an act takes
abbrev pub emptied : Act → List Inbox → List Inbox
emptied (Data l) boxes = slice_set boxes l (record (box_at boxes l) { carried = None })
emptied (Ack l) boxes = slice_set boxes l (record (box_at boxes l) { acknowledged = false })
emptied _ boxes = boxes

-- a packet is put among what lies at an end
abbrev pub put_in : Packet → Inbox → Inbox
put_in (packet.Data byte last) i = record i { carried = Some (record { byte = byte; last = last }) }
put_in packet.Ack i = record i { acknowledged = true }

-- the message that an event may complete
abbrev pub input_of : NodeEvent → NodeState → Option Offer
input_of (at_node.Take l) node = due_at node l
input_of _ node = None

-- the bytes of an input, as a node holds them
abbrev pub input_bytes : Option Offer → NodeState → List ℕ
input_bytes (Some o) node = bytes_at node.machine.store o.buffer o.length
input_bytes None node = []

-- a message that is complete: from the far end, with its bytes in the buffer
abbrev pub message_note : Option End → End → List ℕ → Option Note
message_note None e bytes = None
message_note (Some f) e bytes = Some (Msg f e bytes)

-- what a mark tells, by the node's number, the far ends of its links, and the input that a byte was taken for
abbrev pub mark_note : ℕ → (ℕ → Option End) → Option Offer → Mark → NodeState → Option Note
mark_note n far input Nothing node = None
mark_note n far input Halted node = Some (Halt n)
mark_note n far input (Completed l) node = message_note (far l) (end_at n l) (input_bytes input node)

-- what an event tells, by the answer to its caller and the node that it left
abbrev pub answer_note : ℕ → (ℕ → Option End) → Option Offer → Result Emitted StepFault → NodeState → Option Note
answer_note n far input (Ok e) node = mark_note n far input e.mark node
answer_note n far input (Err NotEnabled) node = None
answer_note n far input (Err (Frozen b)) node = Some (Freeze n b)

-- what an event of a node tells
abbrev pub note_of : ℕ → (ℕ → Option End) → NodeEvent → NodeState → Option Note
note_of n far e node =
    answer_note n far (input_of e node) (node_answered (happens e node)) (node_left_by node (happens e node))

-- what was done, as others see it; nothing where it was not enabled
abbrev pub answer_done : Result Emitted StepFault → Option Note → Option Done
answer_done (Ok e) note = Some (record { packet = e.packet; note = note })
answer_done (Err NotEnabled) _ = None
answer_done (Err (Frozen b)) note = Some (record { packet = None; note = note })

-- what an event of a node does, as others see it: the packet that it emits, with its link, and its note
abbrev pub done_of : ℕ → (ℕ → Option End) → NodeEvent → NodeState → Option Done
done_of n far e node = answer_done (node_answered (happens e node)) (note_of n far e node)

-- a note in a list
abbrev pub listed : Option Note → List Note
listed None = []
listed (Some t) = t ∷ []

-- runs in a row with one more in front
abbrev pub one_more : NodeState × RunsDone → NodeState × RunsDone
one_more (node, row) = (node, record { count = 1 + row.count; note = row.note })

-- a run that told nothing is followed by the others; one that told something ends the row
abbrev pub after_run : (NodeState → NodeState × RunsDone) → Option Note → NodeState → NodeState × RunsDone
after_run rest None node = one_more (rest node)
after_run rest (Some t) node = (node, record { count = 1; note = Some t })

-- a run that is not enabled ends the row, and so does one that told something; another is followed by the others
abbrev pub after_asked : (NodeState → NodeState × RunsDone) → Option Done → NodeState → NodeState × RunsDone
after_asked rest None node = (node, record { count = 0; note = None })
after_asked rest (Some d) node = after_run rest d.note node

-- at most this number of runs of a node in a row, as others see them: the node after them, how many were done, and
-- what the last one told, if it told something
unfoldable pub runs_done : ℕ → (ℕ → Option End) → ℕ → NodeState → NodeState × RunsDone
runs_done n far zero node = (node, record { count = 0; note = None })
runs_done n far (suc k) node =
    after_asked (λ m. runs_done n far k m) (done_of n far at_node.Run node)
    (node_left_by node (happens at_node.Run node))

-- k runs that told nothing, and the answer of the one behind them, which is the last: it halted the processor,
-- was not enabled, or froze the node
abbrev pub last_told : ℕ → ℕ → Result Emitted StepFault → RunsDone
last_told n k (Ok e) = record { count = k + 1; note = Some (Halt n) }
last_told n k (Err NotEnabled) = record { count = k; note = None }
last_told n k (Err (Frozen b)) = record { count = k + 1; note = Some (Freeze n b) }
