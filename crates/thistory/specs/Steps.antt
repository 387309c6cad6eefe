-- The history of a node: a line for each of its events.
-- Source: own choice, a format of this program.
use Rattle.std.specs.Prelude.{ℕ, suc, Bool, true, false, ◌&&◌, ◌==◌, nat_le, nat_lt, List, [], ◌∷◌, ◌++◌, filter}
use Rattle.std.specs.Prelude.{length, codes, Option, Some, None, Result, Ok, Err, if◌then◌else◌}
use Rattle.hex.specs.Hex.{encode_lower}
use Rattle.tcpu.specs.declared.registers.Registers.{Registers}
use Rattle.tproc.specs.Machine.{Machine}
use Rattle.tlink.specs.declared.counts.Arrival.{Arrival}
use Rattle.tlink.specs.declared.event.Emitted.{Emitted}
use Rattle.tlink.specs.declared.event.Mark.{Mark}
use Rattle.tlink.specs.declared.event.Mark.TheVariants.{Nothing, Halted, Completed}
use Rattle.tlink.specs.declared.event.Packet.{Packet}
use Rattle.tlink.specs.declared.event.Packet.TheVariants as packet
use Rattle.tlink.specs.declared.event.StepFault.{StepFault}
use Rattle.tlink.specs.declared.event.StepFault.TheVariants.{NotEnabled, Frozen}
use Rattle.tplan.specs.declared.event.Event.{Event}
use Rattle.tplan.specs.declared.plan.End.{End}
use Rattle.tplan.specs.Wires.{far_ends}
use Rattle.tnet.specs.Net.{NetState}
use Rattle.twhere.specs.Standing.{word_text}
use Rattle.thistory.specs.declared.deed.Deed.{Deed}
use Rattle.thistory.specs.declared.deed.Deed.TheVariants.{Instruction, Dispatch, Send, Data, Take, Ack}
use Rattle.thistory.specs.declared.deed.Done.{Done}
use Rattle.thistory.specs.declared.steps.Asked.{Asked}
use Rattle.thistory.specs.Deeds.{done_of, net_behind, processor_in}
use Rattle.thistory.specs.Lines.{event_line}

-- registers
abbrev pub words_text : Registers → List ℕ
words_text r =
    codes " A " ++ (word_text r.a
    ++ (codes " B " ++ (word_text r.b
    ++ (codes " C " ++ (word_text r.c
    ++ (codes " Wptr " ++ (word_text r.wptr ++ (codes " Iptr " ++ word_text r.iptr))))))))

-- the registers of a processor, if there is one
abbrev pub registers_text : Option Machine → List ℕ
registers_text (Some m) = words_text m.control.registers
registers_text None = []

-- a byte, if one is seen
abbrev pub byte_text : Option ℕ → List ℕ
byte_text (Some b) = codes " byte " ++ encode_lower (b ∷ [])
byte_text None = codes " byte --"

-- the byte of a packet that was sent
abbrev pub packet_byte : Option (ℕ × Packet) → Option ℕ
packet_byte (Some (l, packet.Data byte last)) = Some byte
packet_byte (Some (l, packet.Ack)) = None
packet_byte None = None

abbrev pub sent_byte : Result Emitted StepFault → Option ℕ
sent_byte (Ok e) = packet_byte e.packet
sent_byte (Err f) = None

-- the byte that came in
abbrev pub data_byte : Option Arrival → Option ℕ
data_byte (Some a) = Some a.byte
data_byte None = None

-- the byte that was taken: it is hidden in the buffer, as long as its message is not complete
abbrev pub marked_byte : Mark → Option Arrival → Option ℕ
marked_byte (Completed l) a = data_byte a
marked_byte _ a = None

abbrev pub taken_byte : Result Emitted StepFault → Option Arrival → Option ℕ
taken_byte (Ok e) a = marked_byte e.mark a
taken_byte (Err f) a = None

-- the registers that a deed left, or the byte of its packet
abbrev pub left_text : Deed → Result Emitted StepFault → Option Machine → List ℕ
left_text (Instruction process iptr fetched) answer m = registers_text m
left_text Dispatch answer m = registers_text m
left_text (Send l) answer m = byte_text (sent_byte answer)
left_text (Data l a) answer m = byte_text (data_byte a)
left_text (Take l a) answer m = byte_text (taken_byte answer a)
left_text (Ack l) answer m = []

-- the line of an event that was done, by the far ends of the links of its node and the processor of that node behind it
abbrev pub step_line : ℕ → (ℕ → Option End) → Done → Option Machine → List ℕ
step_line k far d m = event_line (left_text d.deed d.answer m) k far d m

-- the event was done: it froze its node, or the node goes on
abbrev pub was_done : Result Emitted StepFault → Bool
was_done (Ok e) = true
was_done (Err NotEnabled) = false
was_done (Err (Frozen b)) = true

-- what was done by an event, by the net behind it; one that is not enabled has no line
abbrev pub step_text : ℕ → Done → NetState → List ℕ
step_text k d net =
    if was_done d.answer
    then step_line k (far_ends net.wires d.event.node) d (processor_in net d.event.node)
    else []

-- how many of some events are a node's
abbrev pub own_count : ℕ → List Event → ℕ
own_count n events = length (filter (λ e. e.node == n) events)

-- an event of this number, with `behind` events of the node after it, is told: it is the node's, it is not before the
-- first that is asked for, and it is one of the last ones
abbrev pub is_asked : Asked → ℕ → Event → (behind : ℕ) → Bool
is_asked q k e behind = (e.node == q.node) && (nat_le q.from k && nat_lt behind q.last)

-- what is told of an event, by the net before it
abbrev pub event_text : Asked → ℕ → Event → (behind : ℕ) → NetState → List ℕ
event_text q k e behind net =
    if is_asked q k e behind then step_text k (done_of net e) (net_behind net e) else []

-- the text of the events from a number on
abbrev pub steps_from : Asked → ℕ → List Event → NetState → List ℕ
steps_from q k [] net = []
steps_from q k (e ∷ es) net =
    event_text q k e (own_count q.node es) net ++ steps_from q (suc k) es (net_behind net e)

-- the text of events that are done on a net
abbrev pub steps_text : Asked → List Event → NetState → List ℕ
steps_text q events net = steps_from q 0 events net

-- the net behind events; those that are not enabled change nothing
abbrev pub net_after : List Event → NetState → NetState
net_after [] net = net
net_after (e ∷ es) net = net_after es (net_behind net e)
