-- What is printed of where the processes and the links of a net stand: a line for each node, and below it a line for
-- each fact; behind the nodes, where no event is enabled, a line for each link that anyone waits for, and one for each
-- circle of nodes that wait for one another.
-- Source: own choice, a format of this program; the names of registers, flags and queues are the Compiler Writer's
-- Guide's (1988).
use Rattle.std.specs.Prelude.{ℕ, zero, suc, ◌+◌, Bool, true, false, nat_le, List, [], ◌∷◌, ◌++◌, map, flat_map}
use Rattle.std.specs.Prelude.{length, Option, Some, None, is_some, unwrap_or, Result, Ok, Err, codes, decimal, fold}
use Rattle.std.specs.Prelude.{insert, if◌then◌else◌}
use Rattle.std.specs.List.{position_or_len}
use Rattle.std.specs.Int.{w32, from_le_bytes, to_be_bytes}
use Rattle.hex.specs.Hex.{encode_lower}
use Rattle.tword.specs.declared.breaks.Break.{Break}
use Rattle.tword.specs.Words.{plus, word_below}
use Rattle.tword.specs.Stores.{Store, byte_at}
use Rattle.tword.specs.Actions.{run, value_of}
use Rattle.tcode.specs.declared.instruction.Instruction.{Instruction}
use Rattle.tcode.specs.Decoding.{decode}
use Rattle.tcode.specs.Texts.{instruction_text}
use Rattle.tcpu.specs.declared.registers.Registers.{Registers}
use Rattle.tproc.specs.declared.offer.Offer.{Offer}
use Rattle.tproc.specs.declared.waiter.Reason.{Reason}
use Rattle.tproc.specs.declared.waiter.Reason.TheVariants.{Receives, Sends, LinkInput, LinkOutput, Chooses}
use Rattle.tproc.specs.declared.waiter.Suspended.{Suspended}
use Rattle.tproc.specs.declared.waiter.Waiter.{Waiter}
use Rattle.tproc.specs.Machine.{Control, Machine, claims_of, workspace_of}
use Rattle.tproc.specs.Queues.{iptr_word}
use Rattle.tproc.specs.LinkChannels.{link_end}
use Rattle.tlink.specs.declared.counts.Arrival.{Arrival}
use Rattle.tlink.specs.declared.counts.Counts.{Counts}
use Rattle.tlink.specs.Roles.{Role, Processor, Source, Sink}
use Rattle.tlink.specs.Node.{NodeState, counts_at, input_at, output_at}
use Rattle.tnet.specs.declared.inbox.Inbox.{Inbox}
use Rattle.tnet.specs.Net.{NetState, four_links, inbox_at}
use Rattle.tplan.specs.declared.plan.End.{End}
use Rattle.tplan.specs.Wires.{end_at, far_ends}
use Rattle.tnet.specs.Quiet.{is_quiet}
use Rattle.tfiles.specs.Logs.{line}
use Rattle.tfiles.specs.Texts.{break_name, end_text, node_line, source_line, sink_line}
use Rattle.twhere.specs.declared.listing.Listed.{Listed}
use Rattle.twhere.specs.declared.stuck.Who.{Who}
use Rattle.twhere.specs.declared.stuck.Who.TheVariants.{Process, TheSource, TheSink}
use Rattle.twhere.specs.declared.waits.Lack.{Lack}
use Rattle.twhere.specs.declared.waits.Lack.TheVariants.{Frozen, Halted, Room, Partner}
use Rattle.twhere.specs.declared.waits.Wait.{Wait}
use Rattle.twhere.specs.declared.waits.Want.{Want}
use Rattle.twhere.specs.declared.waits.Want.TheVariants.{Output, Input, Alternative}
use Rattle.twhere.specs.Circles.{circle, numbers_from}
use Rattle.twhere.specs.Waits.{lack, sink_waits, source_waits, wait_at, waiter_waits, waits_for}

-- ---- words and instructions

-- a word
abbrev pub word_text : ℕ → List ℕ
word_text w = codes "#" ++ encode_lower (to_be_bytes w32 w)

-- a fact that is a word, behind its name
abbrev pub word_fact : List ℕ → ℕ → List ℕ
word_fact name w = line (name ++ word_text w)

-- the instruction that a fetch finds, or the break of the fetch
abbrev pub fetched_text : Result Instruction Break → List ℕ
fetched_text (Ok i) = instruction_text i
fetched_text (Err b) = break_name b

-- what a fetch at an address answers, by the kind of the node
abbrev pub fetched_at : Machine → ℕ → Result Instruction Break
fetched_at n iptr = value_of (run (decode n.control.kind iptr) n.store (claims_of n.control))

-- an address, with the instruction there
abbrev pub code_text : Machine → ℕ → List ℕ
code_text n address = word_text address ++ (codes ": " ++ fetched_text (fetched_at n address))

-- a byte of the store, 0 where there is none
abbrev pub byte_there : Store → ℕ → ℕ
byte_there store a = unwrap_or (byte_at store a) 0

-- the four bytes from an address on, as a word
abbrev pub word_there : Store → ℕ → ℕ
word_there store a =
    from_le_bytes w32
    (byte_there store a
    ∷ byte_there store (plus a 1)
    ∷ byte_there store (plus a 2)
    ∷ byte_there store (plus a 3)
    ∷ [])

-- the saved Iptr of a process that is queued or waits
abbrev pub saved_iptr : Machine → ℕ → ℕ
saved_iptr n process = word_there n.store (word_below (workspace_of process) iptr_word)

-- ---- the process that runs, and the one that was interrupted

-- a priority
abbrev pub priority_text : ℕ → List ℕ
priority_text zero = codes " high"
priority_text (suc p) = codes " low"

-- the flags that are set
abbrev pub flag_facts : Registers → List ℕ
flag_facts r =
    (if r.error then line (codes "    Error       set") else [])
    ++ (if r.halt_on_error then line (codes "    HaltOnError set") else [])

-- Iptr, with the instruction there
abbrev pub iptr_fact : Machine → ℕ → List ℕ
iptr_fact n iptr = line (codes "    Iptr        " ++ code_text n iptr)

-- the registers A, B, C and Wptr
abbrev pub register_facts : Registers → List ℕ
register_facts r =
    word_fact (codes "    A           ") r.a
    ++ (word_fact (codes "    B           ") r.b
    ++ (word_fact (codes "    C           ") r.c ++ word_fact (codes "    Wptr        ") r.wptr))

-- a process with its registers: its descriptor and its priority, and each register
abbrev pub process_facts : List ℕ → Machine → ℕ → Registers → List ℕ
process_facts name n p r =
    line (name ++ (word_text (r.wptr + p) ++ priority_text p))
    ++ (iptr_fact n r.iptr ++ (register_facts r ++ flag_facts r))

-- no process runs: only the flags
abbrev pub idle_facts : Registers → List ℕ
idle_facts r = line (codes "  runs          none") ++ flag_facts r

-- the process that runs, or that broke the rule
abbrev pub running_facts : Machine → Option ℕ → List ℕ
running_facts n (Some p) = process_facts (codes "  runs          ") n p n.control.registers
running_facts n None = idle_facts n.control.registers

-- the low process that was interrupted
abbrev pub interrupted_facts : Machine → Option Suspended → List ℕ
interrupted_facts n (Some s) = process_facts (codes "  interrupted   ") n 1 s.registers
interrupted_facts n None = []

-- ---- those that are queued

-- the descriptors of a queue of this priority
abbrev pub descriptors : ℕ → List ℕ → List ℕ
descriptors p workspaces = map (λ w. w + p) workspaces

-- a process and its Iptr, with the instruction there
abbrev pub place_text : Machine → ℕ → List ℕ
place_text n process = word_text process ++ (codes " Iptr " ++ code_text n (saved_iptr n process))

-- a process that is queued
abbrev pub queued_fact : List ℕ → Machine → ℕ → List ℕ
queued_fact name n process = line (name ++ place_text n process)

-- a queue, the first of it first
abbrev pub queue_facts : List ℕ → Machine → List ℕ → List ℕ
queue_facts name n processes = flat_map (queued_fact name n) processes

-- ---- those that wait

-- a waiting process is put before the first whose descriptor is not below its own
abbrev pub inserted : List Waiter → Waiter → List Waiter
inserted sorted w = insert sorted (position_or_len (λ v. nat_le w.process v.process) sorted) w

-- processes that wait, in the order of their descriptors
abbrev pub by_descriptor : List Waiter → List Waiter
by_descriptor waiting = fold inserted [] waiting

-- a message
abbrev pub message_text : (buffer length : ℕ) → List ℕ
message_text buffer length = codes ", buffer " ++ (word_text buffer ++ (codes " length " ++ decimal length))

-- a message on an internal channel
abbrev pub channel_text : (channel buffer length : ℕ) → List ℕ
channel_text channel buffer length = codes " on channel " ++ (word_text channel ++ message_text buffer length)

-- a message on a link, and how many of its bytes went over
abbrev pub offer_text : Option Offer → ℕ → List ℕ
offer_text (Some o) over = message_text o.buffer o.length ++ (codes " over " ++ decimal over)
offer_text None over = []

-- what is waited for at a link
abbrev pub want_text : Want → List ℕ
want_text Output = codes "output"
want_text Input = codes "input"
want_text Alternative = codes "alternative"

-- which way it goes: an output to the far end, all else from it
abbrev pub way_text : Want → List ℕ
way_text Output = codes " to "
way_text Input = codes " from "
way_text Alternative = codes " from "

-- where the wire leads, if there is one
abbrev pub wire_text : Want → Option End → List ℕ
wire_text want (Some e) = way_text want ++ end_text e
wire_text want None = codes ", no wire"

-- a wait at a link with this far end
abbrev pub wait_text : Wait → Option End → List ℕ
wait_text w far = want_text w.want ++ (codes " on link " ++ (decimal w.link ++ wire_text w.want far))

-- the input of a link of the node of this number
abbrev pub link_input_text : NetState → ℕ → NodeState → ℕ → List ℕ
link_input_text net k n l =
    wait_text (wait_at Input l) (far_ends net.wires k l) ++ offer_text (input_at n l) (counts_at n l).got

-- the output of a link
abbrev pub link_output_text : NetState → ℕ → NodeState → ℕ → List ℕ
link_output_text net k n l =
    wait_text (wait_at Output l) (far_ends net.wires k l) ++ offer_text (output_at n l) (counts_at n l).acked

-- what a process waits for
abbrev pub reason_text : NetState → ℕ → NodeState → Reason → List ℕ
reason_text net k n (Receives channel buffer length) = codes "input" ++ channel_text channel buffer length
reason_text net k n (Sends channel buffer length) = codes "output" ++ channel_text channel buffer length
reason_text net k n (LinkInput l) = link_input_text net k n l
reason_text net k n (LinkOutput l) = link_output_text net k n l
reason_text net k n Chooses = codes "alternative"

-- a process that waits: its Iptr, and for what
abbrev pub waiter_fact : NetState → ℕ → NodeState → Waiter → List ℕ
waiter_fact net k n w =
    line (codes "  waits         " ++ (place_text n.machine w.process ++ (codes ", " ++ reason_text net k n w.reason)))

-- the processes of a list that wait, each on a line
abbrev pub waiting_facts : NetState → ℕ → NodeState → List Waiter → List ℕ
waiting_facts net k n waiting = flat_map (waiter_fact net k n) waiting

-- ---- links

-- what stands before each fact of a link
abbrev pub link_name : ℕ → List ℕ
link_name l = codes "  link " ++ (decimal l ++ codes "        ")

-- a fact of a link
abbrev pub link_fact : ℕ → List ℕ → List ℕ
link_fact l text = link_name l ++ line text

-- a pending output: how many bytes were sent, and how many of them acknowledged
abbrev pub output_fact : (link : ℕ) → (is_pending : Bool) → Counts → List ℕ
output_fact l true c = link_fact l (codes "sent " ++ (decimal c.sent ++ (codes " acknowledged " ++ decimal c.acked)))
output_fact l false c = []

-- a pending input: how many bytes it has got
abbrev pub input_fact : (link : ℕ) → (is_pending : Bool) → Counts → List ℕ
input_fact l true c = link_fact l (codes "got " ++ decimal c.got)
input_fact l false c = []

-- a byte, and whether it is marked as the last
abbrev pub arrival_text : Arrival → List ℕ
arrival_text a = encode_lower (a.byte ∷ []) ++ (if a.last then codes " last" else [])

-- a byte that came, or that lies there as a packet, by this name
abbrev pub byte_fact : ℕ → List ℕ → Option Arrival → List ℕ
byte_fact l name (Some a) = link_fact l (name ++ arrival_text a)
byte_fact l name None = []

-- an acknowledge that lies there
abbrev pub ack_fact : ℕ → Bool → List ℕ
ack_fact l true = link_fact l (codes "packet acknowledge")
ack_fact l false = []

-- the process that enabled the link
abbrev pub enabled_fact : ℕ → Option ℕ → List ℕ
enabled_fact l (Some process) = link_fact l (codes "enabled by " ++ word_text process)
enabled_fact l None = []

-- a link with what lies at it; one that is at rest has no line
abbrev pub link_facts : NodeState → Inbox → ℕ → List ℕ
link_facts n box l =
    output_fact l (is_some (output_at n l)) (counts_at n l)
    ++ (input_fact l (is_some (input_at n l)) (counts_at n l)
    ++ (byte_fact l (codes "byte waits ") (counts_at n l).arrived
    ++ (byte_fact l (codes "packet data ") box.carried
    ++ (ack_fact l box.acknowledged ++ enabled_fact l (link_end n.machine.control l).remembered))))

-- the four links of a node
abbrev pub links_facts : NetState → ℕ → NodeState → List ℕ
links_facts net k n = flat_map (λ l. link_facts n (inbox_at net (end_at k l)) l) four_links

-- ---- nodes

-- the processes of a node that are queued or wait, in the order in which they are told
abbrev pub listed_of : Control → Listed
listed_of m =
    record {
      high = descriptors 0 m.high;
      low = descriptors 1 m.low;
      waiting = by_descriptor m.waiting;
    }

-- a processor, with these lists of its processes
abbrev pub processor_where : NetState → ℕ → NodeState → Listed → List ℕ
processor_where net k n listed =
    node_line k n.broken n.machine.control.halted
    ++ (running_facts n.machine n.machine.control.current
    ++ (interrupted_facts n.machine n.machine.control.interrupted
    ++ (queue_facts (codes "  high queue    ") n.machine listed.high
    ++ (queue_facts (codes "  low queue     ") n.machine listed.low
    ++ waiting_facts net k n listed.waiting))))

-- what stands behind the links: a processor, with these lists of its processes, a source or a sink
abbrev pub role_where : Role → NetState → ℕ → NodeState → Listed → List ℕ
role_where Processor net k n listed = processor_where net k n listed
role_where (Source over rest) net k n listed = source_line k (length over) (length over + length rest)
role_where (Sink kept) net k n listed = sink_line k (length kept)

-- what stands behind the links of a node, and the links
abbrev pub listed_where : NetState → ℕ → NodeState → Listed → List ℕ
listed_where net k n listed = role_where n.role net k n listed ++ links_facts net k n

-- ---- what is lacking, where the net is quiet

-- a name with a number
abbrev pub numbered : List ℕ → ℕ → List ℕ
numbered name k = name ++ decimal k

-- who waits, by the number of the node: a process, a source or a sink
abbrev pub who_text : Who → ℕ → List ℕ
who_text (Process process) k = word_text process ++ numbered (codes " of ") k
who_text TheSource k = numbered (codes "source ") k
who_text TheSink k = numbered (codes "sink ") k

-- a node that does nothing, and why
abbrev pub node_lacks : ℕ → List ℕ → List ℕ
node_lacks n how = numbered (codes "node ") n ++ how

-- the other half of a message is not there
abbrev pub partner_text : Want → List ℕ
partner_text Output = codes "no input there"
partner_text Input = codes "no output there"
partner_text Alternative = codes "no output there"

-- a sink is full: at the far end of an output, or the one that waits itself
abbrev pub room_text : Want → List ℕ
room_text Output = codes "no room there"
room_text Input = codes "no room here"
room_text Alternative = codes "no room here"

-- what is lacking
abbrev pub lack_text : Want → Lack → List ℕ
lack_text want (Frozen n) = node_lacks n (codes " is frozen")
lack_text want (Halted n) = node_lacks n (codes " is halted")
lack_text want Room = room_text want
lack_text want Partner = partner_text want

-- what is lacking behind a wire; a link without one is told of already
abbrev pub lacking_text : NetState → ℕ → NodeState → Want → Option End → List ℕ
lacking_text net k n want (Some e) = codes ", " ++ lack_text want (lack net k n want e)
lacking_text net k n want None = []

-- one of a node waits at a link for ever
abbrev pub stuck_fact : NetState → ℕ → NodeState → Who → Wait → List ℕ
stuck_fact net k n who w =
    line (codes "stuck "
    ++ (who_text who k
    ++ (codes ": "
    ++ (wait_text w (far_ends net.wires k w.link) ++ lacking_text net k n w.want (far_ends net.wires k w.link)))))

-- all links that one of a node waits for
abbrev pub stuck_facts : NetState → ℕ → NodeState → Who → List Wait → List ℕ
stuck_facts net k n who waits = flat_map (stuck_fact net k n who) waits

-- a process that waits
abbrev pub waiter_stuck : NetState → ℕ → NodeState → Waiter → List ℕ
waiter_stuck net k n w = stuck_facts net k n (Process w.process) (waiter_waits n.machine.control w)

-- what stands behind the links: the processes of this list, a source or a sink
abbrev pub role_stuck : Role → NetState → ℕ → NodeState → List Waiter → List ℕ
role_stuck Processor net k n waiting = flat_map (waiter_stuck net k n) waiting
role_stuck (Source over rest) net k n waiting = stuck_facts net k n TheSource (source_waits n)
role_stuck (Sink kept) net k n waiting = stuck_facts net k n TheSink (sink_waits n)

-- ---- nodes

-- a node
abbrev pub node_where : NetState → ℕ → NodeState → List ℕ
node_where net k n = listed_where net k n (listed_of n.machine.control)

-- those of a node that wait at links
abbrev pub node_stuck : NetState → ℕ → NodeState → List ℕ
node_stuck net k n = role_stuck n.role net k n (by_descriptor n.machine.control.waiting)

-- the texts of the nodes from a number on
abbrev pub texts_from : (ℕ → NodeState → List ℕ) → ℕ → List NodeState → List ℕ
texts_from text k [] = []
texts_from text k (n ∷ ns) = text k n ++ texts_from text (suc k) ns

-- ---- circles of nodes that wait for one another

-- a node that another one waits for
abbrev pub awaited_text : ℕ → List ℕ
awaited_text n = numbered (codes " waits for ") n

-- a circle: its lowest node, and those behind it in their order up to itself, if it has one
abbrev pub circle_fact : (lowest : ℕ) → Option (List ℕ) → List ℕ
circle_fact lowest (Some behind) = line (numbered (codes "circle ") lowest ++ flat_map awaited_text behind)
circle_fact lowest None = []

-- the circles of `count` nodes, by which of them waits for which, in the order of their lowest nodes
abbrev pub circle_facts : ℕ → (ℕ → ℕ → Bool) → List ℕ
circle_facts count waits = flat_map (λ n. circle_fact n (circle count waits n)) (numbers_from 0 count)

-- those of a net
abbrev pub circles_text : NetState → List ℕ
circles_text net = circle_facts (length net.nodes) (waits_for net)

-- ---- the whole

-- all that wait at links, and the circles, where the net is quiet: nothing more happens by itself
abbrev pub stuck_text : NetState → List ℕ
stuck_text net = if is_quiet net then texts_from (node_stuck net) 0 net.nodes ++ circles_text net else []

-- a net
abbrev pub where_text : NetState → List ℕ
where_text net = texts_from (node_where net) 0 net.nodes ++ stuck_text net
