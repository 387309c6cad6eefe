-- What an event did, as the picture shows it.
-- Source: own choice.
use Rattle.std.specs.Prelude.{ℕ, ◌+◌, min, Bool, true, false, ◌==◌, Option, Some, None, is_some, option_map, Result}
use Rattle.std.specs.Prelude.{Ok, Err, if◌then◌else◌}
use Rattle.tword.specs.Stores.{bytes_at}
use Rattle.tproc.specs.declared.offer.Offer.{Offer}
use Rattle.tproc.specs.declared.waiter.Reason.{Reason}
use Rattle.tproc.specs.declared.waiter.Waiter.{Waiter}
use Rattle.tproc.specs.Machine.{Machine}
use Rattle.tproc.specs.Messages.{input_of, output_of}
use Rattle.tlink.specs.declared.event.Emitted.{Emitted}
use Rattle.tlink.specs.declared.event.Mark.{Mark}
use Rattle.tlink.specs.declared.event.Mark.TheVariants as mark
use Rattle.tlink.specs.declared.event.StepFault.{StepFault}
use Rattle.tlink.specs.declared.event.StepFault.TheVariants as fault
use Rattle.tlink.specs.Node.{NodeState, counts_at, due_at}
use Rattle.tplan.specs.declared.event.Act.{Act}
use Rattle.tplan.specs.declared.event.Act.TheVariants as act
use Rattle.tplan.specs.declared.event.Event.{Event}
use Rattle.tplan.specs.declared.plan.End.{End}
use Rattle.tnet.specs.Net.{NetState, node_at}
use Rattle.tplan.specs.Wires.{far_ends}
use Rattle.thistory.specs.declared.deed.Deed.{Deed}
use Rattle.thistory.specs.declared.deed.Deed.TheVariants as deed
use Rattle.thistory.specs.declared.deed.Done.{Done}
use Rattle.thistory.specs.Deeds.{done_of, net_behind, processor_in}
use Rattle.tchart.specs.declared.shown.Before.{Before}
use Rattle.tchart.specs.declared.shown.Message.{Message}
use Rattle.tchart.specs.declared.shown.Shown.{Shown}
use Rattle.tchart.specs.declared.shown.Shown.TheVariants.{Nothing, Run, Sent, Came, Taken, Acknowledged, Frozen}
use Rattle.tchart.specs.Waits.{reason_at}

-- ---- what is known before an event

-- no byte of the pending output of a link was sent yet
abbrev pub is_first : ℕ → Option NodeState → Bool
is_first l (Some n) = (counts_at n l).sent == 0
is_first l None = false

-- the message that the next byte at a link completes, if it is the last one
abbrev pub due_in : ℕ → Option NodeState → Option Offer
due_in l (Some n) = due_at n l
due_in l None = None

-- the process of an offer
abbrev pub process_of : Option Offer → Option ℕ
process_of (Some o) = Some o.wdesc
process_of None = None

-- the process that sends on a link, and the one that receives there; a script has none
abbrev pub sender : ℕ → Option Machine → Option ℕ
sender l (Some m) = process_of (output_of m l)
sender l None = None

abbrev pub receiver : ℕ → Option Machine → Option ℕ
receiver l (Some m) = process_of (input_of m l)
receiver l None = None

-- what is known before a byte is sent
abbrev pub before_send : NetState → ℕ → ℕ → Before
before_send net n l =
    record { is_first = is_first l (node_at net n); process = sender l (processor_in net n); due = None }

-- what is known before a byte is taken
abbrev pub before_take : NetState → ℕ → ℕ → Before
before_take net n l =
    record { is_first = false; process = receiver l (processor_in net n); due = due_in l (node_at net n) }

-- what is known before an act of a node; of other acts there is nothing to know
abbrev pub before_act : NetState → ℕ → Act → Before
before_act net n (act.Send l) = before_send net n l
before_act net n (act.Take l) = before_take net n l
before_act net n _ = record { is_first = false; process = None; due = None }

abbrev pub before_of : NetState → Event → Before
before_of net e = before_act net e.node e.act

-- ---- an instruction or a dispatch

-- the process that runs, if one does
abbrev pub current : Option ℕ → (wptr : ℕ) → Option ℕ
current (Some p) wptr = Some (wptr + p)
current None wptr = None

abbrev pub runner : Option Machine → Option ℕ
runner (Some m) = current m.control.current m.control.registers.wptr
runner None = None

-- a process with what it waits for
abbrev pub waiter : (process : ℕ) → Option Reason → Option Waiter
waiter process reason = option_map (λ r. record { process = process; reason = r }) reason

-- the process that did an instruction, if it waits behind it; no process runs then
abbrev pub waiter_behind : NetState → (n process : ℕ) → Option Waiter
waiter_behind net n process =
    if is_some (runner (processor_in net n)) then None else waiter process (reason_at process (node_at net n))

-- the processor halted
abbrev pub is_halt : Mark → Bool
is_halt mark.Halted = true
is_halt _ = false

-- ---- a message that is complete

-- the message that was due from an end, with the first eight of its bytes, by the node behind its last byte
abbrev pub message_in : Option End → (process : Option ℕ) → Option Offer → Option NodeState → Option Message
message_in (Some f) process (Some o) (Some n) =
    Some (record {
      from = f;
      length = o.length;
      bytes = bytes_at n.machine.store o.buffer (min o.length 8);
      process = process;
    })
message_in _ process _ _ = None

-- a byte that was taken completes a message, or it does not
abbrev pub message_of : (ℕ → Option End) → Before → Option NodeState → Mark → Option Message
message_of far b n (mark.Completed l) = message_in (far l) b.process b.due n
message_of far b n _ = None

-- ---- an event

-- what an event did that broke no rule, by the net behind it
abbrev pub deed_shown : NetState → Before → ℕ → Mark → Deed → Shown
deed_shown net b n m (deed.Instruction process iptr fetched) =
    Run (Some process) (is_halt m) (waiter_behind net n process)
deed_shown net b n m deed.Dispatch = Run (runner (processor_in net n)) (is_halt m) None
deed_shown net b n m (deed.Send l) = Sent l (far_ends net.wires n l) b.is_first b.process
deed_shown net b n m (deed.Data l a) = Came l
deed_shown net b n m (deed.Take l a) =
    Taken l (far_ends net.wires n l) (message_of (far_ends net.wires n) b (node_at net n) m)
deed_shown net b n m (deed.Ack l) = Acknowledged l

-- what an event did, by the answer of the net
abbrev pub answer_shown : NetState → Before → ℕ → Deed → Result Emitted StepFault → Shown
answer_shown net b n d (Ok e) = deed_shown net b n e.mark d
answer_shown net b n d (Err fault.NotEnabled) = Nothing
answer_shown net b n d (Err (fault.Frozen broken)) = Frozen broken

abbrev pub shown_by : NetState → Before → Done → Shown
shown_by net b d = answer_shown net b d.event.node d.deed d.answer

-- what an event of a net does
abbrev pub shown_of : NetState → Event → Shown
shown_of net e = shown_by (net_behind net e) (before_of net e) (done_of net e)
