-- An event of a net, as it is told: what its node was about to do, and what that led to.
-- Source: own choice.
use Rattle.std.specs.Prelude.{ℕ, zero, suc, ◌+◌, List, [], ◌∷◌, Option, Some, None}
use Rattle.tproc.specs.Machine.{Machine}
use Rattle.tlink.specs.declared.counts.Arrival.{Arrival}
use Rattle.tlink.specs.Scripts.{processor_of}
use Rattle.tlink.specs.Node.{NodeState, counts_at}
use Rattle.tplan.specs.declared.event.Act.{Act}
use Rattle.tplan.specs.declared.event.Act.TheVariants as act
use Rattle.tplan.specs.declared.event.Event.{Event}
use Rattle.tplan.specs.Wires.{end_at}
use Rattle.tnet.specs.Net.{NetState, inbox_at, node_at}
use Rattle.tnet.specs.Packets.{answered, net_happens, net_left_by}
use Rattle.twhere.specs.Standing.{fetched_at}
use Rattle.thistory.specs.declared.deed.Deed.{Deed}
use Rattle.thistory.specs.declared.deed.Deed.TheVariants.{Instruction, Dispatch, Send, Data, Take, Ack}
use Rattle.thistory.specs.declared.deed.Done.{Done}

-- the processor of a node, if the node is there and is no script
abbrev pub processor_at : Option NodeState → Option Machine
processor_at (Some n) = processor_of n.role n.machine
processor_at None = None

-- the processor of a node of a net
abbrev pub processor_in : NetState → ℕ → Option Machine
processor_in net n = processor_at (node_at net n)

-- the next instruction of the process that runs, which has this priority
abbrev pub instruction_deed : ℕ → Machine → Deed
instruction_deed p m =
    Instruction (m.control.registers.wptr + p) m.control.registers.iptr (fetched_at m m.control.registers.iptr)

-- what a processor is about to run, by the priority of its process and the high queue: an instruction, unless the
-- process is low and a high one is queued
abbrev pub run_deed : Option ℕ → List ℕ → Machine → Deed
run_deed None high m = Dispatch
run_deed (Some zero) high m = instruction_deed 0 m
run_deed (Some (suc p)) [] m = instruction_deed 1 m
run_deed (Some (suc p)) (w ∷ ws) m = Dispatch

-- that of a processor, if there is one; a script runs nothing
abbrev pub processor_deed : Option Machine → Deed
processor_deed (Some m) = run_deed m.control.current m.control.high m
processor_deed None = Dispatch

-- the byte that waits at a link of a node, if it is there
abbrev pub waiting_at : ℕ → Option NodeState → Option Arrival
waiting_at l (Some n) = (counts_at n l).arrived
waiting_at l None = None

-- what a node of a net is about to do
abbrev pub act_deed : NetState → ℕ → Act → Deed
act_deed net n act.Run = processor_deed (processor_in net n)
act_deed net n (act.Send l) = Send l
act_deed net n (act.Data l) = Data l (inbox_at net (end_at n l)).carried
act_deed net n (act.Take l) = Take l (waiting_at l (node_at net n))
act_deed net n (act.Ack l) = Ack l

-- what the node of an event is about to do
abbrev pub deed_of : NetState → Event → Deed
deed_of net e = act_deed net e.node e.act

-- an event, with what its node was about to do and the answer of the net
abbrev pub done_of : NetState → Event → Done
done_of net e = record { event = e; deed = deed_of net e; answer = answered (net_happens e net) }

-- the net behind an event; one that is not enabled changes nothing
abbrev pub net_behind : NetState → Event → NetState
net_behind net e = net_left_by e net (net_happens e net)
