-- Who waits for whom: the links that a process, a source or a sink of a net waits for, and what it lacks there.
-- Source: the Compiler Writer's Guide (1988): a process waits at a link until the other end has its part. What is
-- told to be lacking: own choice.
use Rattle.std.specs.Prelude.{ℕ, Bool, false, ◌==◌, List, [], ◌∷◌, Option, Some, None, is_some, if◌then◌else◌}
use Rattle.std.specs.List.{flat_map, list_any}
use Rattle.tproc.specs.declared.waiter.Reason.{Reason}
use Rattle.tproc.specs.declared.waiter.Reason.TheVariants.{Receives, Sends, LinkInput, LinkOutput, Chooses}
use Rattle.tproc.specs.declared.waiter.Waiter.{Waiter}
use Rattle.tproc.specs.Machine.{Control}
use Rattle.tproc.specs.LinkChannels.{link_end}
use Rattle.tlink.specs.Roles.{Role, Processor, Source, Sink}
use Rattle.tlink.specs.Node.{NodeState, counts_at, output_at, input_at}
use Rattle.tplan.specs.declared.plan.End.{End}
use Rattle.tplan.specs.declared.plan.Wire.{Wire}
use Rattle.tnet.specs.Net.{NetState, four_links, node_at}
use Rattle.tplan.specs.Wires.{far_ends}
use Rattle.twhere.specs.declared.waits.Want.{Want}
use Rattle.twhere.specs.declared.waits.Want.TheVariants.{Output, Input, Alternative}
use Rattle.twhere.specs.declared.waits.Wait.{Wait}
use Rattle.twhere.specs.declared.waits.Lack.{Lack}
use Rattle.twhere.specs.declared.waits.Lack.TheVariants.{Frozen, Halted, Room, Partner}

-- ---- for which links

-- a wait at a link
abbrev pub wait_at : Want → ℕ → Wait
wait_at want l = record { want = want; link = l }

-- the process that enabled a link is this one
abbrev pub is_enabled_by : ℕ → Option ℕ → Bool
is_enabled_by process (Some other) = other == process
is_enabled_by process None = false

-- a link that the alternative of a process has enabled
abbrev pub guard_at : Control → ℕ → ℕ → List Wait
guard_at m process l = if is_enabled_by process (link_end m l).remembered then wait_at Alternative l ∷ [] else []

-- the links that a process waits for, by what it waits for: that of its message, or those that its alternative has
-- enabled; on internal channels none
abbrev pub process_waits : Control → ℕ → Reason → List Wait
process_waits m process (Receives channel buffer length) = []
process_waits m process (Sends channel buffer length) = []
process_waits m process (LinkInput l) = wait_at Input l ∷ []
process_waits m process (LinkOutput l) = wait_at Output l ∷ []
process_waits m process Chooses = flat_map (λ l. guard_at m process l) four_links

-- those of a process that waits
abbrev pub waiter_waits : Control → Waiter → List Wait
waiter_waits m w = process_waits m w.process w.reason

-- a source waits for as long as it has a message to send
abbrev pub source_waits : NodeState → List Wait
source_waits n = if is_some (output_at n 0) then wait_at Output 0 ∷ [] else []

-- a sink waits while it has a part of a message
abbrev pub sink_waits : NodeState → List Wait
sink_waits n = if (counts_at n 0).got == 0 then [] else wait_at Input 0 ∷ []

-- ---- and what is lacking there

-- the other half of a message is pending at the far end: the input of an output, the output of an input
abbrev pub is_met : Want → NodeState → ℕ → Bool
is_met Output far l = is_some (input_at far l)
is_met Input far l = is_some (output_at far l)
is_met Alternative far l = is_some (output_at far l)

-- what is lacking at the far end: its node is frozen; or both halves are pending, so that in a quiet net a sink is
-- full; or its node has halted; or the other half is not there
abbrev pub lack_there : Want → End → NodeState → Lack
lack_there want e far =
    if is_some far.broken then Frozen e.node
    else if is_met want far e.link then Room
    else if far.machine.control.halted then Halted e.node
    else Partner

-- the same, by the far node, if it is there
abbrev pub lack_at : Want → End → Option NodeState → Lack
lack_at want e (Some far) = lack_there want e far
lack_at want e None = Partner

-- what a node of this number lacks at a link that is wired to an end; its own break comes first
abbrev pub lack : NetState → ℕ → NodeState → Want → End → Lack
lack net k n want e = if is_some n.broken then Frozen k else lack_at want e (node_at net e.node)

-- ---- and for which nodes

-- the links that a node waits for: those of its processes, of the source or of the sink
abbrev pub role_waits : Role → NodeState → List Waiter → List Wait
role_waits Processor n waiting = flat_map (waiter_waits n.machine.control) waiting
role_waits (Source over rest) n waiting = source_waits n
role_waits (Sink kept) n waiting = sink_waits n

-- an end is at the node of this number
abbrev pub is_at : ℕ → Option End → Bool
is_at b (Some e) = e.node == b
is_at b None = false

-- one of the waits of a node is at a link whose far end is at another node
abbrev pub leads_to : List Wire → (a b : ℕ) → List Wait → Bool
leads_to wires a b waits = list_any (λ w. is_at b (far_ends wires a w.link)) waits

-- a node of this number waits for another, if it is there
abbrev pub node_waits_for : List Wire → (a b : ℕ) → Option NodeState → Bool
node_waits_for wires a b (Some n) = leads_to wires a b (role_waits n.role n n.machine.control.waiting)
node_waits_for wires a b None = false

-- a node of a net waits for another
abbrev pub waits_for : NetState → ℕ → ℕ → Bool
waits_for net a b = node_waits_for net.wires a b (node_at net a)
