-- What processes wait for.
-- Source: own choice.
use Rattle.std.specs.Prelude.{ℕ, List, ◌==◌, Option, Some, None, is_some, option_map, find, if◌then◌else◌}
use Rattle.tproc.specs.declared.waiter.Reason.{Reason}
use Rattle.tproc.specs.declared.waiter.Reason.TheVariants.{Receives, Sends, LinkInput, LinkOutput, Chooses}
use Rattle.tproc.specs.declared.waiter.Waiter.{Waiter}
use Rattle.tproc.specs.Machine.{Machine}
use Rattle.tlink.specs.Scripts.{processor_of}
use Rattle.tlink.specs.Node.{NodeState}
use Rattle.tchart.specs.declared.waits.Awaited.{Awaited}
use Rattle.tchart.specs.declared.waits.Awaited.TheVariants.{Output, Input, Alternative, Channel}
use Rattle.tchart.specs.declared.waits.Need.{Need}
use Rattle.tchart.specs.declared.waits.Need.TheVariants as need

-- what a process needs that waits for this
abbrev pub need_of : Reason → Need
need_of (Receives channel buffer length) = need.Receives channel
need_of (Sends channel buffer length) = need.Sends channel
need_of (LinkInput l) = need.Input l
need_of (LinkOutput l) = need.Output l
need_of Chooses = need.Alternative

-- a process waits for an output or an input at a link, for an alternative, or on an internal channel
abbrev pub awaited_of : Need → Awaited
awaited_of (need.Receives channel) = Channel
awaited_of (need.Sends channel) = Channel
awaited_of (need.Input l) = Input
awaited_of (need.Output l) = Output
awaited_of need.Alternative = Alternative

-- what a process waits for, if it is among these
abbrev pub reason_in : (process : ℕ) → List Waiter → Option Reason
reason_in process waiting = option_map (λ w. w.reason) (find (λ w. w.process == process) waiting)

-- that of a processor, which has not halted; a script waits for nothing
abbrev pub reason_of : (process : ℕ) → Option Machine → Option Reason
reason_of process (Some m) = if m.control.halted then None else reason_in process m.control.waiting
reason_of process None = None

-- that of a node, if it is there and not frozen
abbrev pub reason_at : (process : ℕ) → Option NodeState → Option Reason
reason_at process (Some n) = if is_some n.broken then None else reason_of process (processor_of n.role n.machine)
reason_at process None = None
