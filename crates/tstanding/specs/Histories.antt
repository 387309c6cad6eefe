-- What `steps` and `watch` answer and write: the history of a node, or of some of its bytes, as the events of a log are
-- done.
-- Source: own choice.
use Rattle.std.specs.Prelude.{ℕ, ℤ, Bool, false, not, List, [], ◌++◌, length, map, find, Option, Some, None, option_map}
use Rattle.std.specs.Prelude.{Result, Ok, Err}
use Rattle.std.specs.List.{range_with_len}
use Rattle.tword.specs.Words.{plus}
use Rattle.tword.specs.Touches.{byte_span, is_inside}
use Rattle.tproc.specs.Machine.{Machine}
use Rattle.tlink.specs.Node.{NodeState}
use Rattle.tlink.specs.Scripts.{processor_of}
use Rattle.tplan.specs.declared.event.Event.{Event}
use Rattle.tplan.specs.declared.wiring.Wiring.{Wiring}
use Rattle.tnames.specs.declared.nodes.NodeNames.{NodeNames}
use Rattle.tnames.specs.Nodes.{text_of_node}
use Rattle.tnet.specs.Net.{NetState, node_at}
use Rattle.trounds.specs.declared.replays.Replayed.{Replayed}
use Rattle.trounds.specs.Replays.{replayed}
use Rattle.tfiles.specs.Logs.{log_of}
use Rattle.tfiles.specs.Texts.{replay_end}
use Rattle.thistory.specs.declared.watch.Place.{Place}
use Rattle.thistory.specs.Steps.{net_after, steps_text}
use Rattle.thistory.specs.Watch.{watch_text}
use Rattle.topening.specs.declared.fault.Fault.{Fault}
use Rattle.topening.specs.declared.fault.Fault.TheVariants as fault
use Rattle.tstanding.specs.declared.histories.History.{History}
use Rattle.tstanding.specs.declared.histories.History.TheVariants as history
use Rattle.topening.specs.LogEvents.{as_log, as_replayed, first_events}
use Rattle.topening.specs.Openings.{opened_of}

-- ---- what a history is of

-- a processor has a byte at an address; a source or a sink has no memory
abbrev pub has_byte : Option Machine → ℕ → Bool
has_byte (Some m) a = is_inside (length m.store) (byte_span a)
has_byte None a = false

-- the addresses of a place
abbrev pub addresses : Place → List ℕ
addresses p = map (plus p.address) (range_with_len 0 p.length)

-- the first address of a place at which there is no byte
abbrev pub first_outside : Option Machine → Place → Option ℕ
first_outside m p = find (λ a. not (has_byte m a)) (addresses p)

-- a node is not there
abbrev pub lacking_node : ℕ → Option NodeState → Option Fault
lacking_node n (Some x) = None
lacking_node n None = Some (fault.NoNode n)

-- a place is not there: its node, or else one of its bytes
abbrev pub lacking_place : Place → Option NodeState → Option Fault
lacking_place p (Some n) = option_map fault.NoMemory (first_outside (processor_of n.role n.machine) p)
lacking_place p None = Some (fault.NoNode p.node)

-- the fault of a net that does not have what a history is of
abbrev pub lack_of : History → NetState → Option Fault
lack_of (history.Node asked) net = lacking_node asked.node (node_at net asked.node)
lack_of (history.Bytes p) net = lacking_place p (node_at net p.node)

-- ---- the net whose history is told

-- a net, unless it lacks something
abbrev pub unless_lacking : NetState → Option Fault → Result NetState Fault
unless_lacking net None = Ok net
unless_lacking net (Some f) = Err f

-- a net that has what the history is of, if there is one; else the fault
abbrev pub having : History → Result NetState Fault → Result NetState Fault
having h (Ok net) = unless_lacking net (lack_of h net)
having h (Err f) = Err f

-- a net before its events, where they lead on
abbrev pub before_events : NetState → Result Replayed Fault → Result NetState Fault
before_events net (Ok r) = Ok net
before_events net (Err f) = Err f

-- a net whose events are enabled, each behind those before it; else the fault of the first that is not
abbrev pub enabled : List Event → NetState → Result NetState Fault
enabled events net = before_events net (as_replayed (replayed events net))

-- likewise, if there is a net
abbrev pub enabled_on : List Event → Result NetState Fault → Result NetState Fault
enabled_on events (Ok net) = enabled events net
enabled_on events (Err f) = Err f

-- the net of a wiring and its images before its first event, whose history is told: it has what the history is of, and
-- the events are enabled; else the first fault
abbrev pub history_of : History → Wiring → List (List ℕ) → List Event → Result NetState Fault
history_of h w files events = enabled_on events (having h (opened_of w files))

-- ---- what is printed

-- the history of a net as the events are done
abbrev pub told_text : History → List Event → NetState → List ℕ
told_text (history.Node asked) events net = steps_text asked events net
told_text (history.Bytes p) events net = watch_text p events net

-- the number of the node whose history it is
abbrev pub node_of : History → ℕ
node_of (history.Node asked) = asked.node
node_of (history.Bytes p) = p.node

-- the history with the names of the node's addresses, and the last line of a replay
abbrev pub history_text : List NodeNames → History → List Event → NetState → List ℕ
history_text names h events net = text_of_node names (node_of h) (told_text h events net) ++ replay_end (length events)

-- how many bytes are looked at
abbrev pub cell_count : History → ℕ
cell_count (history.Node asked) = 0
cell_count (history.Bytes p) = p.length

-- ---- of a log

-- the events of a log that are done; none where it is no log
abbrev pub events_in : Result (List Event) ℕ → List Event
events_in (Ok events) = events
events_in (Err n) = []

-- the net whose history is told, where the log is one
abbrev pub history_log : History → Wiring → List (List ℕ) → Result (List Event) Fault → Result NetState Fault
history_log h w files (Ok events) = history_of h w files events
history_log h w files (Err f) = Err f

-- that of the first events of the bytes of a log, or the first fault; a bad line behind these events is a fault too
abbrev pub log_history_of : History → Wiring → List (List ℕ) → ℤ → List ℕ → Result NetState Fault
log_history_of h w files most log = history_log h w files (as_log (first_events most (log_of log)))

-- what is printed of these events
abbrev pub log_history_text : List NodeNames → History → ℤ → List ℕ → NetState → List ℕ
log_history_text names h most log net = history_text names h (events_in (first_events most (log_of log))) net

-- the net behind these events
abbrev pub log_net_after : ℤ → List ℕ → NetState → NetState
log_net_after most log net = net_after (events_in (first_events most (log_of log))) net
