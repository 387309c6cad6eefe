-- What `where` answers and writes: the events of a log are done as a replay does them, and where the net stands then is
-- printed, and which events halted its nodes.
-- Source: own choice.
use Rattle.std.specs.Prelude.{ℕ, ℤ, ◌≡◌, refl, List, [], ◌++◌, Result, Ok, Err}
use Rattle.tlink.specs.Node.{NodeState}
use Rattle.tplan.specs.declared.event.Event.{Event}
use Rattle.tplan.specs.declared.wiring.Wiring.{Wiring}
use Rattle.tnames.specs.declared.nodes.NodeNames.{NodeNames}
use Rattle.tnames.specs.Nodes.{text_of_node}
use Rattle.tnet.specs.Net.{NetState}
use Rattle.trounds.specs.declared.replays.Replayed.{Replayed}
use Rattle.trounds.specs.Replays.{replayed}
use Rattle.tfiles.specs.Logs.{log_of}
use Rattle.tfiles.specs.Texts.{replay_end}
use Rattle.twhere.specs.Standing.{node_where, stuck_text, texts_from, where_text}
use Rattle.thistory.specs.Halts.{halts_text}
use Rattle.topening.specs.declared.fault.Fault.{Fault}
use Rattle.tstanding.specs.declared.reaching.Reached.{Reached}
use Rattle.topening.specs.LogEvents.{as_log, as_replayed, event_count, first_events}
use Rattle.topening.specs.Openings.{opened_of}

-- ---- what the events of a log lead to

-- the lines of the events that halted nodes, with the names of these nodes' addresses
abbrev pub named_halts : List NodeNames → List Event → NetState → List ℕ
named_halts names events net = halts_text (text_of_node names) events net

-- the net that a replay leaves, with these lines of the events that halted its nodes; or its fault
abbrev pub reached_as : List ℕ → Result Replayed Fault → Result Reached Fault
reached_as halted (Ok r) = Ok (record { net = r.net; halts = halted })
reached_as halted (Err f) = Err f

-- the net that all events of a log leave, with the lines of those that halted its nodes; or the first event that is not
-- enabled
abbrev pub reached : List NodeNames → List Event → NetState → Result Reached Fault
reached names events net = reached_as (named_halts names events net) (as_replayed (replayed events net))

-- likewise from the net of a wiring, if there is one, else its fault
abbrev pub reached_with : List NodeNames → List Event → Result NetState Fault → Result Reached Fault
reached_with names events (Ok net) = reached names events net
reached_with names events (Err f) = Err f

-- what the events of a log lead to on the net of a wiring and its images, or the first fault
abbrev pub reached_of : List NodeNames → Wiring → List (List ℕ) → List Event → Result Reached Fault
reached_of names w files events = reached_with names events (opened_of w files)

-- likewise where the log is one
abbrev pub reached_log : List NodeNames → Wiring → List (List ℕ) → Result (List Event) Fault → Result Reached Fault
reached_log names w files (Ok events) = reached_of names w files events
reached_log names w files (Err f) = Err f

-- what the first events of the bytes of a log lead to, or the first fault; a bad line behind these events is a fault
-- too
abbrev pub log_reached_of : List NodeNames → Wiring → List (List ℕ) → ℤ → List ℕ → Result Reached Fault
log_reached_of names w files most log = reached_log names w files (as_log (first_events most (log_of log)))

-- ---- what is printed

-- where a node stands, with the names of its addresses
abbrev pub named_node : List NodeNames → NetState → ℕ → NodeState → List ℕ
named_node names net k n = text_of_node names k (node_where net k n)

-- where all nodes stand
abbrev pub named_nodes : List NodeNames → NetState → List ℕ
named_nodes names net = texts_from (named_node names net) 0 net.nodes

-- without names all nodes stand as they do in the text of a net
without_names : (net : NetState) → named_nodes [] net ++ stuck_text net ≡ where_text net
without_names net = refl

-- where a net stands: its nodes with names, behind them what is lacking, and which events halted its nodes
abbrev pub named_standing : List NodeNames → Reached → List ℕ
named_standing names r = named_nodes names r.net ++ (stuck_text r.net ++ r.halts)

-- what is printed of where this number of events leads: where the net stands, and then the last line of a replay
abbrev pub standing_text : List NodeNames → ℕ → Reached → List ℕ
standing_text names events r = named_standing names r ++ replay_end events

-- what is printed of where the first events of the bytes of a log lead
abbrev pub log_where_text : List NodeNames → ℤ → List ℕ → Reached → List ℕ
log_where_text names most log r = standing_text names (event_count (first_events most (log_of log))) r
