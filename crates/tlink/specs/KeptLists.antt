-- How a node keeps a source or a sink, and that it does what is defined of it.
-- Source: own choice: what a node's surroundings send to it and take from it.
use Rattle.std.specs.Prelude.{◌≡◌, ℕ, List, ◌++◌, length, map, take, replicate, None, Ok, Err}
use Rattle.std.specs.List.{concat, sum}
use Rattle.tlink.specs.declared.event.NodeEvent.{NodeEvent}
use Rattle.tlink.specs.MessageLists.{Source, Sink, ScriptAnswer, unsent, empty, source_does, sink_does}
use Rattle.tlink.specs.Node.{NodeState, fresh_source, fresh_sink}
use Rattle.tlink.specs.Events.{Answer, happens}
use Rattle.tlink.specs.Scripts.{source_state, sink_state}

-- how a node keeps a source: all its messages one behind another, with their lengths
abbrev pub source_node : Source → NodeState
source_node s =
    source_state (concat s.messages) (map length s.messages) s.over (sum (take s.over (map length s.messages)))
    (record { sent = s.sent; acked = s.acked; got = 0; arrived = None })

-- how a node keeps a sink: the messages one behind another, with their lengths, behind them the part, and then zeros
abbrev pub sink_node : Sink → NodeState
sink_node s =
    sink_state (concat s.kept ++ s.part ++ replicate s.room 0) (map length s.kept) (length (concat s.kept))
    (record { sent = 0; acked = 0; got = length s.part; arrived = s.arrived })

-- the answer of the node that keeps a script
abbrev pub kept_as : {S : Type 0} → (S → NodeState) → ScriptAnswer S → Answer
kept_as node (Ok (s, e)) = Ok (node s, e)
kept_as node (Err f) = Err f

-- a node that keeps a source does what is defined of the source, from its first event on
abbrev pub SourcesAreLists : Type 0
SourcesAreLists =
    ((messages : List (List ℕ)) → fresh_source messages ≡ source_node (unsent messages))
    × ((e : NodeEvent) (s : Source) → happens e (source_node s) ≡ kept_as source_node (source_does e s))

-- a node that keeps a sink does what is defined of the sink, from its first event on
abbrev pub SinksAreLists : Type 0
SinksAreLists =
    ((capacity : ℕ) → fresh_sink capacity ≡ sink_node (empty capacity))
    × ((e : NodeEvent) (s : Sink) → happens e (sink_node s) ≡ kept_as sink_node (sink_does e s))
