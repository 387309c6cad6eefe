-- What is printed of a run, whichever way it was done.
-- Source: own choice.
use Rattle.std.specs.Prelude.{Bool, true, false, List, ◌++◌, [], ℕ, map}
use Rattle.tplan.specs.declared.event.Note.{Note}
use Rattle.trounds.specs.declared.replays.Replayed.{Replayed}
use Rattle.tnet.specs.Net.{NetState}
use Rattle.tnet.specs.View.{view}
use Rattle.tfiles.specs.Texts.{dump_text, free_end, replay_end, rounds_end, trace_text}
use Rattle.tjson.specs.Runs.{json_free_end, json_nodes, json_replay_end, json_rounds_end, json_trace}
use Rattle.twhere.specs.Standing.{listed_of, where_text}
use Rattle.twhere.specs.declared.listing.Listed.{Listed}
use Rattle.twords.specs.declared.table.Printing.{Printing}
use Rattle.twords.specs.declared.table.Printing.TheVariants.{Json, Lines}
use Rattle.twords.specs.declared.table.Show.{Show}
use Rattle.twords.specs.declared.table.Show.TheVariants as show
use Rattle.ttext.specs.declared.printed_run.RunEnd.{RunEnd}
use Rattle.ttext.specs.declared.printed_run.RunEnd.TheVariants as end_by

-- the last line
abbrev pub last_line : RunEnd → List ℕ
last_line (end_by.Rounds quiet rounds) = rounds_end quiet rounds
last_line (end_by.Turns quiet) = free_end quiet
last_line (end_by.Replay events) = replay_end events

-- the last line as JSON
abbrev pub json_last : RunEnd → List ℕ
json_last (end_by.Rounds quiet rounds) = json_rounds_end quiet rounds
json_last (end_by.Turns quiet) = json_free_end quiet
json_last (end_by.Replay events) = json_replay_end events

-- what is shown of a net: the dumps of what is seen of it, where it stands, or nothing
abbrev pub shown_net : Show → NetState → List ℕ
shown_net show.Dump net = dump_text (view net)
shown_net show.Where net = where_text net
shown_net show.Nothing net = []

-- what is told of a net as JSON: the nodes, sources and sinks of what is seen of it, or nothing
abbrev pub json_net : (with_nodes : Bool) → NetState → List ℕ
json_net true net = json_nodes (view net)
json_net false net = []

-- what is printed of a run that ended so: its trace, what is shown of the net that is left, and a last line
abbrev pub printed_run : Printing → (told : List Note) → (left : NetState) → RunEnd → List ℕ
printed_run (Lines what) told left by = trace_text told ++ (shown_net what left ++ last_line by)
printed_run (Json with_nodes) told left by = json_trace told ++ (json_net with_nodes left ++ json_last by)

-- the processes of each node that are listed for where a net stands; none for what else is shown
abbrev pub listed_for : Show → NetState → List Listed
listed_for show.Where net = map (λ n. listed_of n.machine.control) net.nodes
listed_for what net = []

-- those that are listed for what is printed of a run
abbrev pub listed_to_print : Printing → NetState → List Listed
listed_to_print (Lines what) net = listed_for what net
listed_to_print (Json with_nodes) net = []

-- what is printed of a replay of this number of events
abbrev pub replayed_text : Printing → ℕ → Replayed → List ℕ
replayed_text printing events r = printed_run printing r.notes r.net (end_by.Replay events)
