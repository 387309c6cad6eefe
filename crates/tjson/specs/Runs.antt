-- What is printed of a run as JSON: an object a line for each note, for each node, source and sink, and for its end.
-- Source: own choice, formats of this program.
use Rattle.std.specs.Prelude.{ℕ, zero, suc, ◌+◌, Bool, true, false, List, [], ◌∷◌, ◌++◌, flat_map, length, map, take}
use Rattle.std.specs.Prelude.{drop, Option, Some, None, codes, decimal, if◌then◌else◌}
use Rattle.std.specs.List.{list_all}
use Rattle.std.specs.Int.{w32, to_be_bytes}
use Rattle.hex.specs.Hex.{encode_lower}
use Rattle.tword.specs.declared.breaks.Break.{Break}
use Rattle.tword.specs.Words.{most_neg}
use Rattle.tword.specs.Stores.{Store, shown}
use Rattle.tplan.specs.declared.event.Note.{Note}
use Rattle.tplan.specs.declared.event.Note.TheVariants.{Msg, Halt, Freeze}
use Rattle.tplan.specs.declared.plan.End.{End}
use Rattle.tproc.specs.Machine.{Machine}
use Rattle.tlink.specs.Roles.{Role, Processor, Source, Sink}
use Rattle.tlink.specs.Scripts.{cut}
use Rattle.tnet.specs.Rendezvous.{Node, Configuration}
use Rattle.tfiles.specs.Logs.{line}
use Rattle.tfiles.specs.Texts.{break_name, is_zero}
use Rattle.tjson.specs.Json.{array, member, object, quoted, listed}

-- ---- the trace

-- an end of a wire: its node and its link
abbrev pub end_value : End → List ℕ
end_value e = array (decimal e.node ∷ decimal e.link ∷ [])

-- bytes: their hexadecimal digits
abbrev pub bytes_value : List ℕ → List ℕ
bytes_value bytes = quoted (encode_lower bytes)

-- a message: where it came from, where it went to, and its bytes
abbrev pub message_member : (from to : End) → (bytes : List ℕ) → List ℕ
message_member from to bytes =
    member (codes "msg") (object (member (codes "from") (end_value from) ∷ member (codes "to") (end_value to)
    ∷ member (codes "bytes") (bytes_value bytes) ∷ []))

-- a freeze: the node, and the break that froze it
abbrev pub freeze_member : (node : ℕ) → Break → List ℕ
freeze_member node b =
    member (codes "freeze") (object (member (codes "node") (decimal node)
    ∷ member (codes "break") (quoted (break_name b)) ∷ []))

-- what a note tells, under the name of its form
abbrev pub note_member : Note → List ℕ
note_member (Msg from to bytes) = message_member from to bytes
note_member (Halt n) = member (codes "halt") (decimal n)
note_member (Freeze n b) = freeze_member n b

-- a note
abbrev pub note_object : Note → List ℕ
note_object n = object (note_member n ∷ [])

-- the trace: one line a note
abbrev pub json_trace : List Note → List ℕ
json_trace notes = flat_map (λ n. line (note_object n)) notes

-- ---- nodes

-- a byte: its digits, or what stands for them where it is hidden
abbrev pub cell_digits : Option ℕ → List ℕ
cell_digits None = codes "--"
cell_digits (Some b) = encode_lower (b ∷ [])

-- bytes from an address on
abbrev pub line_object : ℕ → Store → List ℕ
line_object address cells =
    object (member (codes "at") (bytes_value (to_be_bytes w32 address))
    ∷ member (codes "bytes") (quoted (flat_map cell_digits cells)) ∷ [])

-- one line of a memory, which is left out where it has only zeros
abbrev pub line_values : ℕ → Store → List (List ℕ)
line_values address cells = if list_all is_zero cells then [] else line_object address cells ∷ []

-- lines of sixteen bytes, the last may be shorter
abbrev pub lines_values : ℕ → ℕ → Store → List (List ℕ)
lines_values zero address cells = []
lines_values (suc n) address cells =
    line_values address (take 16 cells) ++ lines_values n (address + 16) (drop 16 cells)

-- the lines of a memory
abbrev pub memory_values : Store → List (List ℕ)
memory_values store = lines_values (length store) most_neg store

-- a node that is frozen, and by which break
abbrev pub frozen_members : Break → List ℕ
frozen_members b =
    listed (member (codes "state") (quoted (codes "frozen")) ∷ member (codes "break") (quoted (break_name b)) ∷ [])

-- how a node stands: frozen comes before halted
abbrev pub standing_members : Option Break → Bool → List ℕ
standing_members (Some b) halted = frozen_members b
standing_members None true = member (codes "state") (quoted (codes "halted"))
standing_members None false = member (codes "state") (quoted (codes "ok"))

-- a node with this memory, by its number and how it stands
abbrev pub node_object : ℕ → Option Break → Bool → Store → List ℕ
node_object n broken halted store =
    object (member (codes "node") (decimal n) ∷ standing_members broken halted
    ∷ member (codes "memory") (array (memory_values store)) ∷ [])

-- a source: its number, and how many of its messages are over, of how many
abbrev pub source_object : (n done messages : ℕ) → List ℕ
source_object n done messages =
    object (member (codes "source") (decimal n) ∷ member (codes "done") (decimal done)
    ∷ member (codes "of") (decimal messages) ∷ [])

-- a sink: its number, and the messages that it has kept
abbrev pub sink_object : ℕ → List (List ℕ) → List ℕ
sink_object n kept =
    object (member (codes "sink") (decimal n) ∷ member (codes "kept") (array (map bytes_value kept)) ∷ [])

-- what stands behind the links: a processor, a source or a sink
abbrev pub role_object : Role → ℕ → Option Break → Machine → List ℕ
role_object Processor n broken m = node_object n broken m.control.halted m.store
role_object (Source over rest) n broken m = source_object n (length over) (length over + length rest)
role_object (Sink kept) n broken m = sink_object n (cut kept (shown m.store))

-- the lines of nodes from a number on
abbrev pub nodes_from : ℕ → List Node → List ℕ
nodes_from n [] = []
nodes_from n (s ∷ ss) = line (role_object s.role n s.broken s.machine) ++ nodes_from (suc n) ss

-- the nodes, sources and sinks of what is seen of a net: one line each
abbrev pub json_nodes : Configuration → List ℕ
json_nodes w = nodes_from 0 w.nodes

-- ---- the end

-- the last line of a run by rounds
abbrev pub json_rounds_end : Bool → ℕ → List ℕ
json_rounds_end quiet rounds =
    line (object (member (codes "end") (quoted (if quiet then codes "quiet" else codes "rounds"))
    ∷ member (codes "rounds") (decimal rounds) ∷ []))

-- the last line of free workers
abbrev pub json_free_end : Bool → List ℕ
json_free_end quiet =
    line (object (member (codes "end") (quoted (if quiet then codes "quiet" else codes "turns")) ∷ []))

-- the last line of a replay
abbrev pub json_replay_end : ℕ → List ℕ
json_replay_end events =
    line (object (member (codes "end") (quoted (codes "replay")) ∷ member (codes "events") (decimal events) ∷ []))
