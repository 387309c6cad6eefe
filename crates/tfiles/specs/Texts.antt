-- What is printed of a run: the trace, the dump and the last line.
-- Source: own choice, formats of this program.
use Rattle.std.specs.Prelude.{ℕ, zero, suc, ◌+◌, Bool, true, false, ◌==◌, List, [], ◌∷◌, ◌++◌, flat_map, length, take}
use Rattle.std.specs.Prelude.{drop, Option, Some, None, codes, decimal, if◌then◌else◌}
use Rattle.std.specs.List.{list_all, list_any}
use Rattle.std.specs.Int.{w32, to_be_bytes}
use Rattle.hex.specs.Hex.{encode_lower}
use Rattle.tword.specs.declared.breaks.Break.{Break}
use Rattle.tword.specs.declared.breaks.Break.TheVariants.{BadAddress, Reserved, Unaligned, NoSuchOperation, LongPrefix}
use Rattle.tword.specs.declared.breaks.Break.TheVariants.{InTransit, SavedWord, LengthMismatch, LinkBusy, WrongEnd}
use Rattle.tword.specs.declared.breaks.Break.TheVariants.{ChannelMisuse, ZeroLength, AlreadyLive, TooManyProcesses}
use Rattle.tword.specs.Words.{most_neg}
use Rattle.tword.specs.Stores.{Store, shown}
use Rattle.tword.specs.declared.span.Span.{Span}
use Rattle.tword.specs.Claims.{overlaps_claim}
use Rattle.tword.specs.Touches.{byte_span}
use Rattle.tplan.specs.declared.event.Note.{Note}
use Rattle.tplan.specs.declared.event.Note.TheVariants.{Msg, Halt, Freeze}
use Rattle.tplan.specs.declared.plan.End.{End}
use Rattle.tproc.specs.Machine.{Machine}
use Rattle.tlink.specs.Roles.{Role, Processor, Source, Sink}
use Rattle.tlink.specs.Scripts.{cut}
use Rattle.tnet.specs.Rendezvous.{Node, Configuration}
use Rattle.tfiles.specs.Logs.{line}

-- the name of a break, as it is printed
abbrev pub break_name : Break → List ℕ
break_name BadAddress = codes "BadAddress"
break_name Reserved = codes "Reserved"
break_name Unaligned = codes "Unaligned"
break_name NoSuchOperation = codes "NoSuchOperation"
break_name LongPrefix = codes "LongPrefix"
break_name InTransit = codes "InTransit"
break_name SavedWord = codes "SavedWord"
break_name LengthMismatch = codes "LengthMismatch"
break_name LinkBusy = codes "LinkBusy"
break_name WrongEnd = codes "WrongEnd"
break_name ChannelMisuse = codes "ChannelMisuse"
break_name ZeroLength = codes "ZeroLength"
break_name AlreadyLive = codes "AlreadyLive"
break_name TooManyProcesses = codes "TooManyProcesses"

-- words with a blank between each two
abbrev pub words : List (List ℕ) → List ℕ
words [] = []
words (w ∷ []) = w
words (w ∷ v ∷ ws) = w ++ (32 ∷ words (v ∷ ws))

-- an end, as node and link
abbrev pub end_text : End → List ℕ
end_text e = decimal e.node ++ (codes "." ++ decimal e.link)

-- what a note is printed as
abbrev pub note_text : Note → List ℕ
note_text (Msg from to bytes) =
    words (codes "msg" ∷ end_text from ∷ end_text to ∷ decimal (length bytes) ∷ encode_lower bytes ∷ [])
note_text (Halt n) = words (codes "halt" ∷ decimal n ∷ [])
note_text (Freeze n b) = words (codes "freeze" ∷ decimal n ∷ break_name b ∷ [])

-- the trace: one line a note
abbrev pub trace_text : List Note → List ℕ
trace_text notes = flat_map (λ n. line (note_text n)) notes

-- a cell of a dump
abbrev pub cell_text : Option ℕ → List ℕ
cell_text None = codes " --"
cell_text (Some b) = codes " " ++ encode_lower (b ∷ [])

-- a cell is zero and not hidden
abbrev pub is_zero : Option ℕ → Bool
is_zero None = false
is_zero (Some b) = b == 0

-- one line of a dump, which is left out where it has only zeros
abbrev pub dump_line : ℕ → Store → List ℕ
dump_line address cells =
    if list_all is_zero cells then []
    else line (encode_lower (to_be_bytes w32 address) ++ (codes ":" ++ flat_map cell_text cells))

-- a pending link input is to write the byte at an address
abbrev pub is_pending : List (Option Span) → ℕ → Bool
is_pending pending address = list_any (overlaps_claim (byte_span address)) pending

-- lines of sixteen bytes, the last may be shorter
abbrev pub dump_lines : ℕ → ℕ → Store → List ℕ
dump_lines zero address cells = []
dump_lines (suc n) address cells = dump_line address (take 16 cells) ++ dump_lines n (address + 16) (drop 16 cells)

-- the lines of a store
abbrev pub lines_of : Store → List ℕ
lines_of store = dump_lines (length store) most_neg store

-- how a node stands: frozen comes before halted
abbrev pub node_text : Option Break → Bool → List ℕ
node_text (Some b) halted = codes "frozen " ++ break_name b
node_text None true = codes "halted"
node_text None false = codes "ok"

-- the first line of the dump of a node
abbrev pub node_line : ℕ → Option Break → Bool → List ℕ
node_line n broken halted = line (words (codes "node" ∷ decimal n ∷ node_text broken halted ∷ []))

-- the dump of a node with this store, by its number and how it stands
abbrev pub dump_of : ℕ → Option Break → Bool → Store → List ℕ
dump_of n broken halted store = node_line n broken halted ++ lines_of store

-- the line of a source: its number, and how many of its messages are over, of how many
abbrev pub source_line : (n done messages : ℕ) → List ℕ
source_line n done messages =
    line (words (codes "source" ∷ decimal n ∷ codes "done" ∷ decimal done ∷ codes "of" ∷ decimal messages ∷ []))

-- the first line of a sink: its number, and how many messages it has kept
abbrev pub sink_line : (n messages : ℕ) → List ℕ
sink_line n messages = line (words (codes "sink" ∷ decimal n ∷ codes "messages" ∷ decimal messages ∷ []))

-- the line of a message that a sink has kept
abbrev pub kept_line : List ℕ → List ℕ
kept_line message = line (words (codes "kept" ∷ encode_lower message ∷ []))

-- the dump of a sink that has kept these messages
abbrev pub sink_dump : ℕ → List (List ℕ) → List ℕ
sink_dump n kept = sink_line n (length kept) ++ flat_map kept_line kept

-- the dump of what stands behind the links: a processor, a source or a sink
abbrev pub role_dump : Role → ℕ → Option Break → Machine → List ℕ
role_dump Processor n broken m = dump_of n broken m.control.halted m.store
role_dump (Source over rest) n broken m = source_line n (length over) (length over + length rest)
role_dump (Sink kept) n broken m = sink_dump n (cut kept (shown m.store))

-- the dump of a node
abbrev pub node_dump : ℕ → Node → List ℕ
node_dump n s = role_dump s.role n s.broken s.machine

-- the dumps of nodes from a number on
abbrev pub dump_from : ℕ → List Node → List ℕ
dump_from n [] = []
dump_from n (s ∷ ss) = node_dump n s ++ dump_from (suc n) ss

-- the dump of what is seen of a net
abbrev pub dump_text : Configuration → List ℕ
dump_text w = dump_from 0 w.nodes

-- the last line of what is printed of a run by rounds
abbrev pub rounds_end : Bool → ℕ → List ℕ
rounds_end quiet rounds =
    line (words (codes "end" ∷ (if quiet then codes "quiet" else codes "rounds") ∷ decimal rounds ∷ []))

-- the last line of what is printed of free workers
abbrev pub free_end : Bool → List ℕ
free_end quiet = line (words (codes "end" ∷ (if quiet then codes "quiet" else codes "turns") ∷ []))

-- the last line of what is printed of a replay
abbrev pub replay_end : ℕ → List ℕ
replay_end events = line (words (codes "end" ∷ codes "replay" ∷ decimal events ∷ []))

-- all that is printed of a run: its trace, the dumps and a last line
abbrev pub run_text : List Note → Configuration → List ℕ → List ℕ
run_text notes w last = trace_text notes ++ (dump_text w ++ last)
