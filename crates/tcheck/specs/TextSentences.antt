-- What is told of a text that is no wiring: a line for each flaw, the number of its line in the text first, then the
-- table.
-- Source: own choice, a format of this program.
use Rattle.std.specs.Prelude.{ℕ, List, [], ◌++◌, Option, Some, None, codes, get_or}
use Rattle.tplan.specs.declared.wiring.WiringFault.{WiringFault}
use Rattle.tplan.specs.declared.wiring.WiringFault.TheVariants as fault
use Rattle.twiring.specs.declared.flaws.Part.{Part}
use Rattle.twiring.specs.declared.flaws.Part.TheVariants as part
use Rattle.twiring.specs.declared.flaws.Key.{Key}
use Rattle.twiring.specs.declared.flaws.Key.TheVariants as key
use Rattle.twiring.specs.declared.flaws.TextFlaw.{TextFlaw}
use Rattle.twiring.specs.declared.flaws.TextFlaw.TheVariants as flaw
use Rattle.tfiles.specs.Logs.{line}
use Rattle.tnames.specs.Escapes.{escaped_text}
use Rattle.tcheck.specs.Sentences.{numbered}
use Rattle.tcheck.specs.Summaries.{texts_from}

-- a table
abbrev pub part_text : Part → List ℕ
part_text part.Whole = codes "wiring"
part_text (part.Node n) = numbered (codes "node ") n
part_text (part.Wire n) = numbered (codes "wire ") n
part_text (part.Source n) = numbered (codes "source ") n
part_text (part.Sink n) = numbered (codes "sink ") n
part_text (part.Hold n) = numbered (codes "hold ") n

-- the name of a key
abbrev pub key_text : Key → List ℕ
key_text key.Version = codes "version"
key_text key.Timeslice = codes "timeslice"
key_text key.Nodes = codes "node"
key_text key.Wires = codes "wire"
key_text key.Sources = codes "source"
key_text key.Sinks = codes "sink"
key_text key.Holds = codes "hold"
key_text key.Memory = codes "memory"
key_text key.Kind = codes "kind"
key_text key.Image = codes "image"
key_text key.A = codes "a"
key_text key.B = codes "b"
key_text key.End = codes "end"
key_text key.Messages = codes "messages"
key_text key.Capacity = codes "capacity"
key_text key.From = codes "from"
key_text key.Until = codes "until"

-- the keys that a table may have
abbrev pub keys_text : Part → List ℕ
keys_text part.Whole =
    codes "; there may be version, timeslice, node, wire and hold, under version 2 source and sink"
keys_text (part.Node n) = codes "; a node has memory and image, under version 2 it may have kind"
keys_text (part.Wire n) = codes "; a wire has a and b"
keys_text (part.Source n) = codes "; a source has end and messages"
keys_text (part.Sink n) = codes "; a sink has end and capacity"
keys_text (part.Hold n) = codes "; a hold has end, kind, from and until"

-- what the kind at a table has to be
abbrev pub kind_text : Part → List ℕ
kind_text (part.Hold n) = codes " has to be the text data or the text ack"
kind_text p = codes " has to be a number, 1 or 2"

-- what stands at a key has to be
abbrev pub form_text : Part → Key → List ℕ
form_text p key.Version = codes " has to be a number, 1 or 2"
form_text p key.Timeslice = codes " has to be a number"
form_text p key.Nodes = codes " has to be a list of tables"
form_text p key.Wires = codes " has to be a list of tables"
form_text p key.Sources = codes " has to be a list of tables"
form_text p key.Sinks = codes " has to be a list of tables"
form_text p key.Holds = codes " has to be a list of tables"
form_text p key.Memory = codes " has to be a number"
form_text p key.Kind = kind_text p
form_text p key.Image = codes " has to be a text"
form_text p key.A = codes " has to be a list of two numbers, a node and a link"
form_text p key.B = codes " has to be a list of two numbers, a node and a link"
form_text p key.End = codes " has to be a list of two numbers, a node and a link"
form_text p key.Messages = codes " has to be a list of texts"
form_text p key.Capacity = codes " has to be a number"
form_text p key.From = codes " has to be a number"
form_text p key.Until = codes " has to be a number"

-- what is wrong with what stands at a key
abbrev pub fault_text : Part → Key → WiringFault → List ℕ
fault_text p k fault.WrongType = form_text p k
fault_text p k fault.BadVersion = codes " has to be 1 or 2"
fault_text p k fault.BadNumber = codes " has a number that is not 0 to 4294967295"
fault_text p k fault.BadMessage = codes " has a text that is not 1 to 4096 bytes in pairs of hexadecimal digits"
fault_text p k fault.BadKind = codes " has to be 1 or 2"
fault_text p k fault.MissingKey = codes " is missing"
fault_text p k f = codes " is wrong"

-- a key that a table has not
abbrev pub unknown_text : Part → List ℕ → List ℕ
unknown_text p k = part_text p ++ (codes ": the key " ++ (escaped_text k ++ codes " is unknown"))

-- a key that may be meant
abbrev pub near_text : List ℕ → List ℕ
near_text near = codes "; did you mean " ++ (near ++ codes "?")

-- the key that may be meant by an unknown one, or else those that the table may have
abbrev pub meant_text : Part → Option (List ℕ) → List ℕ
meant_text p None = keys_text p
meant_text p (Some near) = near_text near

-- a key at which a fault stands
abbrev pub bad_key_text : Part → Key → WiringFault → List ℕ
bad_key_text p k f = part_text p ++ (codes ": " ++ (key_text k ++ fault_text p k f))

-- an entry that is no table
abbrev pub no_table_text : Part → List ℕ
no_table_text p = part_text p ++ codes ": it has to be a table"

-- a flaw, without advice
abbrev pub flaw_text : TextFlaw → List ℕ
flaw_text flaw.NoToml = codes "wiring: the text is not TOML"
flaw_text (flaw.UnknownKey p k near) = unknown_text p k
flaw_text (flaw.BadKey p k f) = bad_key_text p k f
flaw_text (flaw.NoTable p) = no_table_text p

-- what may help behind a flaw; only an unknown key has such a help
abbrev pub advice_text : TextFlaw → List ℕ
advice_text (flaw.UnknownKey p k near) = meant_text p near
advice_text f = []

-- the number of a line, if it is known
abbrev pub line_text : Option ℕ → List ℕ
line_text None = []
line_text (Some n) = numbered (codes "line ") n ++ codes ", "

-- a flaw behind its line, with advice
abbrev pub told_text : Option ℕ → TextFlaw → List ℕ
told_text l f = line_text l ++ (flaw_text f ++ advice_text f)

-- all flaws, each behind the line of its number, if there is one
abbrev pub flaws_text : List (Option ℕ) → List TextFlaw → List ℕ
flaws_text ls fs = texts_from (λ k f. line (told_text (get_or ls k None) f)) 0 fs
