-- A disassembly with labels: the name of an address stands on a line of its own before the instruction there.
-- Source: own choice, a format of this program; assemblers write labels so.
use Rattle.std.specs.Prelude.{ℕ, List, [], ◌++◌, flat_map, take, Option, Some, None}
use Rattle.tfiles.specs.Logs.{line, split}
use Rattle.tnames.specs.declared.names.Name.{Name}
use Rattle.tnames.specs.Lines.{address_of}
use Rattle.tnames.specs.Names.{name_at}
use Rattle.tnames.specs.Texts.{label_text}

-- the address at the beginning of a line: eight hexadecimal digits
abbrev pub listed_address : List ℕ → Option ℕ
listed_address l = address_of (take 8 l)

-- the label of an address, where there is one
abbrev pub label_of : List Name → Option ℕ → List ℕ
label_of names (Some address) = label_text (name_at names address)
label_of names None = []

-- a line, behind the label of its address
abbrev pub labelled_line : List Name → List ℕ → List ℕ
labelled_line names l = label_of names (listed_address l) ++ line l

-- lines, and what stands behind the last end of a line
abbrev pub labelled_lines : List Name → List (List ℕ) × List ℕ → List ℕ
labelled_lines names (ls, rest) = flat_map (labelled_line names) ls ++ rest

-- a text, in which each line stands behind the label of its address
abbrev pub labelled_text : List Name → List ℕ → List ℕ
labelled_text names text = labelled_lines names (split text)
