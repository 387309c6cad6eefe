-- The memory of a node of the process machine, as it is printed.
-- Source: own choice, a format of this program.
use Rattle.std.specs.Prelude.{ℕ, zero, suc, ◌+◌, Bool, List, [], ◌∷◌, ◌++◌, flat_map, length, map, take, drop}
use Rattle.std.specs.Prelude.{Option, Some, None, codes, if◌then◌else◌}
use Rattle.std.specs.List.{list_all}
use Rattle.std.specs.Int.{w32, to_be_bytes, div_ceil}
use Rattle.hex.specs.Hex.{encode_lower}
use Rattle.tword.specs.Stores.{Store}
use Rattle.tword.specs.Words.{most_neg}
use Rattle.tfiles.specs.Logs.{line}
use Rattle.tfiles.specs.Texts as dump
use Rattle.tcertify.specs.declared.stored.StoredWord.{StoredWord}
use Rattle.tcertify.specs.Cells.{cells_of}

-- a byte, where it is known
abbrev pub known_text : Option ℕ → List ℕ
known_text None = codes "~~"
known_text (Some b) = encode_lower (b ∷ [])

-- a byte behind a blank
abbrev pub cell_text : Option ℕ → List ℕ
cell_text cell = codes " " ++ known_text cell

-- the bytes of a word are known and zero
abbrev pub is_zero : Store → Bool
is_zero cells = list_all dump.is_zero cells

-- the line of some words from an address on, which is left out where all are zero
abbrev pub line_text : ℕ → List Store → List ℕ
line_text address words =
    if list_all is_zero words then []
    else line (encode_lower (to_be_bytes w32 address) ++ (codes ":" ++ flat_map (flat_map cell_text) words))

-- as many lines of four words, the last may be shorter
abbrev pub lines_text : ℕ → ℕ → List Store → List ℕ
lines_text zero address words = []
lines_text (suc n) address words = line_text address (take 4 words) ++ lines_text n (address + 16) (drop 4 words)

-- the lines of a memory that has these words
abbrev pub memory_text : List Store → List ℕ
memory_text words = lines_text (div_ceil (length words) 4) most_neg words

-- the bytes of words as the program keeps them
abbrev pub words_of : List StoredWord → List Store
words_of words = map (λ w. cells_of w.cells) words
