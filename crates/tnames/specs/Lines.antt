-- Which names the lines of a file stand for.
-- Source: own choice, a format of this program; `nm` and the maps of linkers have address and name in this order.
use Rattle.std.specs.Prelude.{ℕ, suc, ◌≡◌, [], ◌∷◌, Bool, ◌&&◌, ◌==◌, nat_le, nat_lt, List, length, take, drop}
use Rattle.std.specs.Prelude.{slice_index, Option, Some, None}
use Rattle.std.specs.Prelude.{option_map, Result, Ok, Err, if◌then◌else◌}
use Rattle.std.specs.List.{list_all}
use Rattle.std.specs.Int.{w32, from_be_bytes}
use Rattle.hex.specs.Hex.{decode_sized}
use Rattle.hex.specs.declared.error.FromHexError.{FromHexError}
use Rattle.tfiles.specs.Logs.{split}
use Rattle.tnames.specs.declared.names.Name.{Name}
use Rattle.tnames.specs.declared.names.Names.{Names}
use Rattle.tnames.specs.declared.reading.NamesFault.{NamesFault}
use Rattle.tnames.specs.declared.reading.NamesFault.TheVariants.{BadLine, OutOfMemory}

-- a byte may stand in a name: `!` to `~`
abbrev pub is_character : ℕ → Bool
is_character byte = nat_le 33 byte && nat_le byte 126

-- the address of four bytes, the highest first
abbrev pub address_from : Result (List ℕ) FromHexError → Option ℕ
address_from (Ok bytes) = Some (from_be_bytes w32 bytes)
address_from (Err fault) = None

-- the address that eight hexadecimal digits stand for, in either case
abbrev pub address_of : List ℕ → Option ℕ
address_of digits = address_from (decode_sized digits 4)

-- a line has a blank behind its first eight bytes, and behind it one or more characters of a name
abbrev pub has_name : List ℕ → Bool
has_name line = nat_lt 9 (length line) && slice_index line 8 == 32 && list_all is_character (drop 9 line)

-- the name that a line stands for: eight hexadecimal digits, a blank and the name
abbrev pub name_of : List ℕ → Option Name
name_of line =
    if has_name line
    then option_map (λ address. record { address = address; text = drop 9 line }) (address_of (take 8 line))
    else None

-- nothing may stand behind the last end of a line
abbrev pub open_line : ℕ → List ℕ → Result (List Name) ℕ
open_line number [] = Ok []
open_line number (byte ∷ bytes) = Err number

-- the name of one line before those of the rest
abbrev pub onto_names : Option Name → ℕ → Result (List Name) ℕ → Result (List Name) ℕ
onto_names None number rest = Err number
onto_names (Some n) number (Ok names) = Ok (n ∷ names)
onto_names (Some n) number (Err fault) = Err fault

-- the names of lines, numbered from here, with what stands behind the last end of a line
abbrev pub names_from : ℕ → List (List ℕ) → List ℕ → Result (List Name) ℕ
names_from number [] rest = open_line number rest
names_from number (l ∷ ls) rest = onto_names (name_of l) number (names_from (suc number) ls rest)

-- the names of a file, or the number of its first bad line
abbrev pub names_of : List ℕ → Result (List Name) ℕ
names_of bytes = let (ls, rest) = split bytes in names_from 1 ls rest

-- what a reader of names may answer: what the text stands for, or that there was no memory
abbrev pub IsNamesAnswer : Result (List Name) ℕ → Result Names NamesFault → Type 0
IsNamesAnswer told (Ok names) = told ≡ Ok names
IsNamesAnswer told (Err (BadLine number)) = told ≡ Err number
IsNamesAnswer told (Err OutOfMemory) = Unit {0}
