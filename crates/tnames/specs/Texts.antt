-- Texts with names behind the addresses in them.
-- Source: own choice, a format of this program.
use Rattle.std.specs.Prelude.{ℕ, zero, suc, ◌+◌, ◌-◌, Bool, ◌&&◌, ◌||◌, ◌==◌, nat_le, nat_lt, List, [], ◌++◌, flat_map}
use Rattle.std.specs.Prelude.{length, take, drop, slice_index, Option, Some, None, codes, decimal, if◌then◌else◌}
use Rattle.std.specs.List.{list_all, range_with_len}
use Rattle.tword.specs.Limits.{largest_memory}
use Rattle.tword.specs.declared.kind.Kind.TheVariants.{Two}
use Rattle.tfiles.specs.Logs.{line}
use Rattle.tnames.specs.declared.names.Name.{Name}
use Rattle.tnames.specs.Names.{name_at, place_of}
use Rattle.tnames.specs.Lines.{address_of}

-- a hexadecimal digit in lower case
abbrev pub is_lower_digit : ℕ → Bool
is_lower_digit byte = (nat_le 48 byte && nat_le byte 57) || (nat_le 97 byte && nat_le byte 102)

-- an address, where the largest memory has it: #80000000 to #80ffffff
abbrev pub in_memory : Option ℕ → Option ℕ
in_memory (Some address) = if nat_lt (place_of address) (largest_memory Two) then Some address else None
in_memory None = None

-- the address that `#` and hexadecimal digits in lower case stand for, eight of them
abbrev pub printed_address : List ℕ → Option ℕ
printed_address text =
    if slice_index text 0 == 35 && list_all is_lower_digit (drop 1 text) then in_memory (address_of (drop 1 text))
    else None

-- the address in which a text ends
abbrev pub address_at_end : List ℕ → Option ℕ
address_at_end text = printed_address (drop (length text - 9) text)

-- a name, and behind a plus how far above it an address lies, where it does
abbrev pub name_text : List ℕ → ℕ → List ℕ
name_text name zero = name
name_text name (suc n) = name ++ (codes "+" ++ decimal (suc n))

-- a blank and a name, where there is one
abbrev pub found_text : Option (List ℕ × ℕ) → List ℕ
found_text None = []
found_text (Some found) = codes " " ++ name_text found.0 found.1

-- what is put behind an address, where there is one
abbrev pub behind : List Name → Option ℕ → List ℕ
behind names None = []
behind names (Some address) = found_text (name_at names address)

-- a byte of a text, and the name of the address that ends there
abbrev pub named_byte : List Name → List ℕ → ℕ → List ℕ
named_byte names text place =
    take 1 (drop place text) ++ behind names (address_at_end (take (place + 1) text))

-- a text, in which each address is followed by its name
unfoldable pub named_text : List Name → List ℕ → List ℕ
named_text names text = flat_map (named_byte names text) (range_with_len 0 (length text))

-- the line of a label, for an address that does not lie above its name
abbrev pub label_at : List ℕ → ℕ → List ℕ
label_at name zero = line (name ++ codes ":")
label_at name (suc n) = []

-- the line of a label, where there is one
abbrev pub label_text : Option (List ℕ × ℕ) → List ℕ
label_text None = []
label_text (Some found) = label_at found.0 found.1
