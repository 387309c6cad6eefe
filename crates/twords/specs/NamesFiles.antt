-- Which file of names a word of a command line stands for, and whose names these are.
-- Source: own choice.
use Rattle.std.specs.Prelude.{ℕ, Bool, ◌==◌, ◌&&◌, nat_le, nat_lt, length, Option, Some, None, if◌then◌else◌}
use Rattle.std.specs.List.{after_first, before_first, list_all, position_or_len}
use Rattle.std.specs.Str.Parse.{digits_value}
use Rattle.clap.specs.Words.{Text}
use Rattle.twords.specs.declared.names_files.NamesFile.{NamesFile}

-- a byte is a decimal digit
abbrev pub is_decimal : ℕ → Bool
is_decimal byte = nat_le 48 byte && nat_le byte 57

-- 1 to 3 decimal digits that write a number of at most 255
abbrev pub is_number : Text → Bool
is_number text =
    nat_le 1 (length text) && (nat_le (length text) 3
    && (list_all is_decimal text && nat_le (digits_value 10 text) 255))

-- the number of a node that a text stands for, if it does
abbrev pub node_of : Text → Option ℕ
node_of text = if is_number text then Some (digits_value 10 text) else None

-- a byte is `=`
abbrev pub is_sign : ℕ → Bool
is_sign byte = byte == 61

-- the names of a node, in the file whose name stands behind the sign; or those of each node, in the file of the whole
-- word
abbrev pub file_with : Option ℕ → (behind word : Text) → NamesFile
file_with (Some n) behind word = record { node = Some n; file = behind }
file_with None behind word = record { node = None; file = word }

-- the number that stands before the first sign of a word, if one does
abbrev pub node_in : Text → Option ℕ
node_in word =
    if nat_lt (position_or_len is_sign word) (length word) then node_of (before_first is_sign word) else None

-- the file that a word stands for: `N=FILE`, of the node N, or else `FILE`, of each node
abbrev pub names_file_of : Text → NamesFile
names_file_of word = file_with (node_in word) (after_first is_sign word) word
