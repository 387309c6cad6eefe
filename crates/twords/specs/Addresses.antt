-- Which address a word of a command line stands for.
-- Source: own choice; that addresses are words, from #80000000 on, says the Compiler Writer's Guide (1988).
use Rattle.std.specs.Prelude.{ℕ, Bool, ◌==◌, ◌&&◌, nat_le, [], ◌∷◌, length, Option, Some, None, if◌then◌else◌}
use Rattle.std.specs.List.{list_all}
use Rattle.std.specs.Char.{is_digit}
use Rattle.std.specs.Str.Parse.{digits_value}
use Rattle.clap.specs.Words.{Text}

-- a word without a `#` before it
abbrev pub without_hash : Text → Text
without_hash (byte ∷ bytes) = if byte == 35 then bytes else byte ∷ bytes
without_hash [] = []

-- a byte is a hexadecimal digit, of either case
abbrev pub is_hexadecimal : ℕ → Bool
is_hexadecimal byte = is_digit byte 16

-- 1 to 8 hexadecimal digits
abbrev pub are_digits : Text → Bool
are_digits digits = nat_le 1 (length digits) && (nat_le (length digits) 8 && list_all is_hexadecimal digits)

-- the address that digits stand for, if they do
abbrev pub number_of : Text → Option ℕ
number_of digits = if are_digits digits then Some (digits_value 16 digits) else None

-- the address that a word stands for, if it does, as `80000100` or `#80000100`
abbrev pub address_of : Text → Option ℕ
address_of word = number_of (without_hash word)
