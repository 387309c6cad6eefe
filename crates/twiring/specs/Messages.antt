-- The bytes of a message of a wiring, which are written in hexadecimal.
-- Source: own choice; RFC 4648, section 8, for pairs of digits.
use Rattle.std.specs.Prelude.{ℕ, ◌+◌, ◌*◌, List, [], ◌∷◌, Option, Some, None, if◌then◌else◌}
use Rattle.hex.specs.Hex.{hex_digit_value}
use Rattle.tword.specs.Limits.{is_bad_message}

-- the byte of two digits, the first of which counts sixteens
abbrev pub byte_of : Option ℕ → Option ℕ → Option ℕ
byte_of (Some high) (Some low) = Some (high * 16 + low)
byte_of _ _ = None

-- a byte and those behind it
abbrev pub before : Option ℕ → Option (List ℕ) → Option (List ℕ)
before (Some byte) (Some bytes) = Some (byte ∷ bytes)
before _ _ = None

-- the bytes of pairs of hexadecimal digits, of either case
abbrev pub bytes_of : List ℕ → Option (List ℕ)
bytes_of [] = Some []
bytes_of (digit ∷ []) = None
bytes_of (high ∷ low ∷ rest) = before (byte_of (hex_digit_value high) (hex_digit_value low)) (bytes_of rest)

-- bytes that a message may have: 1 to 4,096
abbrev pub of_a_message : Option (List ℕ) → Option (List ℕ)
of_a_message (Some bytes) = if is_bad_message bytes then None else Some bytes
of_a_message None = None

-- the bytes of a message
abbrev pub message_of : List ℕ → Option (List ℕ)
message_of text = of_a_message (bytes_of text)
