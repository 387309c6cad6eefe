-- Texts that stay on one line, since control characters stand in them as their bytes.
-- Source: own choice, a format of this program.
use Rattle.std.specs.Prelude.{ℕ, List, [], ◌∷◌, ◌++◌, flat_map, if◌then◌else◌}
use Rattle.std.specs.Char.{encode_utf8, is_control}
use Rattle.std.specs.Str.{chars}
use Rattle.hex.specs.Hex.{encode_lower}

-- a byte by its number, as `\x0a`
abbrev pub escaped_byte : ℕ → List ℕ
escaped_byte b = (92 ∷ 120 ∷ []) ++ encode_lower (b ∷ [])

-- a character: a control character (U+0000 to U+001F, U+007F to U+009F) by its bytes in UTF-8, else itself
abbrev pub escaped_letter : ℕ → List ℕ
escaped_letter c = if is_control c then flat_map escaped_byte (encode_utf8 c) else encode_utf8 c

-- a text, character by character
abbrev pub escaped_text : List ℕ → List ℕ
escaped_text text = flat_map escaped_letter (chars text)
