-- The number of the line at which a flaw of a text shows that is no wiring.
-- Source: own choice, a rule of this program.
use Rattle.std.specs.Prelude.{ℕ, suc, ◌+◌, max, Bool, true, false, not, nat_lt, List, [], ◌∷◌, length, take, map}
use Rattle.std.specs.Prelude.{Option, Some, None, bytes_eq, flat_map, if◌then◌else◌}
use Rattle.std.specs.List.{list_any, range_with_len}
use Rattle.std.specs.Str.Lines.{lines}
use Rattle.twiring.specs.declared.flaws.TextFlaw.{TextFlaw}
use Rattle.twiring.specs.declared.flaws.TextFlaw.TheVariants as flaw
use Rattle.twiring.specs.Flaws.{text_flaws}
use Rattle.tfiles.specs.Logs.{line}
use Rattle.tcheck.specs.declared.lines.Beginning.{Beginning}
use Rattle.tcheck.specs.TextSentences.{flaw_text}

-- a text of more lines is told without numbers of lines, since each of them is read for itself
abbrev pub most_lines : ℕ
most_lines = 400

-- the first n of some lines as a text, each with its end
abbrev pub first_lines : List (List ℕ) → ℕ → List ℕ
first_lines ls n = flat_map line (take n ls)

-- a flaw says that a text is not TOML
abbrev pub is_no_toml : TextFlaw → Bool
is_no_toml flaw.NoToml = true
is_no_toml f = false

-- a text that has these flaws is TOML: one that is not has no other flaw
abbrev pub is_toml : List TextFlaw → Bool
is_toml [] = true
is_toml (f ∷ fs) = not (is_no_toml f)

-- a text with these flaws: whether it is TOML, and the sentences of the flaws
abbrev pub told : List TextFlaw → Beginning
told fs = record { is_toml = is_toml fs; sentences = map flaw_text fs }

-- the first line as a text, the first two, and so on
abbrev pub beginnings : List (List ℕ) → List Beginning
beginnings ls = map (λ n. told (text_flaws (first_lines ls n))) (range_with_len 1 (length ls))

-- the beginnings of a text, if it has few enough lines
abbrev pub known_beginnings : List ℕ → Option (List Beginning)
known_beginnings text = if nat_lt most_lines (length (lines text)) then None else Some (beginnings (lines text))

-- the greatest number of lines that are TOML, 0 where none are; the first beginning has n lines, and each next one a
-- line more
abbrev pub toml_lines : ℕ → List Beginning → ℕ
toml_lines n [] = 0
toml_lines n (b ∷ rest) = max (if b.is_toml then n else 0) (toml_lines (suc n) rest)

-- one of these sentences is this one
abbrev pub has_sentence : List ℕ → List (List ℕ) → Bool
has_sentence sentence ss = list_any (λ s. bytes_eq s sentence) ss

-- the least number of lines that have a flaw of this sentence; the first beginning has n lines, and each next one a
-- line more
abbrev pub first_with : List ℕ → ℕ → List Beginning → Option ℕ
first_with sentence n [] = None
first_with sentence n (b ∷ rest) =
    if has_sentence sentence b.sentences then Some n else first_with sentence (suc n) rest

-- the line of a flaw: the last of the least number of lines that have a flaw of its sentence, without advice. A text
-- that is not TOML goes wrong behind the last line to which it is
abbrev pub line_among : List Beginning → TextFlaw → Option ℕ
line_among texts f = if is_no_toml f then Some (toml_lines 1 texts + 1) else first_with (flaw_text f) 1 texts

-- the line of a flaw, if the beginnings are known
abbrev pub line_in : Option (List Beginning) → TextFlaw → Option ℕ
line_in None f = None
line_in (Some texts) f = line_among texts f

-- the line of a flaw of a text
abbrev pub line_of : List ℕ → TextFlaw → Option ℕ
line_of text f = line_in (known_beginnings text) f
