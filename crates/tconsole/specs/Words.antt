-- The words of the command line as texts.
-- Source: own choice.
use Rattle.std.specs.Prelude.{ℕ, ◌≡◌, ◌⊎◌, ◌<◌, List, codes}
use Rattle.std.specs.Str.{IsUtf8}
use Rattle.tconsole.specs.declared.words.WordFault.{WordFault}
use Rattle.tconsole.specs.declared.words.WordFault.TheVariants as fault

-- a word is its own text; the program's name, at place 0, is `temu` where it is no text
abbrev pub IsWordText : ℕ → List ℕ → List ℕ → Type 0
IsWordText place bytes text =
    (IsUtf8 bytes × (text ≡ bytes)) ⊎ (¬ (IsUtf8 bytes) × (place ≡ 0) × (text ≡ codes "temu"))

-- a fault tells the place of a word that is no text, and is not the program's name, unless there was no memory
abbrev pub IsWordFault : ℕ → List ℕ → WordFault → Type 0
IsWordFault place bytes (fault.NotText told) = (told ≡ place) × (0 < place) × (¬ (IsUtf8 bytes))
IsWordFault place bytes fault.OutOfMemory = Unit {0}
