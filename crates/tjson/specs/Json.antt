-- JSON as text: strings of characters that need no escape, arrays and objects.
-- Source: RFC 8259, sections 2, 4, 5 and 7; the blanks behind commas and colons are our own choice.
use Rattle.std.specs.Prelude.{ℕ, Bool, true, false, List, [], ◌∷◌, ◌++◌, codes}

-- a string of characters none of which needs an escape
abbrev pub quoted : List ℕ → List ℕ
quoted text = codes "\"" ++ (text ++ codes "\"")

-- values with a comma between each two
abbrev pub listed : List (List ℕ) → List ℕ
listed [] = []
listed (v ∷ []) = v
listed (v ∷ w ∷ vs) = v ++ (codes ", " ++ listed (w ∷ vs))

-- an array of values
abbrev pub array : List (List ℕ) → List ℕ
array values = codes "[" ++ (listed values ++ codes "]")

-- a member of an object: its name and its value
abbrev pub member : (name value : List ℕ) → List ℕ
member name value = quoted name ++ (codes ": " ++ value)

-- an object of members
abbrev pub object : List (List ℕ) → List ℕ
object members = codes "{" ++ (listed members ++ codes "}")

-- ---- what the private functions speak of

-- values of an array that are its first, or stand behind others: then a comma comes before each
abbrev pub listed_from : (is_first : Bool) → List (List ℕ) → List ℕ
listed_from is_first [] = []
listed_from true (v ∷ vs) = v ++ listed_from false vs
listed_from false (v ∷ vs) = codes ", " ++ (v ++ listed_from false vs)
