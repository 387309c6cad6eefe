-- Where two dumps differ: which lines tell of memories, and what is printed where no other lines differ.
-- Source: own choice, a format of this program; the lines are those of dumps.
use Rattle.std.specs.Prelude.{ℕ, suc, Bool, true, false, not, ◌&&◌, ◌||◌, ◌==◌, nat_lt, List, [], ◌∷◌, ◌++◌, length}
use Rattle.std.specs.Prelude.{get_or, take, if◌then◌else◌}
use Rattle.std.specs.Str.{bytes_eq}

-- ---- lines

-- a byte that ends no line, before the lines behind it
abbrev pub onto_line : ℕ → List (List ℕ) → List (List ℕ)
onto_line b [] = (b ∷ []) ∷ []
onto_line b (l ∷ ls) = (b ∷ l) ∷ ls

-- the lines of a text, each with its end
abbrev pub text_lines : List ℕ → List (List ℕ)
text_lines [] = []
text_lines (b ∷ bs) = if b == 10 then (b ∷ []) ∷ text_lines bs else onto_line b (text_lines bs)

-- how long the first line is, with its end
abbrev pub line_length : List ℕ → ℕ
line_length [] = 0
line_length (b ∷ bs) = if b == 10 then 1 else suc (line_length bs)

-- ---- lines of memories

-- a line tells of a memory: behind its address of eight digits stands a colon
abbrev pub is_of_memory : List ℕ → Bool
is_of_memory l = nat_lt 8 (length l) && get_or l 8 0 == 58

-- two lines tell of one place of a memory
abbrev pub are_of_one_place : List ℕ → List ℕ → Bool
are_of_one_place a b = is_of_memory a && (is_of_memory b && bytes_eq (take 9 a) (take 9 b))

-- two lines are the same, or tell of one place of a memory
abbrev pub agree_or_differ_in_memory : List ℕ → List ℕ → Bool
agree_or_differ_in_memory a b = bytes_eq a b || are_of_one_place a b

-- lines agree with others, in number and order, except for what stands in memories
abbrev pub agree_elsewhere : List (List ℕ) → List (List ℕ) → Bool
agree_elsewhere [] [] = true
agree_elsewhere [] (b ∷ ms) = false
agree_elsewhere (a ∷ ls) [] = false
agree_elsewhere (a ∷ ls) (b ∷ ms) = agree_or_differ_in_memory a b && agree_elsewhere ls ms

-- ---- what is printed of them

-- a line that stands in the place of another is of a memory and differs
abbrev pub is_changed : (line other : List ℕ) → Bool
is_changed a b = is_of_memory b && not (bytes_eq a b)

-- a changed line of a memory, behind the heading that is due
abbrev pub change_text : (heading line other : List ℕ) → List ℕ
change_text heading a b = if is_changed a b then heading ++ b else []

-- the heading that is due behind a line: that of the node, until a line of it was printed
abbrev pub heading_behind : (heading line other : List ℕ) → List ℕ
heading_behind heading a b = if not (is_of_memory b) then b else if bytes_eq a b then heading else []

-- the lines of memories in which others differ from lines, those of a node behind its heading
abbrev pub differing : (heading : List ℕ) → (lines others : List (List ℕ)) → List ℕ
differing heading [] ms = []
differing heading (a ∷ ls) [] = []
differing heading (a ∷ ls) (b ∷ ms) =
    change_text heading a b ++ differing (heading_behind heading a b) ls ms
