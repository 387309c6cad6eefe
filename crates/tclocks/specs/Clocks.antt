-- Clocks: how many steps of each agent are known. An agent behind the end of the list has none.
-- Source: Fidge and Mattern (1988).
use Rattle.std.specs.Prelude.{ℕ, ◌+◌, List, [], ◌∷◌, max, slice_index, slice_set}

-- a clock that knows what either knows
abbrev pub joined : List ℕ → List ℕ → List ℕ
joined [] clock = clock
joined (n ∷ ns) [] = n ∷ ns
joined (n ∷ ns) (k ∷ ks) = max n k ∷ joined ns ks

-- a clock that knows of one more step of the agent
abbrev pub raised : List ℕ → ℕ → List ℕ
raised clock agent = slice_set clock agent (slice_index clock agent + 1)

-- a clock that knows of so many more steps of the agent
abbrev pub raised_by : List ℕ → (agent count : ℕ) → List ℕ
raised_by clock agent count = slice_set clock agent (slice_index clock agent + count)
