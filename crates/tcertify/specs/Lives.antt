-- The workspaces of a node by their addresses.
-- Source: own choice.
use Rattle.std.specs.Prelude.{ℕ, ◌==◌, ℤ, pos, List, find, Option, Some, None}
use Rattle.tcertify.specs.declared.life.Life.{Life}

-- the address of a workspace
abbrev pub workspace_of : Life → ℕ
workspace_of l = l.workspace

-- how many processes have it, if there is the workspace
abbrev pub count_or_none : Option Life → ℤ
count_or_none (Some l) = l.count
count_or_none None = pos 0

-- how many processes have the workspace at an address
abbrev pub lives_at : List Life → ℕ → ℤ
lives_at lives w = count_or_none (find (λ l. l.workspace == w) lives)

-- how many successors went on there, if there is the workspace
abbrev pub successors_or_none : Option Life → ℕ
successors_or_none (Some l) = l.successors
successors_or_none None = 0

-- how many successors went on at the workspace at an address
abbrev pub successors_at : List Life → ℕ → ℕ
successors_at lives w = successors_or_none (find (λ l. l.workspace == w) lives)
