-- The bytes of a word as cells.
-- Source: own choice, how the code keeps them.
use Rattle.std.specs.Prelude.{ℕ, ◌/◌, ◌%◌, ◌^◌, ◌==◌, Bool, [], ◌∷◌, Option, Some, None, slice_index}
use Rattle.std.specs.Prelude.{if◌then◌else◌}
use Rattle.tword.specs.Stores.{Store}
use Rattle.tcertify.specs.declared.cells.Cells.{Cells}

-- a bit of a number is set; the lowest one is bit 0
abbrev pub has_bit : ℕ → ℕ → Bool
has_bit bits k = bits / 2 ^ k % 2 == 1

-- the byte of this number, where it is known
abbrev pub cell_at : Cells → ℕ → Option ℕ
cell_at c k = if has_bit c.known k then Some (slice_index c.bytes k) else None

-- the four bytes
abbrev pub cells_of : Cells → Store
cells_of c = cell_at c 0 ∷ cell_at c 1 ∷ cell_at c 2 ∷ cell_at c 3 ∷ []
