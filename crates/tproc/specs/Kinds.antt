-- What no move of a processor changes: the kind of its node, and how many bytes its memory has.
-- Source: own choice.
use Rattle.std.specs.Prelude.{◌≡◌, length}
use Rattle.tword.specs.Accesses.{IsMemorySize}
use Rattle.tproc.specs.Machine.{Machine}
use Rattle.tproc.specs.Placement.{IsPlaced}
use Rattle.tproc.specs.SavedWords.{OfEachMove}

-- the memory has a size that one of this kind may have
pub record IsSized (n : Machine) : Type 0 where
  pub size : IsMemorySize n.control.kind (length n.store)

-- a processor of the same kind, with as many bytes
pub record IsAlike (n n' : Machine) : Type 0 where
  pub kind : n'.control.kind ≡ n.control.kind
  pub size : length n'.store ≡ length n.store

-- each move leaves the kind of a processor, and how many bytes it has
abbrev pub KindsStay : Type 0
KindsStay = (n : Machine) → IsPlaced n → OfEachMove IsAlike n
