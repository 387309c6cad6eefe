-- What a part of a step sees.
-- Source: own choice.
use Rattle.std.specs.Prelude.{List, [], ◌∷◌}
use Rattle.tagents.specs.Walks.{Sight, sight}
use Rattle.tprocesses.specs.Places.{Place}
use Rattle.tprocesses.specs.Values.{Value}
use Rattle.tprocesses.specs.Parts.{Part, gives, stopping, seeing, changing, telling}
use Rattle.tcertify.specs.Running.{State, changed}

-- the places that a part looks at, each with what it sees there, in order. What is seen has the changes that the part
-- has made so far
abbrev pub sights : {A : Type 0} → Part A → State → List (Sight Place Value)
sights (gives x) s = []
sights (stopping why) s = []
sights (seeing p next) s = sight s p ∷ sights (next (s p)) s
sights (changing p c next) s = sights next (changed p c s)
sights (telling m next) s = sights next s
