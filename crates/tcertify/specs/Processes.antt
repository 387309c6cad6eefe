-- The processes of a node by their names.
-- Source: own choice.
use Rattle.std.specs.Prelude.{ℕ, ◌≡◌, List, [], find, reverse, Option, Some, None, slice_get, slice_set, unwrap_or}
use Rattle.tprocesses.specs.Places as place
use Rattle.tprocesses.specs.Places.{Name, same_name}
use Rattle.tprocesses.specs.Values as value
use Rattle.tcertify.specs.declared.process.Process.{Process}
use Rattle.tcertify.specs.declared.process.Root.{Root}
use Rattle.tcertify.specs.declared.process.Root.TheVariants as root
use Rattle.tcertify.specs.declared.standing.Stand.{Stand}
use Rattle.tcertify.specs.Standing.{stand_of}

-- where a name begins
abbrev pub root_of : Root → place.Root
root_of (root.Image k) = place.Image k
root_of (root.After w earlier) = place.After w earlier

-- a name at a node, by its root and the numbers of the children, the last one last
abbrev pub named : ℕ → Root → List ℕ → Name
named node r path = record { node = node; root = root_of r; path = reverse path }

-- the name of a process of a node
abbrev pub name_of : ℕ → Process → Name
name_of node p = named node p.root p.path.items

-- the name of the process of this number; there is always one where it is asked for
abbrev pub name_in : List Name → ℕ → Name
name_in names k = unwrap_or (slice_get names k) (record { node = 0; root = place.Image 0; path = [] })

-- where a process stands, if there is one
abbrev pub stand_or_absent : Option Process → value.Stand
stand_or_absent (Some p) = stand_of p.stand
stand_or_absent None = value.Absent

-- where the process of this name stands among those of a node
abbrev pub stand_among : ℕ → List Process → Name → value.Stand
stand_among node processes x = stand_or_absent (find (λ p. same_name (name_of node p) x) processes)

-- the channels that a process has enabled, if there is one
abbrev pub ports_or_none : Option Process → List ℕ
ports_or_none (Some p) = p.ports.items
ports_or_none None = []

-- the channels that the process of this name among those of a node has enabled
abbrev pub ports_among : ℕ → List Process → Name → List ℕ
ports_among node processes x = ports_or_none (find (λ p. same_name (name_of node p) x) processes)

-- processes of which the one of this number has other channels enabled now, and the number of its place
pub record HasPortsIn (old : List Process) (k : ℕ) (next : List ℕ → List ℕ) (at : ℕ) (new : List Process)
    : Type 0 where
  pub process : Process
  pub now : Process
  pub there : slice_get old k ≡ Some process
  pub set : new ≡ slice_set old k now
  pub same : now ≡ record process { ports = now.ports }
  pub ports : now.ports.items ≡ next process.ports.items
  pub place : process.place ≡ at

-- processes of which the one of this number stands so now, and the number of its place
pub record IsStoodIn (old : List Process) (k : ℕ) (stand : Stand) (at : ℕ) (new : List Process) : Type 0 where
  pub process : Process
  pub there : slice_get old k ≡ Some process
  pub set : new ≡ slice_set old k (record process { stand = stand })
  pub place : process.place ≡ at
