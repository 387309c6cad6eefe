-- The berths of nodes, which their processes take by turns.
-- Source: own choice.
use Rattle.std.specs.Prelude.{ℕ, ◌≡◌, ◌≤◌, ◌⊎◌, ◌++◌, ◌∷◌, [], true, false, Bool, List, Option, Some, None}
use Rattle.std.specs.Prelude.{Contains, length, map, nat_le, option_map, pos, slice_get, slice_set, take, unwrap_or}
use Rattle.std.specs.List.{range_with_len}
use Rattle.tword.specs.Limits.{most_processes}
use Rattle.tplan.specs.declared.plan.Plan.{Plan}
use Rattle.tclocks.specs.Checks.{Check, last_step}
use Rattle.tprocesses.specs.Places.{Name, Population, Standing}
use Rattle.tprocesses.specs.Values.{amount_in, stand_in}
use Rattle.tprocesses.specs.Standing.{is_absent}
use Rattle.tprocesses.specs.Machine as machine
use Rattle.tprocesses.specs.Certified.{ProcessStep}
use Rattle.tcertify.specs.declared.node.Node.{Node}
use Rattle.tcertify.specs.declared.process.Process.{Process}
use Rattle.tcertify.specs.declared.standing.Stand.TheVariants as stand
use Rattle.tcertify.specs.Nodes.{names}
use Rattle.tcertify.specs.Running.{State}
use Rattle.tcertify.specs.Standing.{stand_of}
use Rattle.tfollow.specs.declared.berth.Berth.{Berth}
use Rattle.tfollow.specs.Lodging.{AreLodged, HasCountedIfAny, IsNewName}
use Rattle.tfollow.specs.Numbering.{AgentNumbers}
use Rattle.tverdict.specs.declared.agent.Agent.{Agent}
use Rattle.tverdict.specs.declared.agent.Agent.TheVariants as agent
use Rattle.tverdict.specs.declared.lodging.Lodging.{Lodging}
use Rattle.tverdict.specs.declared.machine.Machine.{Machine}

-- the names of the processes of a node, by their numbers
abbrev pub names_in : List Node → ℕ → List Name
names_in nodes n = unwrap_or (option_map names (slice_get nodes n)) []

-- those that have a berth
abbrev pub lodgers : List Node → ℕ → Lodging → List Name
lodgers nodes n l = take (length l.homes.items) (names_in nodes n)

-- each process that a node has ever had has a berth, and it knows no others
pub record HasHomes (node : Node) (l : Lodging) : Type 0 where
  pub had : node.population ≡ length l.homes.items
  pub known : length node.processes.items.items ≡ length l.homes.items

-- the same of the node of this number
abbrev pub HasHomesAt : List Node → ℕ → Lodging → Type 0
HasHomesAt nodes n l = (node : Node) → slice_get nodes n ≡ Some node → HasHomes node l

-- nothing is known of the berths of a node
abbrev pub is_crowded : Option Lodging → Bool
is_crowded (Some l) = l.is_crowded
is_crowded None = true

-- after these steps, the last one first, each process of a node has a berth
pub record IsHoused (plan : Plan) (steps : List ProcessStep) (nodes : List Node) (group : AgentNumbers) (n : ℕ)
    (l : Lodging) : Type 0 where
  pub homes : HasHomesAt nodes n l
  pub lodged : AreLodged plan n group (lodgers nodes n l) l.homes.items steps l.berths.items

-- so it is at each node that is not crowded
pub record AreHoused (plan : Plan) (steps : List ProcessStep) (nodes : List Node) (group : AgentNumbers)
    (lodgings : List Lodging) : Type 0 where
  pub many : length lodgings ≡ length nodes
  pub housed : (n : ℕ) (l : Lodging) → slice_get lodgings n ≡ Some l → l.is_crowded ≡ false
      → IsHoused plan steps nodes group n l

-- so it was before the last step, in the state where it began: whoever has no berth was absent. Some nodes have changed
-- since then
pub record WasHoused (plan : Plan) (changed : List ℕ) (steps : List ProcessStep) (s : State) (nodes : List Node)
    (group : AgentNumbers) (n : ℕ) (l : Lodging) : Type 0 where
  pub lodged : AreLodged plan n group (lodgers nodes n l) l.homes.items steps l.berths.items
  pub had : amount_in (s (Population n)) ≡ pos (length l.homes.items)
  pub others : (x : Name) → x.node ≡ n → IsNewName (lodgers nodes n l) x
      → is_absent (stand_in (s (Standing x))) ≡ true
  pub elsewhere : (Contains changed n → ⊥) → HasHomesAt nodes n l

-- so it was at each node that is not crowded. The last step was that of this agent: if it is a process, its node is one
-- of those that have changed
pub record WereHoused (plan : Plan) (changed : List ℕ) (a : machine.Agent) (steps : List ProcessStep) (s : State)
    (nodes : List Node) (group : AgentNumbers) (lodgings : List Lodging) : Type 0 where
  pub many : length lodgings ≡ length nodes
  pub home : (x : Name) → a ≡ machine.Process x → Contains changed x.node
  pub housed : (n : ℕ) (l : Lodging) → slice_get lodgings n ≡ Some l → l.is_crowded ≡ false
      → WasHoused plan changed steps s nodes group n l

-- an agent is this process of the node, and has ended
pub record HasEnded (node : Node) (a : Agent) (process : ℕ) : Type 0 where
  pub named : a ≡ agent.Process node.words.number process
  pub known : Process
  pub there : slice_get node.processes.items.items process ≡ Some known
  pub ended : known.stand ≡ stand.Ended

-- a node has this process, which is not absent
pub record IsPresent (node : Node) (process : ℕ) : Type 0 where
  pub known : Process
  pub there : slice_get node.processes.items.items process ≡ Some known
  pub present : is_absent (stand_of known.stand) ≡ false

-- a berth is free, or is taken, and the clock of an agent has counted the last step that took or left it
pub record IsKnown (check : Check) (number : ℕ) (is_free : Bool) (l : Lodging) (place : ℕ) : Type 0 where
  pub berth : Berth
  pub there : slice_get l.berths.items place ≡ Some berth
  pub free : berth.is_free ≡ is_free
  pub counted : HasCountedIfAny check number berth.last

-- the berth of a process is known to be taken
pub record IsHomeOf (check : Check) (number process : ℕ) (l : Lodging) (place : ℕ) : Type 0 where
  pub home : slice_get l.homes.items process ≡ Some place
  pub known : IsKnown check number false l place

-- a berth that the last step of an agent takes or leaves
abbrev pub moved_berth : Check → (number : ℕ) → (is_free : Bool) → Berth
moved_berth check number is_free = record { is_free = is_free; last = Some (last_step check number) }

-- the process that comes next takes a berth that is known to be free, and all have a berth then
pub record Takes (check : Check) (number : ℕ) (node : Node) (old new : Lodging) : Type 0 where
  pub place : ℕ
  pub known : IsKnown check number true old place
  pub berths : new.berths.items ≡ slice_set old.berths.items place (moved_berth check number false)
  pub housed : new.homes.items ≡ old.homes.items ++ place ∷ []
  pub present : IsPresent node (length old.homes.items)
  pub homes : HasHomes node new

-- a process leaves its berth, which is known to be taken
pub record Leaves (check : Check) (number process : ℕ) (old new : Lodging) : Type 0 where
  pub place : ℕ
  pub known : IsHomeOf check number process old place
  pub berths : new.berths.items ≡ slice_set old.berths.items place (moved_berth check number true)
  pub housed : new.homes.items ≡ old.homes.items

-- what the last step, of this agent, begins and ends at a node takes and leaves berths there
abbrev pub Moves : Check → (number : ℕ) → Node → Agent → (old new : Lodging) → Type 0
Moves check number node a old new =
    Takes check number node old new
    ⊎ (HasHomes node old × ((process : ℕ) × HasEnded node a process × Leaves check number process old new))
    ⊎ (HasHomes node old × ((process : ℕ) → HasEnded node a process → ⊥) × (new ≡ old))

-- or the node is crowded from then on
abbrev pub Lodges : Check → (number : ℕ) → Node → Agent → (old new : Lodging) → Type 0
Lodges check number node a old new =
    new.is_crowded ≡ false → (old.is_crowded ≡ false) × Moves check number node a old new

-- so the berths of these nodes have followed the last step, of the agent of this number
pub record LodgesAt (number : ℕ) (at : List ℕ) (old new : Machine) : Type 0 where
  pub same : new ≡ record old { lodgings = new.lodgings }
  pub many : length new.lodgings.items ≡ length old.lodgings.items
  pub others : (n : ℕ) → (Contains at n → ⊥) → slice_get new.lodgings.items n ≡ slice_get old.lodgings.items n
  pub here : (n : ℕ) (node : Node) (a : Agent) (l : Lodging) → Contains at n → slice_get old.nodes.items n ≡ Some node
      → slice_get old.agents.items number ≡ Some a → slice_get old.lodgings.items n ≡ Some l
      → (m : Lodging) × (slice_get new.lodgings.items n ≡ Some m) × Lodges old.check number node a l m

-- a berth before the first step, of which so many are taken, by its number
abbrev pub first_berth : (count place : ℕ) → Berth
first_berth count place = record { is_free = nat_le count place; last = None }

-- as many as processes may live at the same time
abbrev pub first_berths : ℕ → List Berth
first_berths count = map (first_berth count) (range_with_len 0 most_processes)

-- the lodging of a node before the first step: each process of the image has a berth, if there are enough
pub record IsFirst (node : Node) (l : Lodging) : Type 0 where
  pub berths : l.berths.items ≡ first_berths node.population
  pub homes : l.is_crowded ≡ false → HasHomes node l
  pub few : l.is_crowded ≡ false → node.population ≤ most_processes

-- so it is at each node
pub record AreFirstLodgings (nodes : List Node) (lodgings : List Lodging) : Type 0 where
  pub many : length lodgings ≡ length nodes
  pub each : (n : ℕ) (node : Node) (l : Lodging) → slice_get nodes n ≡ Some node → slice_get lodgings n ≡ Some l
      → IsFirst node l
