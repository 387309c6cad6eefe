-- A node as places, and what a call on it does.
-- Source: own choice.
use Rattle.std.specs.Prelude.{ℕ, ◌≡◌, ◌<◌, ◌≤◌, ◌+◌, length, Bool, false, List, map, Some, Result, Ok, Err, slice_get}
use Rattle.std.specs.Prelude.{[], Contains, unwrap_or, ◌⊎◌}
use Rattle.tagents.specs.Walks.{Sight}
use Rattle.tproc.specs.declared.channels.Side as machine
use Rattle.tproc.specs.declared.channels.Side.TheVariants.{Input, Output}
use Rattle.tplan.specs.Wires.{end_at}
use Rattle.tprocesses.specs.Places as place
use Rattle.tprocesses.specs.Places.{Place, Name, WordAt}
use Rattle.tprocesses.specs.Values.{Value, stand_in, half_in, link_in}
use Rattle.tprocesses.specs.Changes.{Decrement}
use Rattle.tprocesses.specs.Parts.{Reason, Part, Changed}
use Rattle.tprocesses.specs.Touching.{Site}
use Rattle.tprocesses.specs.Machine.{is_due_at, is_met_at, is_ready}
use Rattle.tcertify.specs.declared.channel.Channel.{Channel}
use Rattle.tcertify.specs.declared.fault.Fault.{Fault}
use Rattle.tcertify.specs.declared.fault.Fault.TheVariants as fault
use Rattle.tcertify.specs.declared.lead.Lead.{Lead}
use Rattle.tcertify.specs.declared.lead.Lead.TheVariants as lead
use Rattle.tcertify.specs.declared.life.Life.{Life}
use Rattle.tcertify.specs.declared.node.Node.{Node}
use Rattle.tcertify.specs.declared.process.Process.{Process}
use Rattle.tcertify.specs.declared.notes.Notes.{Notes}
use Rattle.tcertify.specs.declared.side.Side.{Side}
use Rattle.tcertify.specs.declared.side.Side.TheVariants as sides
use Rattle.tcertify.specs.Boards.{Board, board_at, has_run_at}
use Rattle.tcertify.specs.Channels.{half_among, link_among, unfinished_among}
use Rattle.tcertify.specs.Lives.{lives_at, successors_at}
use Rattle.tcertify.specs.Notes.{AreNoted, Keeps, Numbering, NumbersWords}
use Rattle.tcertify.specs.Processes.{name_in, name_of, ports_among, ports_or_none, stand_among}
use Rattle.tcertify.specs.Running.{State, run_part}
use Rattle.tcertify.specs.Seeing.{sights}
use Rattle.tcertify.specs.Sides.{side_of}
use Rattle.tcertify.specs.Walked.{accesses, changes}
use Rattle.tcertify.specs.Words.{reason_of, site_of, standing}

-- the names of its processes, by their numbers
abbrev pub names : Node → List Name
names n = map (name_of n.words.number) n.processes.items.items

abbrev pub name_at : Node → ℕ → Name
name_at n k = name_in (names n) k

-- the channels that the process of a number has enabled
abbrev pub ports_at : Node → ℕ → List ℕ
ports_at n k = ports_or_none (slice_get n.processes.items.items k)

-- the addresses of its channels, by their numbers, and those of its workspaces
abbrev pub addresses : Node → List ℕ
addresses n = map (λ c. c.address) n.channels.items.items

abbrev pub address_at : Node → ℕ → ℕ
address_at n k = unwrap_or (slice_get (addresses n) k) 0

abbrev pub workspaces : Node → List ℕ
workspaces n = map (λ l. l.workspace) n.lives.items.items

abbrev pub workspace_at : Node → ℕ → ℕ
workspace_at n k = unwrap_or (slice_get (workspaces n) k) 0

-- its number, the size of its memory, and its kind
abbrev pub node_site : Node → Site
node_site n = site_of n.words

-- what it has except for its words
abbrev pub board_of : Node → Board
board_of n =
    record {
      node = n.words.number;
      stand = stand_among n.words.number n.processes.items.items;
      ports = ports_among n.words.number n.processes.items.items;
      half = half_among (names n) n.channels.items.items;
      link = link_among (names n) n.links;
      unfinished = unfinished_among n.links;
      error = n.error;
      halt_on_error = n.halt_on_error;
      is_flag_changed = n.is_flag_changed;
      life = lives_at n.lives.items.items;
      successions = successors_at n.lives.items.items;
      population = n.population;
      has_run = has_run_at n.has_run_high n.has_run_low;
    }

-- a state in which each place of the node has what the node has
abbrev pub node_at : Node → State → State
node_at n s = standing n.words (board_at (board_of n) s)

-- the numbers that notes have for the places of the node
pub record NumbersNode (numbering : Numbering) (n : Node) : Type 0 where
  pub words : NumbersWords numbering n.words.number n.words.first_place
  pub stand : (k : ℕ) (p : Process) → slice_get n.processes.items.items k ≡ Some p
      → numbering (place.Standing (name_of n.words.number p)) ≡ p.place
  pub ports : (k : ℕ) (p : Process) → slice_get n.processes.items.items k ≡ Some p
      → numbering (place.Ports (name_of n.words.number p)) ≡ p.place
  pub input : (k : ℕ) (c : Channel) → slice_get n.channels.items.items k ≡ Some c
      → numbering (place.Half n.words.number c.address Input) ≡ c.input.place
  pub output : (k : ℕ) (c : Channel) → slice_get n.channels.items.items k ≡ Some c
      → numbering (place.Half n.words.number c.address Output) ≡ c.output.place
  pub life : (k : ℕ) (l : Life) → slice_get n.lives.items.items k ≡ Some l
      → numbering (place.Life n.words.number l.workspace) ≡ l.count_place
  pub successions : (k : ℕ) (l : Life) → slice_get n.lives.items.items k ≡ Some l
      → numbering (place.Successions n.words.number l.workspace) ≡ l.successors_place
  pub error : numbering (place.Error n.words.number) ≡ n.fixed_place
  pub halt_on_error : numbering (place.HaltOnError n.words.number) ≡ n.fixed_place + 1
  pub flag_changed : numbering (place.FlagChanged n.words.number) ≡ n.fixed_place + 2
  pub population : numbering (place.Population n.words.number) ≡ n.fixed_place + 3
  pub has_run : (p : ℕ) → p < 2 → numbering (place.HasRun n.words.number p) ≡ n.fixed_place + 4 + p
  pub link_input : (k : ℕ) → k < 4
      → numbering (place.LinkHalf (end_at n.words.number k) Input) ≡ n.fixed_place + 6 + k
  pub link_output : (k : ℕ) → k < 4
      → numbering (place.LinkHalf (end_at n.words.number k) Output) ≡ n.fixed_place + 10 + k
  pub unfinished : (k : ℕ) → k < 4
      → numbering (place.Unfinished (end_at n.words.number k)) ≡ n.fixed_place + 14 + k

-- its processes, channels and workspaces keep their numbers, and all places do; new ones may have come
pub record Grows (old new : Node) : Type 0 where
  pub site : node_site new ≡ node_site old
  pub numbers : (numbering : Numbering) → NumbersNode numbering new → NumbersNode numbering old
  pub processes : length old.processes.items.items ≤ length new.processes.items.items
  pub channels : length old.channels.items.items ≤ length new.channels.items.items
  pub lives : length old.lives.items.items ≤ length new.lives.items.items
  pub names : (k : ℕ) (x : Name) → slice_get (names old) k ≡ Some x → slice_get (names new) k ≡ Some x
  pub addresses : (k c : ℕ) → slice_get (addresses old) k ≡ Some c → slice_get (addresses new) k ≡ Some c
  pub workspaces : (k w : ℕ) → slice_get (workspaces old) k ≡ Some w → slice_get (workspaces new) k ≡ Some w

-- a place was seen with a value of which a test does not hold
pub record IsSeenShut (seen : List (Sight Place Value)) (p : Place) (is_open : Value → Bool) : Type 0 where
  pub value : Value
  pub there : Contains seen (record { place = p; value = value })
  pub shut : is_open value ≡ false

-- what was seen and changed tells of a lead
abbrev pub IsLed : Node → List (Sight Place Value) → List Changed → Lead → Type 0
IsLed n seen changed (lead.Process k) =
    (x : Name) × (slice_get (names n) k ≡ Some x) × IsSeenShut seen (place.Standing x) (λ v. is_ready (stand_in v))
IsLed n seen changed (lead.Channel k) =
    (c : ℕ) × (slice_get (addresses n) k ≡ Some c)
    × ((side : machine.Side) × IsSeenShut seen (place.Half n.words.number c side)
    (λ v. is_met_at (place.Half n.words.number c side) (half_in v)))
IsLed n seen changed (lead.Link l side) =
    IsSeenShut seen (place.LinkHalf (end_at n.words.number l) (side_of side))
    (λ v. is_due_at (side_of side) (link_in v))
IsLed n seen changed (lead.Count k) =
    (p : ℕ) × Contains changed (record { place = WordAt n.words.number k; change = Decrement p })

-- a call answered what a part does and left the node as it does, whatever stands elsewhere. It noted what the part
-- accesses, and each lead that it told is one
pub record RunsAt {A : Type 0} (part : Part A) (old : Node) (answer : Result A Reason) (new : Node) : Type 0 where
  pub runs : (rest : State) → run_part part (node_at old rest) ≡ (answer, node_at new rest)
  pub grows : Grows old new
  pub keeps : Keeps old.words.notes new.words.notes
  pub noted : (numbering : Numbering) → NumbersNode numbering new → (rest : State)
      → AreNoted numbering new.words.notes (accesses part (node_at old rest))
  pub led : (l : Lead) → Contains new.leads.items l → Contains old.leads.items l
      ⊎ ((rest : State) → IsLed new (sights part (node_at old rest)) (changes part (node_at old rest)) l)

-- the same for a call that may find memory out, which tells nothing then
abbrev pub Does : {X A : Type 0} → Part A → (X → A) → Node → Result X Fault → Node → Type 0
Does part f old (Ok x) new = RunsAt part old (Ok (f x)) new
Does part f old (Err (fault.Stops why)) new = RunsAt part old (Err (reason_of why)) new
Does part f old (Err fault.OutOfMemory) new = Unit {0}

-- nothing is answered but that it is done
abbrev pub nothing : Unit {0} → Unit {0}
nothing x = tt

-- the number of the place of a half of a link
abbrev pub link_place : Node → ℕ → Side → ℕ
link_place n link sides.Input = n.fixed_place + 6 + link
link_place n link sides.Output = n.fixed_place + 10 + link

-- one more lead is told, or it got lost
pub record HasLead (old : Node) (l : Lead) (new : Node) : Type 0 where
  pub same : new ≡ record old { words = record old.words { notes = new.words.notes }; leads = new.leads }
  pub keeps : Keeps old.words.notes new.words.notes
  pub keeps_still : (notes : Notes) → Keeps notes old.words.notes → Keeps notes new.words.notes
  pub leads : (m : Lead) → Contains new.leads.items m → Contains old.leads.items m ⊎ (l ≡ m)

-- nothing is noted any more
pub record IsBegun (old new : Node) : Type 0 where
  pub same : new ≡ record old { words = record old.words { notes = new.words.notes }; leads = new.leads }
  pub notes : new.words.notes.items.items ≡ []
  pub none : new.words.notes.is_lost ≡ false
  pub earlier : new.words.notes.earlier ≡ length new.words.notes.items.items
  pub leads : new.leads.items ≡ []

-- what was noted is kept as that of earlier steps, where there was no lead, or nothing is noted any more
pub record GoesOn (old new : Node) : Type 0 where
  pub same : new ≡ record old { words = record old.words { notes = new.words.notes }; leads = new.leads }
  pub notes : (new.words.notes.items.items ≡ [])
      ⊎ ((old.leads.items ≡ []) × (new.words.notes.items.items ≡ old.words.notes.items.items))
  pub none : new.words.notes.is_lost ≡ false
  pub earlier : new.words.notes.earlier ≡ length new.words.notes.items.items
  pub leads : new.leads.items ≡ []

-- except for their words and notes two nodes are alike
pub record AreBesides (old new : Node) : Type 0 where
  pub processes : new.processes.items.items ≡ old.processes.items.items
  pub channels : new.channels.items.items ≡ old.channels.items.items
  pub links : new.links ≡ old.links
  pub lives : new.lives.items.items ≡ old.lives.items.items
  pub error : new.error ≡ old.error
  pub halt_on_error : new.halt_on_error ≡ old.halt_on_error
  pub flag_changed : new.is_flag_changed ≡ old.is_flag_changed
  pub has_run_high : new.has_run_high ≡ old.has_run_high
  pub has_run_low : new.has_run_low ≡ old.has_run_low
  pub population : new.population ≡ old.population
  pub fixed : new.fixed_place ≡ old.fixed_place
  pub leads : new.leads.items ≡ old.leads.items
