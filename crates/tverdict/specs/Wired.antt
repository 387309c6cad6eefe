-- Steps that are done at two nodes, from their parts to their end.
-- Source: own choice.
use Rattle.std.specs.Prelude.{ℕ, ◌≡◌, ◌≢◌, ◌⊎◌, false, [], ◌∷◌, All, Contains, Result, Ok, Err, Some, None, length}
use Rattle.std.specs.Prelude.{slice_get, slice_set}
use Rattle.tplan.specs.declared.plan.Plan.{Plan}
use Rattle.tprocesses.specs.Parts.{Part, Doing, Reason}
use Rattle.tprocesses.specs.Machine.{step_of}
use Rattle.tcertify.specs.declared.fault.Fault.{Fault}
use Rattle.tcertify.specs.declared.fault.Fault.TheVariants as fault
use Rattle.tcertify.specs.declared.lead.Lead.{Lead}
use Rattle.tcertify.specs.declared.node.Node.{Node}
use Rattle.tcertify.specs.declared.notes.Notes.{Notes}
use Rattle.tcertify.specs.Nodes.{IsLed}
use Rattle.tcertify.specs.Notes.{IsNoted, Keeps, Numbering}
use Rattle.tcertify.specs.Running.{run_part}
use Rattle.tcertify.specs.Seeing.{sights}
use Rattle.tcertify.specs.Walked.{Accessed, accesses, changes}
use Rattle.tcertify.specs.Words.{reason_of}
use Rattle.tverdict.specs.declared.finishing.Counts.{Counts}
use Rattle.tverdict.specs.declared.machine.Machine.{Machine}
use Rattle.tverdict.specs.Calls.{IsAfresh}
use Rattle.tverdict.specs.Lodging.{WereHoused}
use Rattle.tverdict.specs.Machines.{machine_at, places}
use Rattle.tverdict.specs.Passing.{HasSinkPlace, NodesGrow, NumbersMachine, notes_at}
use Rattle.tverdict.specs.Stepping.{AreFoundBefore, Fits, IsAnswered}

-- a node begins afresh, if this is the number of one; all else stays
pub record BeginsAt (old : Machine) (n : ℕ) (new : Machine) : Type 0 where
  pub node : (a : Node) → slice_get old.nodes.items n ≡ Some a
      → (b : Node) × IsAfresh a b × (new.nodes.items ≡ slice_set old.nodes.items n b)
  pub none : slice_get old.nodes.items n ≡ None → new.nodes.items ≡ old.nodes.items
  pub same : new ≡ record old { nodes = new.nodes }

-- these are the counts of processes and channels of the node of this number, if there is one
pub record AreCounts (m : Machine) (n : ℕ) (counts : Counts) : Type 0 where
  pub processes : (a : Node) → slice_get m.nodes.items n ≡ Some a
      → counts.processes ≡ length a.processes.items.items
  pub channels : (a : Node) → slice_get m.nodes.items n ≡ Some a → counts.channels ≡ length a.channels.items.items

-- an access is noted at one of two nodes, sources or sinks
abbrev pub IsNotedAt : Numbering → Machine → Notes → (n o : ℕ) → Accessed → Type 0
IsNotedAt numbering m others n o access =
    IsNoted numbering (notes_at m others n).items.items access
    ⊎ IsNoted numbering (notes_at m others o).items.items access

-- no note got lost at the two
pub record AreKeptAt (m : Machine) (others : Notes) (n o : ℕ) : Type 0 where
  pub one : (notes_at m others n).is_lost ≡ false
  pub other : (notes_at m others o).is_lost ≡ false

-- a call answered what a part does, which is at two nodes, sources or sinks, and left the machine as it does. It noted
-- at the two what the part accesses, and each lead that it told is one
pub record RunsAtTwo {A : Type 0} (plan : Plan) (part : Part A) (n o : ℕ) (old : Machine) (before : Notes)
    (answer : Result A Reason) (new : Machine) (after : Notes) : Type 0 where
  pub runs : run_part part (machine_at plan old) ≡ (answer, machine_at plan new)
  pub nodes : NodesGrow old.nodes.items new.nodes.items
  pub others : (k : ℕ) → k ≢ n → k ≢ o → slice_get new.nodes.items k ≡ slice_get old.nodes.items k
  pub sent : length new.sent.items ≡ length old.sent.items
  pub sinks : length new.sinks.items ≡ length old.sinks.items
  pub places : (k p : ℕ) → HasSinkPlace new k p → HasSinkPlace old k p
  pub same : new ≡ record old { nodes = new.nodes; sent = new.sent; sinks = new.sinks }
  pub keeps : (k : ℕ) → Keeps (notes_at old before k) (notes_at new after k)
  pub noted : (numbering : Numbering) → NumbersMachine numbering new → AreKeptAt new after n o
      → All (IsNotedAt numbering new after n o) (accesses part (machine_at plan old))
  pub led : (k : ℕ) (b : Node) (l : Lead) → slice_get new.nodes.items k ≡ Some b → Contains b.leads.items l
      → ((a : Node) × (slice_get old.nodes.items k ≡ Some a) × Contains a.leads.items l)
      ⊎ IsLed b (sights part (machine_at plan old)) (changes part (machine_at plan old)) l

-- the same for a call that may find memory out, which tells nothing then
abbrev pub DoesAtTwo : Plan → Doing → (n o : ℕ) → Machine → Notes → Result (Unit {0}) Fault → Machine → Notes → Type 0
DoesAtTwo plan part n o old before (Ok x) new after = RunsAtTwo plan part n o old before (Ok tt) new after
DoesAtTwo plan part n o old before (Err (fault.Stops why)) new after =
    RunsAtTwo plan part n o old before (Err (reason_of why)) new after
DoesAtTwo plan part n o old before (Err fault.OutOfMemory) new after = Unit {0}

-- the step of an agent is done at two nodes, sources or sinks and not told; they have noted what it accesses and where
-- it leads
pub record IsUntoldAt (plan : Plan) (number n o : ℕ) (others : Notes) (m : Machine) : Type 0 where
  pub answered : IsAnswered plan number (Ok tt) m
  pub noted : AreKeptAt m others n o
      → All (IsNotedAt (places m) m others n o) (accesses (step_of plan answered.agent) answered.state)
  pub led : (k : ℕ) (l : Lead) (node : Node) → Contains (n ∷ o ∷ []) k → slice_get m.nodes.items k ≡ Some node
      → Contains node.leads.items l → IsLed node (sights (step_of plan answered.agent) answered.state)
      (changes (step_of plan answered.agent) answered.state) l
  pub fits : Fits plan m
  pub housed : WereHoused plan (n ∷ o ∷ []) answered.agent answered.steps answered.state m.nodes.items answered.group
      m.lodgings.items

-- the same where the two nodes had these numbers of processes and channels before, and all agents were found
pub record IsDoneAt (plan : Plan) (number n processes channels o processes' channels' : ℕ) (others : Notes)
    (m : Machine) : Type 0 where
  pub untold : IsUntoldAt plan number n o others m
  pub found : AreFoundBefore plan n processes channels o processes' channels' m

-- by what the halves of the step answered
abbrev pub IsOutcomeAt : Plan → (number n processes channels o processes' channels' : ℕ) → Notes
    → Result (Unit {0}) Fault → Machine → Type 0
IsOutcomeAt plan number n p c o q d others (Ok x) m = IsDoneAt plan number n p c o q d others m
IsOutcomeAt plan number n p c o q d others (Err (fault.Stops why)) m = IsAnswered plan number (Err (reason_of why)) m
IsOutcomeAt plan number n p c o q d others (Err fault.OutOfMemory) m = Unit {0}
