-- The two halves of a wire's step: a message goes over from one end, and comes in at another.
-- Source: own choice.
use Rattle.std.specs.Prelude.{ℕ, ◌≡◌, ◌+◌, ◌⊎◌, List, Contains, length, Option, Some, None, Result, Ok, Err, slice_get}
use Rattle.tplan.specs.declared.plan.End.{End}
use Rattle.tplan.specs.declared.plan.Plan.{Plan}
use Rattle.tproc.specs.declared.channels.Side.{Side}
use Rattle.tprocesses.specs.Parts.{Part, Reason}
use Rattle.tprocesses.specs.Places.{Kept, LinkHalf, Messages}
use Rattle.tprocesses.specs.Machine.{offer_place, role_at}
use Rattle.tcertify.specs.declared.fault.Fault.{Fault}
use Rattle.tcertify.specs.declared.fault.Fault.TheVariants as fault
use Rattle.tcertify.specs.declared.lead.Lead.{Lead}
use Rattle.tcertify.specs.declared.node.Node.{Node}
use Rattle.tcertify.specs.declared.notes.Notes.{Notes}
use Rattle.tcertify.specs.declared.sink.Sink.{Sink}
use Rattle.tcertify.specs.Nodes.{Grows, IsLed, NumbersNode}
use Rattle.tcertify.specs.Notes.{AreNoted, Keeps, Numbering}
use Rattle.tcertify.specs.Running.{run_part}
use Rattle.tcertify.specs.Seeing.{sights}
use Rattle.tcertify.specs.Walked.{accesses, changes}
use Rattle.tcertify.specs.Words.{reason_of}
use Rattle.tverdict.specs.declared.machine.Machine.{Machine}
use Rattle.tverdict.specs.Machines.{machine_at}

-- the notes of a node, if this is one; else those of sources and sinks
abbrev pub notes_or : Notes → Option Node → Notes
notes_or others (Some node) = node.words.notes
notes_or others None = others

abbrev pub notes_at : Machine → Notes → ℕ → Notes
notes_at m others n = notes_or others (slice_get m.nodes.items n)

-- the numbers that notes have for the places of a machine
pub record NumbersMachine (numbering : Numbering) (m : Machine) : Type 0 where
  pub nodes : (k : ℕ) (node : Node) → slice_get m.nodes.items k ≡ Some node → NumbersNode numbering node
  pub messages : (e : End) → numbering (Messages e) ≡ m.first_script + e.node
  pub kept : (e : End) → numbering (Kept e) ≡ m.first_script + e.node
  pub nowhere : (e : End) (side : Side) → slice_get m.nodes.items e.node ≡ None
      → numbering (LinkHalf e side) ≡ m.first_script

-- this is the number of the place at which messages are offered at an end
abbrev pub IsOfferPlace : Plan → Machine → End → ℕ → Type 0
IsOfferPlace plan m e number =
    (numbering : Numbering) → NumbersMachine numbering m → numbering (offer_place (role_at plan e.node) e) ≡ number

-- each node has grown
pub record NodesGrow (old new : List Node) : Type 0 where
  pub many : length new ≡ length old
  pub grow : (k : ℕ) (a : Node) → slice_get old k ≡ Some a → (b : Node) × (slice_get new k ≡ Some b) × Grows a b

-- the place of a sink has this number
abbrev pub HasSinkPlace : Machine → ℕ → ℕ → Type 0
HasSinkPlace m k p = (s : Sink) × (slice_get m.sinks.items k ≡ Some s) × (s.place ≡ p)

-- a node, source or sink of this number has gone on, and all others stay; the places of sinks have their numbers still
pub record GoesOn (n : ℕ) (old new : Machine) : Type 0 where
  pub nodes : NodesGrow old.nodes.items new.nodes.items
  pub others : (k : ℕ) → (k ≡ n → ⊥) → slice_get new.nodes.items k ≡ slice_get old.nodes.items k
  pub sent : length new.sent.items ≡ length old.sent.items
  pub sinks : length new.sinks.items ≡ length old.sinks.items
  pub places : (k p : ℕ) → HasSinkPlace new k p → HasSinkPlace old k p
  pub same : new ≡ record old { nodes = new.nodes; sent = new.sent; sinks = new.sinks }

-- a call answered what a part does, which is at this node, source or sink, and left the machine as it does. It noted
-- what the part accesses, and each lead that it told is one
pub record RunsHalf {A : Type 0} (plan : Plan) (part : Part A) (n : ℕ) (old : Machine) (before : Notes)
    (answer : Result A Reason) (new : Machine) (after : Notes) : Type 0 where
  pub runs : run_part part (machine_at plan old) ≡ (answer, machine_at plan new)
  pub goes : GoesOn n old new
  pub keeps : (k : ℕ) → Keeps (notes_at old before k) (notes_at new after k)
  pub noted : (numbering : Numbering) → NumbersMachine numbering new
      → AreNoted numbering (notes_at new after n) (accesses part (machine_at plan old))
  pub led : (k : ℕ) (b : Node) (l : Lead) → slice_get new.nodes.items k ≡ Some b → Contains b.leads.items l
      → ((a : Node) × (slice_get old.nodes.items k ≡ Some a) × Contains a.leads.items l)
      ⊎ IsLed b (sights part (machine_at plan old)) (changes part (machine_at plan old)) l

-- the same for a call that may find memory out, which tells nothing then
abbrev pub DoesHalf : {X A : Type 0} → Plan → Part A → (X → A) → ℕ → Machine → Notes → Result X Fault → Machine
    → Notes → Type 0
DoesHalf plan part f n old before (Ok x) new after = RunsHalf plan part n old before (Ok (f x)) new after
DoesHalf plan part f n old before (Err (fault.Stops why)) new after =
    RunsHalf plan part n old before (Err (reason_of why)) new after
DoesHalf plan part f n old before (Err fault.OutOfMemory) new after = Unit {0}
