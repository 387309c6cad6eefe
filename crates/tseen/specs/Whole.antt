-- What a certificate of a plan tells of all runs of its net.
-- Source: own choice.
use Rattle.std.specs.Prelude.{◌++◌, ℕ, suc, ◌≡◌, ◌+◌, ◌*◌, ◌≤◌, false, List, length, Some, None, slice_get}
use Rattle.std.specs.Prelude.{slice_range}
use Rattle.tword.specs.Stores.{Store}
use Rattle.tword.specs.Words.{most_neg}
use Rattle.tlink.specs.Roles.{Sink}
use Rattle.tplan.specs.declared.event.Note.{Note}
use Rattle.tplan.specs.declared.plan.End.{End}
use Rattle.tplan.specs.declared.plan.NodePlan.{NodePlan}
use Rattle.tplan.specs.declared.plan.SinkPlan.{SinkPlan}
use Rattle.tplan.specs.declared.plan.SourcePlan.{SourcePlan}
use Rattle.tplan.specs.declared.plan.Plan.{Plan}
use Rattle.tnet.specs.Building.{fault_of, node_count, opening_configuration, ArePlanWords}
use Rattle.tnet.specs.Rendezvous.{Node, Configuration, Step, node_of, IsRun}
use Rattle.tplan.specs.Wires.{end_at}
use Rattle.treduction.specs.Ends.{IsOver as IsAtEnd, NoneFrozen}
use Rattle.tagents.specs.Certificates.{IsReached}
use Rattle.tprocesses.specs.Places.{Place, WordAt, Kept}
use Rattle.tprocesses.specs.Values.{Value, AreKept, word_in}
use Rattle.tprocesses.specs.Opening.{opening_state}
use Rattle.tprocesses.specs.Certified.{ProcessStep, machine_of, IsCertificate}
use Rattle.tseen.specs.Known.{KnowsCells, KnowsMessages}
use Rattle.tseen.specs.Scripts.{messages_from, ShowsSource}
use Rattle.tseen.specs.Shown.{Shows}
use Rattle.tseen.specs.Carried.{arrived, handed, AreKnownAs}

-- some state to which a run of the process machine leads shows the configuration
pub record IsSeen (p : Plan) (c : Configuration) : Type 0 where
  pub state : Place → Value
  pub reached : IsReached (machine_of p) (opening_state p) state
  pub shows : Shows p c state

-- no processor has halted
abbrev pub NoneHalted : Configuration → Type 0
NoneHalted c = (n : ℕ) (node : Node) → node_of c n ≡ Some node → node.machine.control.halted ≡ false

-- each memory has its size, and each byte that is known in a state
abbrev pub HasKnownBytes : Plan → Configuration → (Place → Value) → Type 0
HasKnownBytes p c s =
    (n : ℕ) (plan : NodePlan) → slice_get p.nodes n ≡ Some plan
    → (node : Node) × (node_of c n ≡ Some node) × (length node.machine.store ≡ plan.memory)
    × ((k : ℕ) → 4 * k + 4 ≤ plan.memory
    → KnowsCells (word_in (s (WordAt n k))).cells (slice_range node.machine.store (4 * k) (4 * k + 4)))

-- a sink has kept as many messages as in a state, as long, with each byte that is known there
pub record HasKept (s : Place → Value) (e : End) (node : Node) : Type 0 where
  pub lengths : List ℕ
  pub role : node.role ≡ Sink lengths
  pub room : ℕ
  pub messages : List Store
  pub stands : s (Kept e) ≡ AreKept room messages
  pub knows : KnowsMessages messages (messages_from node.machine.store most_neg lengths)

abbrev pub HasKnownMessages : Plan → Configuration → (Place → Value) → Type 0
HasKnownMessages p c s =
    (k : ℕ) (sink : SinkPlan) → slice_get p.sinks k ≡ Some sink
    → (node : Node) × (node_of c (length p.nodes + length p.sources + k) ≡ Some node)
    × HasKept s (end_at (length p.nodes + length p.sources + k) 0) node

-- each source has the messages left that it has in a state
abbrev pub HasMessagesLeft : Plan → Configuration → (Place → Value) → Type 0
HasMessagesLeft p c s =
    (k : ℕ) (source : SourcePlan) → slice_get p.sources k ≡ Some source
    → (node : Node) × (node_of c (length p.nodes + k) ≡ Some node)
    × ShowsSource s (end_at (length p.nodes + k) 0) node

-- how many steps a run of a net has at most, if a certificate of its plan has these steps. Between two steps of the
-- process machine each node may notice four offers, see four outputs to be over, and go back to a process that was
-- interrupted
abbrev pub most_steps : Plan → List ProcessStep → ℕ
most_steps p steps = suc (length steps) * suc (9 * node_count p)

-- the messages that came in at an end are the first of those that its wire hands over in the certificate
pub record HasCarried (p : Plan) (steps : List ProcessStep) (e : End) (notes : List Note) : Type 0 where
  pub first : List Store
  pub others : List Store
  pub all : first ++ others ≡ handed p e steps
  pub known : AreKnownAs first (arrived e notes)

-- what is told of a configuration to which these steps lead, and of what they tell: they are no more than the
-- certificate allows, each wire has carried the first messages that it carries in the certificate, and no node is
-- frozen or has halted. Where no step is lawful, it has carried all of them, and memories and sinks are as in the
-- certified end
pub record IsTold (p : Plan) (steps : List ProcessStep) (end : Place → Value) (c : Configuration) (taken : List Step)
    (notes : List Note) : Type 0 where
  pub seen : IsSeen p c
  pub bounded : length taken ≤ most_steps p steps
  pub working : NoneFrozen c
  pub running : NoneHalted c
  pub carried : (e : End) → HasCarried p steps e notes
  pub ends : IsAtEnd c → Shows p c end
  pub memories : IsAtEnd c → HasKnownBytes p c end
  pub messages : IsAtEnd c → HasKnownMessages p c end
  pub carried_all : IsAtEnd c → (e : End) → AreKnownAs (handed p e steps) (arrived e notes)

-- of each configuration to which a run of the net leads this is told, if the plan has a certificate
abbrev pub CertificatesTellOfTheNet : Type 0
CertificatesTellOfTheNet =
    (p : Plan) (steps : List ProcessStep) (end : Place → Value) → fault_of p ≡ None → ArePlanWords p
    → IsCertificate p steps end
    → (c : Configuration) (taken : List Step) (notes : List Note) → IsRun (opening_configuration p) taken notes c
    → IsTold p steps end c taken notes
