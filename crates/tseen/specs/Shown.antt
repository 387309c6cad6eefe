-- What a state of the process machine of a plan tells of a configuration of its rendezvous machine.
-- Source: own choice.
use Rattle.std.specs.Prelude.{ℕ, ◌≡◌, ◌+◌, ◌*◌, ◌<◌, ◌≤◌, pos, true, false, length, Option, Some, None, slice_get}
use Rattle.tlink.specs.Roles.{Processor}
use Rattle.tplan.specs.declared.plan.End.{End}
use Rattle.tplan.specs.declared.plan.NodePlan.{NodePlan}
use Rattle.tplan.specs.declared.plan.SourcePlan.{SourcePlan}
use Rattle.tplan.specs.declared.plan.SinkPlan.{SinkPlan}
use Rattle.tplan.specs.declared.plan.Plan.{Plan}
use Rattle.tplan.specs.Wires.{all_wires}
use Rattle.tnet.specs.Building.{fault_of, opening_configuration, ArePlanWords}
use Rattle.tnet.specs.Rendezvous.{Node, Configuration, node_of}
use Rattle.tplan.specs.Wires.{end_at}
use Rattle.std.specs.Int.{w32, from_le_bytes}
use Rattle.tword.specs.Stores.{shown, word_at}
use Rattle.tprocesses.specs.Changes.{are_known}
use Rattle.tword.specs.Words.{most_neg}
use Rattle.tword.specs.Touches.{Reads, Writes, word_span, claim_break}
use Rattle.tproc.specs.Machine.{claims_of}
use Rattle.tproc.specs.Placement.{IsPlaced}
use Rattle.tproc.specs.LinkChannels.{link_end}
use Rattle.tprocesses.specs.Places.{Place, Name, WordAt, Sending, Standing}
use Rattle.tprocesses.specs.Values.{Value, Absent, Free, IsStand, word_in, amount_in}
use Rattle.tprocesses.specs.Machine.{is_passable, offer_place, role_at, sender_to}
use Rattle.tprocesses.specs.Opening.{opening_state}
use Rattle.tseen.specs.Seats.{Seat}
use Rattle.tseen.specs.Outputs.{Pending}
use Rattle.tseen.specs.Words.{AreMarked, ShowsStore}
use Rattle.tseen.specs.Halves.{ShowsChannels, ShowsLink}
use Rattle.tseen.specs.Processes.{ShowsProcesses}
use Rattle.tseen.specs.Choices.{ShowsChoices}
use Rattle.tseen.specs.Scripts.{ShowsSource, ShowsSink}

-- a node that is a processor
pub record ShowsNode (s : Place → Value) (n : ℕ) (plan : NodePlan) (named : Seat → Name) (sent : ℕ → Option Pending)
    (node : Node) : Type 0 where
  pub role : node.role ≡ Processor
  pub works : node.broken ≡ None
  pub runs_on : node.machine.control.halted ≡ false
  pub size : length node.machine.store ≡ plan.memory
  pub kind : node.machine.control.kind ≡ plan.kind
  pub store : ShowsStore s n node.machine.store plan.memory
  pub marks : AreMarked s n sent node.machine.control
  pub channels : ShowsChannels s n named node.machine
  pub links : (l : ℕ) → l < 4 → ShowsLink s n named sent node l
  pub processes : ShowsProcesses s n named sent node
  pub choices : ShowsChoices s n node.machine.control.links node.machine.store

-- somebody sends to an end
pub record HasSender (p : Plan) (s : Place → Value) (e : End) : Type 0 where
  pub from : End
  pub joined : sender_to p e ≡ Some from
  pub sends : is_passable (offer_place (role_at p from.node) from) (s (offer_place (role_at p from.node) from)) ≡ true

-- the whole net. named: the name of the process at each seat of a node; sent: the outputs of its links that are not
-- over
pub record Shows (p : Plan) (c : Configuration) (s : Place → Value) : Type 0 where
  pub named : ℕ → Seat → Name
  pub sent : ℕ → ℕ → Option Pending
  pub wires : c.wires ≡ all_wires p
  pub processors : (n : ℕ) (plan : NodePlan) → slice_get p.nodes n ≡ Some plan
      → (node : Node) × (node_of c n ≡ Some node) × ShowsNode s n plan (named n) (sent n) node
  pub sources : (k : ℕ) (source : SourcePlan) → slice_get p.sources k ≡ Some source
      → (node : Node) × (node_of c (length p.nodes + k) ≡ Some node)
      × ShowsSource s (end_at (length p.nodes + k) 0) node
  pub sinks : (k : ℕ) (sink : SinkPlan) → slice_get p.sinks k ≡ Some sink
      → (node : Node) × (node_of c (length p.nodes + length p.sources + k) ≡ Some node)
      × ShowsSink s (end_at (length p.nodes + length p.sources + k) 0) node
  -- a byte that was noticed comes from somebody who sends
  pub noticed : (n l : ℕ) (plan : NodePlan) (node : Node) → slice_get p.nodes n ≡ Some plan
      → node_of c n ≡ Some node → (link_end node.machine.control l).noticed ≡ true → HasSender p s (end_at n l)
  -- no process is anywhere else
  pub nobody : (x : Name) → slice_get p.nodes x.node ≡ None → s (Standing x) ≡ IsStand Absent

-- the opening of each plan without a fault is shown
abbrev pub OpeningIsShown : Type 0
OpeningIsShown =
    (p : Plan) → fault_of p ≡ None → ArePlanWords p → Shows p (opening_configuration p) (opening_state p)

-- a word that is free in the process machine has no byte of a saved word or of a pending input: programs may read it
abbrev pub FreeWordsAreReadable : Type 0
FreeWordsAreReadable =
    (s : Place → Value) (n : ℕ) (plan : NodePlan) (named : Seat → Name) (sent : ℕ → Option Pending) (node : Node)
    → ShowsNode s n plan named sent node → IsPlaced node.machine → (k : ℕ)
    → (word_in (s (WordAt n k))).used ≡ Free
    → claim_break (claims_of node.machine.control) Reads (word_span (most_neg + 4 * k)) ≡ None

-- and if no pending output has a byte of it either, they may write it
abbrev pub UnsentWordsAreWritable : Type 0
UnsentWordsAreWritable =
    (s : Place → Value) (n : ℕ) (plan : NodePlan) (named : Seat → Name) (sent : ℕ → Option Pending) (node : Node)
    → ShowsNode s n plan named sent node → IsPlaced node.machine → (k : ℕ)
    → (word_in (s (WordAt n k))).used ≡ Free → amount_in (s (Sending n k)) ≡ pos 0
    → claim_break (claims_of node.machine.control) Writes (word_span (most_neg + 4 * k)) ≡ None

-- a word of the memory whose bytes are all known is the word that is there
abbrev pub KnownWordsAreThere : Type 0
KnownWordsAreThere =
    (s : Place → Value) (n : ℕ) (plan : NodePlan) (named : Seat → Name) (sent : ℕ → Option Pending) (node : Node)
    → ShowsNode s n plan named sent node → (k : ℕ) → 4 * k + 4 ≤ plan.memory
    → are_known (word_in (s (WordAt n k))).cells ≡ true
    → from_le_bytes w32 (shown (word_in (s (WordAt n k))).cells) ≡ word_at node.machine.store (most_neg + 4 * k)
