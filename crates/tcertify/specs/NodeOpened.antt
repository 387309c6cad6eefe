-- A node before the first step, and before its processes come.
-- Source: own choice, the opening of `tprocesses` at one node.
use Rattle.std.specs.Prelude.{ℕ, ◌≡◌, List, [], Some, false, slice_get}
use Rattle.tword.specs.declared.breaks.Break.TheVariants.{AlreadyLive}
use Rattle.tproc.specs.Machine.{workspace_of}
use Rattle.tplan.specs.declared.plan.NodePlan.{NodePlan}
use Rattle.tplan.specs.declared.plan.Plan.{Plan}
use Rattle.tplan.specs.declared.plan.Process.{Process}
use Rattle.tprocesses.specs.Opening.{opening_state}
use Rattle.tcertify.specs.declared.fault.Fault.{Fault}
use Rattle.tcertify.specs.declared.fault.Fault.TheVariants as fault
use Rattle.tcertify.specs.declared.node.Node.{Node}
use Rattle.tcertify.specs.declared.stop.Stop.TheVariants as stop
use Rattle.tcertify.specs.Channels.{AreEmpty}
use Rattle.tcertify.specs.Finding.{AreApart}
use Rattle.tcertify.specs.Nodes.{node_at, node_site, NumbersNode}
use Rattle.tcertify.specs.Notes.{Numbering, NumbersWords}
use Rattle.tcertify.specs.Opened.{AreOpened, planned_site}

-- a node has its loaded memory, whose words have their places from this first one on, and no process, channel or flag
pub record HasNothing (plan : NodePlan) (k from : ℕ) (n : Node) : Type 0 where
  pub site : node_site n ≡ planned_site plan k
  pub first : n.words.first_place ≡ from
  pub words : AreOpened plan n.words.items.items
  pub processes : n.processes.items.items ≡ []
  pub channels : n.channels.items.items ≡ []
  pub links : AreEmpty n.links
  pub lives : n.lives.items.items ≡ []
  pub error : n.error ≡ false
  pub halt_on_error : n.halt_on_error ≡ false
  pub flag_changed : n.is_flag_changed ≡ false
  pub has_run_high : n.has_run_high ≡ false
  pub has_run_low : n.has_run_low ≡ false
  pub population : n.population ≡ 0

-- each of some processes has a workspace of its own
abbrev pub HaveOwnWorkspaces : List Process → Type 0
HaveOwnWorkspaces = AreApart (λ q. workspace_of q.wdesc)

-- a node is as the opening of each plan says that has it under this number; nothing is noted. Its words have their
-- places from this first one on
pub record IsOpen (plan : NodePlan) (k from : ℕ) (n : Node) : Type 0 where
  pub site : node_site n ≡ planned_site plan k
  pub first : (numbering : Numbering) → NumbersNode numbering n → NumbersWords numbering k from
  pub opens : (p : Plan) → slice_get p.nodes k ≡ Some plan → node_at n (opening_state p) ≡ opening_state p
  pub notes : n.words.notes.items.items ≡ []
  pub none : n.words.notes.is_lost ≡ false
  pub leads : n.leads.items ≡ []
  pub own : HaveOwnWorkspaces plan.image.processes

-- why a node does not open: memory is out, or two processes of the image have one workspace
abbrev pub IsOpeningFault : NodePlan → Fault → Type 0
IsOpeningFault plan fault.OutOfMemory = Unit {0}
IsOpeningFault plan (fault.Stops why) =
    (why ≡ stop.Breaks AlreadyLive) × (HaveOwnWorkspaces plan.image.processes → ⊥)
