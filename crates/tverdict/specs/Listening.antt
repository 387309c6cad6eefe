-- A process that listens to the input of a link.
-- Source: own choice.
use Rattle.std.specs.Prelude.{ℕ, ◌≡◌, false, List, Option, Some, None, slice_get}
use Rattle.tplan.specs.declared.plan.End.{End}
use Rattle.tcertify.specs.declared.context.Context.{Context}
use Rattle.tcertify.specs.declared.node.Node.{Node}
use Rattle.tcertify.specs.declared.process.Process.{Process}
use Rattle.tcertify.specs.declared.standing.Stand.{Stand}
use Rattle.tcertify.specs.declared.standing.Stand.TheVariants as stand
use Rattle.tcertify.specs.Standing.{stand_of}
use Rattle.tfollow.specs.Sites.{is_listening}

-- a process that stands there listens to the input of the link that this channel names
abbrev pub IsListening : (channel : ℕ) → Stand → Type 0
IsListening channel s = (context : Context) × (s ≡ stand.Listens channel context)

-- the process of this number of a node does
pub record ListensAt (nodes : List Node) (n k channel : ℕ) : Type 0 where
  pub node : Node
  pub there : slice_get nodes n ≡ Some node
  pub known : Process
  pub has : slice_get node.processes.items.items k ≡ Some known
  pub listens : IsListening channel known.stand

-- or it does not
abbrev pub ListensNowhere : List Node → (n k : ℕ) → Type 0
ListensNowhere nodes n k =
    (node : Node) (known : Process) → slice_get nodes n ≡ Some node
    → slice_get node.processes.items.items k ≡ Some known → is_listening (stand_of known.stand) ≡ false

-- the node of an end, or else this one
abbrev pub far_node : (node : ℕ) → Option End → ℕ
far_node node (Some far) = far.node
far_node node None = node
