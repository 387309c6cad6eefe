-- The steps of agents at the nodes that a plan has.
-- Source: own choice.
use Rattle.std.specs.Prelude.{ℕ, ◌≡◌, Bool, true, false, Some, slice_get}
use Rattle.tword.specs.Stores.{Store}
use Rattle.tplan.specs.declared.plan.End.{End}
use Rattle.tplan.specs.declared.plan.NodePlan.{NodePlan}
use Rattle.tplan.specs.declared.plan.Plan.{Plan}
use Rattle.tprocesses.specs.Places.{Name, Standing}
use Rattle.tprocesses.specs.Values.{Context, Stand, Listens, stand_in}
use Rattle.tprocesses.specs.Parts.{see, ◌>>=◌}
use Rattle.tprocesses.specs.ChannelMessages.{channel_step}
use Rattle.tprocesses.specs.LinkMessages.{node_sends, source_sends, node_receives, sink_receives}
use Rattle.tprocesses.specs.Scheduling.{successor_step}
use Rattle.tprocesses.specs.Touching.{Site}
use Rattle.tprocesses.specs.Machine.{Process, Channel, Wire, Successor, Processor, Source, Sink, role_at, site_of}
use Rattle.tprocesses.specs.Machine.{sender_to, process_step, stepped, listens, sends, receives, passes, step_of}

-- a process that stands there listens
abbrev pub is_listening : Stand → Bool
is_listening (Listens channel c) = true
is_listening _ = false

-- what the step of each agent is
pub record AreAtSites (plan : Plan) : Type 0 where
  pub process : (x : Name) (node : NodePlan) → slice_get plan.nodes x.node ≡ Some node
      → step_of plan (Process x)
      ≡ (see (Standing x) >>= (λ stood. stepped plan x (stand_in stood) (site_of x.node node)))
  -- the step of a process that listens looks at the far end of its link, that of another one is at its node alone
  pub listening : (x : Name) (channel : ℕ) (c : Context) (s : Site)
      → stepped plan x (Listens channel c) s ≡ listens plan x channel c s
  pub alone : (x : Name) (stood : Stand) (s : Site) → is_listening stood ≡ false
      → stepped plan x stood s ≡ process_step x stood s
  pub channel : (n c : ℕ) (node : NodePlan) → slice_get plan.nodes n ≡ Some node
      → step_of plan (Channel n c) ≡ channel_step c (site_of n node)
  pub successor : (n k : ℕ) (node : NodePlan) → slice_get plan.nodes n ≡ Some node
      → step_of plan (Successor n k) ≡ successor_step k (site_of n node)
  pub wire : (e f : End) → sender_to plan e ≡ Some f → step_of plan (Wire e) ≡ passes plan (Some f) e
  -- the two halves of a wire's step
  pub from_node : (f : End) (node : NodePlan) → role_at plan f.node ≡ Processor
      → slice_get plan.nodes f.node ≡ Some node
      → sends plan (role_at plan f.node) f ≡ node_sends f (site_of f.node node)
  pub from_source : (f : End) → role_at plan f.node ≡ Source → sends plan (role_at plan f.node) f ≡ source_sends f
  pub to_node : (e : End) (node : NodePlan) (message : Store) → role_at plan e.node ≡ Processor
      → slice_get plan.nodes e.node ≡ Some node
      → receives plan (role_at plan e.node) e message ≡ node_receives message e (site_of e.node node)
  pub to_sink : (e : End) (message : Store) → role_at plan e.node ≡ Sink
      → receives plan (role_at plan e.node) e message ≡ sink_receives message e

abbrev pub StepsAreAtSites : Type 0
StepsAreAtSites = (plan : Plan) → AreAtSites plan
