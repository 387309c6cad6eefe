-- The steps of agents at the nodes that a plan has.
use Rattle.std.proofs.Common.{◌≡◌, ℕ, refl, ap, ◌∙◌, false, Option, Some, None, slice_get, true≢false}
use Rattle.tplan.specs.declared.plan.End.{End}
use Rattle.tplan.specs.declared.plan.NodePlan.{NodePlan}
use Rattle.tplan.specs.declared.plan.Plan.{Plan}
use Rattle.tprocesses.specs.Places.{Name, Standing}
use Rattle.tprocesses.specs.Values.{Stand, Absent, Rests, Runs, Waits, Chooses, Chosen, Listens, Ended, stand_in}
use Rattle.tprocesses.specs.Parts.{Part, stopping, see, HasNoStep, ◌>>=◌}
use Rattle.tprocesses.specs.Touching.{Site}
use Rattle.tprocesses.specs.ChannelMessages.{channel_step}
use Rattle.tprocesses.specs.LinkMessages.{node_sends, node_receives}
use Rattle.tprocesses.specs.Scheduling.{successor_step}
use Rattle.tprocesses.specs.Machine.{Role, site_of, at_site, process_step, stepped, sends, receives, passes}
use Rattle.tfollow.specs.Sites.{StepsAreAtSites, is_listening}

at-node : {A : Type 0} (plan : Plan) (n : ℕ) (node : NodePlan) (step : Site → Part A)
    → slice_get plan.nodes n ≡ Some node → at_site plan n step ≡ step (site_of n node)
at-node plan n node step h =
    ap (λ (t : Option NodePlan). elim t [ Some x ↦ step (site_of n x) | None ↦ stopping HasNoStep ]) h

-- a process that does not listen
steps-alone : (plan : Plan) (x : Name) (stood : Stand) (s : Site) → is_listening stood ≡ false
    → stepped plan x stood s ≡ process_step x stood s
steps-alone plan x Absent s h = refl
steps-alone plan x (Rests c) s h = refl
steps-alone plan x (Runs c) s h = refl
steps-alone plan x (Waits c) s h = refl
steps-alone plan x (Chooses c) s h = refl
steps-alone plan x (Chosen c) s h = refl
steps-alone plan x (Listens channel c) s h = absurd (true≢false h)
steps-alone plan x Ended s h = refl

pub steps_are_at_sites : StepsAreAtSites
steps_are_at_sites plan =
    record {
      process = λ x node h i. see (Standing x)
          >>= (λ stood. at-node plan x.node node (stepped plan x (stand_in stood)) h i);
      listening = λ x channel c s. refl;
      alone = steps-alone plan;
      channel = λ n c node h. at-node plan n node (channel_step c) h;
      successor = λ n k node h. at-node plan n node (successor_step k) h;
      wire = λ e f h. ap (λ (t : Option End). passes plan t e) h;
      from_node = λ f node role h. ap (λ (r : Role). sends plan r f) role
          ∙ at-node plan f.node node (node_sends f) h;
      from_source = λ f role. ap (λ (r : Role). sends plan r f) role;
      to_node = λ e node message role h. ap (λ (r : Role). receives plan r e message) role
          ∙ at-node plan e.node node (node_receives message e) h;
      to_sink = λ e message role. ap (λ (r : Role). receives plan r e message) role;
    }
