-- A source or a sink does no run.
use Rattle.std.proofs.Common.{◌≡◌, ℕ, zero, suc, refl, sym, ap, ◌∙◌, subst, List, [], ◌∷◌, true, false}
use Rattle.std.proofs.Common.{Option, Some, None, Err}
use Rattle.std.specs.Prelude.{◌≢◌, All, slice_get}
use Rattle.std.proofs.lemmas.List.Elements.{All-set, All-weaker}
use Rattle.std.proofs.lemmas.Option.{same_Some, slice_get_within, get_or_from_slice_get}
use Rattle.tlink.specs.declared.event.NodeEvent.TheVariants.{Run}
use Rattle.tlink.specs.declared.event.StepFault.TheVariants.{NotEnabled}
use Rattle.tlink.specs.Roles.{Role, Processor, Source, Sink}
use Rattle.tlink.specs.Node.{NodeState}
use Rattle.tlink.specs.Events.{happens, is_node_done, is_node_enabled}
use Rattle.tlink.specs.Whole.{IsWhole}
use Rattle.tlink.proofs.Alone.{sources_send_alone, sinks_take_alone}
use Rattle.tlink.proofs.Whole.{stays_whole}
use Rattle.tnet.specs.Sound.{IsSoundNode}
use Rattle.tfree.specs.declared.stamp.OwnEvent.{OwnEvent}
use Rattle.tfree.specs.Kept.{after_own, nodes_after}
use Rattle.tfree.specs.Scripts.{ScriptsRunNothing}
use Rattle.tfree.specs.Turns.{Times, Does, IsEnabled}
use Rattle.tfree.specs.Views.{Share}

whole_at : (nodes : List NodeState) (n : ℕ) (node : NodeState) → All IsWhole nodes → slice_get nodes n ≡ Some node
    → IsWhole node
whole_at nodes n node all h =
    subst IsWhole (get_or_from_slice_get nodes n node node h) (all n node (slice_get_within nodes n node h))

-- nodes stay whole
whole_after : (nodes : List NodeState) (d : OwnEvent) → All IsWhole nodes → All IsWhole (after_own nodes d)
whole_after nodes d all = by (slice_get nodes d.node) refl
  where
    by : (o : Option NodeState) → slice_get nodes d.node ≡ o → All IsWhole (after_own nodes d)
    by None h = rw h all
    by (Some node) h =
        rw h
        (All-set IsWhole nodes d.node _ (stays_whole d.event node (whole_at nodes d.node node all h)) all)

all_whole : (nodes : List NodeState) (ds : List OwnEvent) → All IsWhole nodes → All IsWhole (nodes_after nodes ds)
all_whole nodes [] all = all
all_whole nodes (d ∷ ds) all = all_whole (after_own nodes d) ds (whole_after nodes d all)

-- no run of a script is enabled
no_run : (node : NodeState) → IsWhole node → node.role ≢ Processor → happens Run node ≡ Err NotEnabled
no_run node whole other = by node.role refl
  where
    by : (role : Role) → node.role ≡ role → happens Run node ≡ Err NotEnabled
    by Processor h = absurd (other h)
    by (Source done rest) h = sources_send_alone node done rest Run whole h (λ e. cc) (λ e. cc)
    by (Sink kept) h = sinks_take_alone node kept Run whole h (λ byte last e. cc) (λ e. cc)

-- so none is done
none_done : (s : Share) (n k : ℕ) (es es' : List OwnEvent) (node : NodeState)
    → slice_get (nodes_after s.opened.nodes es) n ≡ Some node → happens Run node ≡ Err NotEnabled
    → Times k (Does s n Run) es es' → es' ≡ es
none_done s n zero es es' node there idle h = h
none_done s n (suc k) es es' node there idle h =
    let e : h.0 ≡ es = none_done s n k es h.0 node there idle h.1 in
    let on : IsEnabled s n Run es = subst (IsEnabled s n Run) e h.2.enabled in
    let same : on.0 ≡ node = same_Some _ _ (sym on.1 ∙ there) in
    let f : false ≡ true =
    sym (ap is_node_done idle) ∙ ap (is_node_enabled Run) (sym same) ∙ on.2 in
    cc

pub scripts_run_nothing : ScriptsRunNothing
scripts_run_nothing s slice n whole es es' node sound there other h =
    none_done s n h.0 es es' node there
    (no_run node (whole_at (nodes_after s.opened.nodes es) n node (all_whole s.opened.nodes es nodes) there) other) h.2
  where
    nodes : All IsWhole s.opened.nodes
    nodes = All-weaker IsSoundNode IsWhole (λ m k. k.whole) s.opened.nodes sound.nodes
