-- All nodes of a plan without a fault are steady before the first step.
use Rattle.std.proofs.Common.{◌≡◌, ℕ, ◌<◌, refl, subst, List, [], ◌∷◌, map, All, get_or, Some, replicate, arith}
use Rattle.std.specs.Prelude.{slice_get}
use Rattle.std.specs.List.{concat}
use Rattle.std.proofs.lemmas.List.Elements.{All-append, All-map, All-weaker, All-replicate, All-nil, All-head}
use Rattle.std.proofs.lemmas.List.Elements.{All-tail}
use Rattle.std.proofs.lemmas.Option.{slice_get-get_or, slice_get_within, get_or_from_slice_get}
use Rattle.tword.specs.Stores.{HoldsBytes}
use Rattle.tword.specs.Claims.{is_input}
use Rattle.tword.specs.Touches.{byte_span}
use Rattle.tword.specs.Words.{most_neg}
use Rattle.tword.proofs.EachCell.{IsCell, all-as_cells}
use Rattle.tlink.specs.Roles.{Processor, Source, Sink}
use Rattle.tlink.specs.Node.{NodeState, fresh_source, fresh_sink}
use Rattle.tlink.specs.Scripts.{AreBytes}
use Rattle.tplan.specs.declared.plan.NodePlan.{NodePlan}
use Rattle.tplan.specs.declared.plan.SourcePlan.{SourcePlan}
use Rattle.tplan.specs.declared.plan.SinkPlan.{SinkPlan}
use Rattle.tproc.specs.Machine.{claims_of}
use Rattle.tnet.specs.Building.{machines_of, opened_machine, opening_node, opening_configuration, fresh_scripts}
use Rattle.tnet.specs.Rendezvous.{Node}
use Rattle.tproc.proofs.Scripted.{hidden_again}
use Rattle.tseen.specs.Steps.{IsSteady, IsSteadyNode, OpeningNodesAreSteady}
use Rattle.tseen.proofs.OpenedScripts.{processor_there, seen}
use Rattle.tseen.proofs.Steady.{hiding_holds, opening_is_steady}

-- the bytes of messages one behind another
all_joined : (messages : List (List ℕ)) → All AreBytes messages → AreBytes (concat messages)
all_joined [] h = All-nil (λ b. b < 256)
all_joined (m ∷ ms) h =
    All-append (λ b. b < 256) m (concat ms) (All-head AreBytes m ms h) (all_joined ms (All-tail AreBytes m ms h))

-- a script
script_steady : (n : NodeState) → HoldsBytes n.machine.store → (n.role ≡ Processor → ⊥) → IsSteadyNode (seen n)
script_steady n bytes other =
    record {
      bytes = hiding_holds (λ a. is_input (claims_of n.machine.control) (byte_span a)) most_neg n.machine.store bytes;
      copied = refl;
      hides = hidden_again n.machine;
      steady = λ h. absurd (other h);
    }

source_steady : (messages : List (List ℕ)) → All AreBytes messages → IsSteadyNode (seen (fresh_source messages))
source_steady messages h =
    script_steady (fresh_source messages)
    (all-as_cells IsCell (λ b h. h) (concat messages) (all_joined messages h)) differ
  where
    differ : {a b : List ℕ} → Source a b ≡ Processor → ⊥
    differ e = cc

sink_steady : (capacity : ℕ) → IsSteadyNode (seen (fresh_sink capacity))
sink_steady capacity =
    script_steady (fresh_sink capacity)
    (all-as_cells IsCell (λ b h. h) (replicate capacity 0)
    (All-replicate (λ b. b < 256) capacity 0 (omega arith))) differ
  where
    differ : {a : List ℕ} → Sink a ≡ Processor → ⊥
    differ e = cc

-- all of them
pub opening_nodes_are_steady : OpeningNodesAreSteady
unfolding machines_of
opening_nodes_are_steady p none words n node here =
    subst IsSteadyNode (get_or_from_slice_get nodes n node node here)
    (all n node (slice_get_within nodes n node here))
  where
    nodes : List Node
    nodes = (opening_configuration p).nodes

    processor : (k : ℕ) (plan : NodePlan) → slice_get p.nodes k ≡ Some plan
        → IsSteadyNode (opening_node Processor (opened_machine p.timeslice plan))
    processor k plan at =
        let steady : IsSteady (opening_node Processor (opened_machine p.timeslice plan)) =
        opening_is_steady p none words k plan _ at (processor_there p k plan at) in
        record { bytes = steady.placed.bytes; copied = refl; hides = steady.hides; steady = λ h. steady }

    processors : All IsSteadyNode (map (opening_node Processor) (machines_of p))
    processors =
        All-map IsSteadyNode (opening_node Processor) (machines_of p)
        (All-map (λ m. IsSteadyNode (opening_node Processor m)) (opened_machine p.timeslice) p.nodes
        (λ k d b. processor k (get_or p.nodes k d) (slice_get-get_or p.nodes k d b)))

    scripts : All IsSteadyNode (map seen (fresh_scripts p))
    scripts =
        All-map IsSteadyNode seen (fresh_scripts p)
        (All-append (λ x. IsSteadyNode (seen x)) (map (λ (s : SourcePlan). fresh_source s.messages) p.sources)
        (map (λ (s : SinkPlan). fresh_sink s.capacity) p.sinks)
        (All-map (λ x. IsSteadyNode (seen x)) (λ (s : SourcePlan). fresh_source s.messages) p.sources
        (All-weaker (λ (s : SourcePlan). All AreBytes s.messages)
        (λ (s : SourcePlan). IsSteadyNode (seen (fresh_source s.messages)))
        (λ s h. source_steady s.messages h) p.sources
        words.messages))
        (All-map (λ x. IsSteadyNode (seen x)) (λ (s : SinkPlan). fresh_sink s.capacity) p.sinks
        (λ k d b. sink_steady (get_or p.sinks k d).capacity)))

    all : All IsSteadyNode nodes
    all =
        All-append IsSteadyNode (map (opening_node Processor) (machines_of p)) (map seen (fresh_scripts p)) processors
        scripts
