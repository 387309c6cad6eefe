-- The net whose nodes are those of a plan.
use Rattle.std.proofs.Common.{◌≡◌, ◌≢◌, ℕ, ◌≤◌, refl, sym, ap, ◌∙◌, subst, List, ◌++◌, length, map, replicate}
use Rattle.std.proofs.Common.{false, Option}
use Rattle.std.proofs.Common.{Some, None, Result, Ok, Err, All, arith}
use Rattle.std.specs.Prelude.{position}
use Rattle.std.specs.List.{list_any}
use Rattle.std.proofs.lemmas.List.{append_assoc}
use Rattle.std.proofs.lemmas.List.Elements.{All-append}
use Rattle.tword.specs.declared.breaks.Break.{Break}
use Rattle.tlink.specs.Node.{NodeState, fresh_source, fresh_sink}
use Rattle.tplan.specs.declared.plan.Wire.{Wire}
use Rattle.tplan.specs.declared.plan.Plan.{Plan}
use Rattle.tplan.specs.declared.plan.BuildFault.{BuildFault}
use Rattle.tplan.specs.declared.plan.BuildFault.TheVariants.{OutOfMemory, BadProcess, BadCapacity}
use Rattle.tnet.specs.declared.inbox.Inbox.{Inbox}
use Rattle.tplan.specs.Wires.{same_end}
use Rattle.tnet.specs.Net.{NetState, empty_inbox}
use Rattle.tnet.specs.Sound.{IsSound, IsSoundNode, IsEnd}
use Rattle.tnet.specs.Building.{AreBytes, has_too_many, IsFaultOf, AreBuildable, AreOpened, IsWellFormed, is_bad_size}
use Rattle.tnet.specs.Building.{is_bad_end}
use Rattle.tnet.specs.Building.{bad_segment, bad_process, refused_process, late_fault, fault_of, opening_net, built}
use Rattle.tplan.specs.Wires.{all_wires}
use Rattle.tnet.specs.Building.{machines_of, named_ends, node_count, is_bad_capacity}
use Rattle.tnet.specs.Building.{fresh_nodes, fresh_scripts, IsOpening}
use Rattle.tnet.proofs.OpenedPlans.{IsFaultless, HasGoodWires, mapped-none}
use Rattle.tnet.proofs.FirstFaults.{no_position, no_fault}
use Rattle.tnet.proofs.PlannedWires.{few_of, few_messages}
use Rattle.tnet.proofs.ScriptWires.{all_are_wires}
use Rattle.tnet.proofs.OpenedScripts.{scripts_sound}
use Rattle.tnet.proofs.OpenedNets.{sound_opening, nodes_count}

-- the nodes of a well formed plan can be built
pub buildable : (p : Plan) → IsWellFormed p → AreBuildable p.timeslice p.nodes
buildable p form =
    record {
      few = omega (arith, (few_of p form.few).0);
      sizes = no_position is_bad_size p.nodes form.sizes;
      timeslice = form.timeslice;
      segments = no_fault bad_segment p.nodes form.segments;
    }

pub few_sources : (p : Plan) → IsWellFormed p → list_any has_too_many p.sources ≡ false
few_sources p form = few_messages p form.few

good_wires : (p : Plan) → IsWellFormed p → HasGoodWires p
good_wires p form =
    record {
      ends = no_position (list_any (is_bad_end (length p.nodes))) (named_ends p) form.ends;
      apart = no_position (λ w. same_end w.a w.b) p.wires form.apart;
      once = form.once;
    }

-- each wire joins links of nodes
pub good_ends : (p : Plan) → IsWellFormed p
    → All (λ w. IsEnd (node_count p) w.a × IsEnd (node_count p) w.b) (all_wires p)
good_ends p form = (all_are_wires p (good_wires p form)).ends

faultless_of : (p : Plan) → IsWellFormed p → refused_process p.timeslice p.nodes ≡ None → IsFaultless p
faultless_of p form added =
    record {
      few = form.few;
      sizes = no_position is_bad_size p.nodes form.sizes;
      wires = good_wires p form;
      segments = no_fault bad_segment p.nodes form.segments;
      processes =
          no_fault (bad_process p.timeslice) p.nodes
          (mapped-none (λ (f : ℕ × (ℕ × Break)). BadProcess f.0 f.1.0 f.1.1) _ added);
    }

-- a bad capacity is the fault of a plan, where no process is refused
pub capacity_fails : (p : Plan) (sink : ℕ) → refused_process p.timeslice p.nodes ≡ None
    → Some sink ≡ position is_bad_capacity p.sinks → IsFaultOf (late_fault p) (BadCapacity sink)
capacity_fails p sink added found other = rw (added, ← found) refl

pub none_found : {X : Type 0} (o : Option X) → ((x : X) → o ≡ Some x → ⊥) → o ≡ None
none_found None h = refl
none_found (Some x) h = absurd (h x refl)

-- the processors of a plan, and its scripts behind them
module _ (p : Plan) (first second nodes : List NodeState) (form : IsWellFormed p)
    (are : AreOpened p.timeslice (all_wires p) p.nodes first)
    (sources : second ≡ first ++ map (λ s. fresh_source s.messages) p.sources)
    (sinks : nodes ≡ second ++ map (λ s. fresh_sink s.capacity) p.sinks) where
  opens : nodes ≡ (opening_net p).nodes
  unfolding machines_of
  opens =
      sinks ∙ ap (λ (ns : List NodeState). ns ++ map (λ s. fresh_sink s.capacity) p.sinks) sources
      ∙ append_assoc first (map (λ s. fresh_source s.messages) p.sources) (map (λ s. fresh_sink s.capacity) p.sinks)
      ∙ ap (λ (ns : List NodeState). ns ++ fresh_scripts p) are.opened

  count : length nodes ≡ node_count p
  count = ap (λ (ns : List NodeState). length ns) opens ∙ nodes_count p

  pub few_opened : length nodes ≤ 64
  few_opened = omega (arith, count, (few_of p form.few).0)

  good : IsFaultless p
  good = faultless_of p form are.added

  all_sound : All (λ s. All AreBytes s.messages) p.sources → All IsSoundNode (opening_net p).nodes
  unfolding machines_of
  all_sound bytes =
      All-append IsSoundNode (fresh_nodes (all_wires p) 0 (machines_of p)) (fresh_scripts p)
      (subst (All IsSoundNode) are.opened are.sound) (scripts_sound p (few_messages p form.few) bytes)

  -- the net of these nodes is that of the plan, and sound
  pub net_opened : (wires : List Wire) (boxes : List (List Inbox))
      → None ≡ position is_bad_capacity p.sinks → All (λ s. All AreBytes s.messages) p.sources
      → wires ≡ all_wires p → boxes ≡ replicate (length nodes) (replicate 4 empty_inbox)
      → IsOpening p (record { nodes = nodes; wires = wires; inboxes = boxes })
  net_opened wires boxes capacities bytes same empty =
      let all_empty : boxes ≡ replicate (node_count p) (replicate 4 empty_inbox) =
      empty ∙ ap (λ (n : ℕ). replicate n (replicate 4 empty_inbox)) count in
      let net_is : record { nodes = nodes; wires = wires; inboxes = boxes } ≡ opening_net p =
      ap (λ (ns : List NodeState). record { nodes = ns; wires = wires; inboxes = boxes }) opens
      ∙ ap (λ (ws : List Wire). record { nodes = (opening_net p).nodes; wires = ws; inboxes = boxes }) same
      ∙ ap (λ (bs : List (List Inbox)). record { nodes = (opening_net p).nodes; wires = all_wires p; inboxes = bs })
      all_empty in
      record {
        is = net_is;
        sound = subst IsSound (sym net_is) (sound_opening p good (all_sound bytes));
        no_fault = rw (are.added, ← capacities) refl;
      }

-- a well formed plan has no fault but those that show while it is built
fault_left : (p : Plan) → IsWellFormed p → fault_of p ≡ late_fault p
unfolding fault_of
fault_left p form = rw (form.few, form.sizes, form.timeslice, form.ends, form.apart, form.once, form.segments) refl

pub net_built : (p : Plan) (net : NetState) → IsWellFormed p → net ≡ opening_net p → late_fault p ≡ None
    → Ok net ≡ built p
net_built p net form is none = rw (is, fault_left p form, none) refl

pub net_refused : (p : Plan) (r : Result NetState BuildFault) (fault : BuildFault) → IsWellFormed p → r ≡ Err fault
    → IsFaultOf (late_fault p) fault → r ≢ Err OutOfMemory → r ≡ built p
net_refused p r fault form is told other =
    let some : late_fault p ≡ Some fault = told (λ e. other (is ∙ ap Err e)) in
    rw (is, fault_left p form, some) refl
