-- The nodes of a plan, one after another: those that are built so far, and the first process that is refused.
use Rattle.std.proofs.Common.{◌≡◌, ℕ, suc, ◌+◌, ◌<◌, ◌≤◌, refl, sym, ap, ◌∙◌, subst, List, [], ◌∷◌, ◌++◌, length}
use Rattle.std.proofs.Common.{get_or}
use Rattle.std.proofs.Common.{take, map, false, Option, Some, None, Result, Ok, Err, All, arith, add-one, add-zero}
use Rattle.std.proofs.Common.{zero-add}
use Rattle.std.specs.Prelude.{position, option_map}
use Rattle.std.proofs.lemmas.Bool.{ltb-false, or_parts}
use Rattle.std.proofs.Math.Seq.{take-suc}
use Rattle.std.proofs.lemmas.List.{append_assoc, map-append, length-map, length-take-le, take_all}
use Rattle.std.proofs.lemmas.List.Elements.{All-nil, All-cons, All-append, All-more}
use Rattle.tword.specs.declared.breaks.Break.{Break}
use Rattle.tproc.specs.Machine.{Machine}
use Rattle.tlink.specs.Node.{NodeState, fresh_node}
use Rattle.tplan.specs.declared.plan.Wire.{Wire}
use Rattle.tplan.specs.declared.plan.NodePlan.{NodePlan}
use Rattle.tplan.specs.declared.plan.BuildFault.{BuildFault}
use Rattle.tplan.specs.declared.plan.BuildFault.TheVariants.{BadProcess}
use Rattle.tplan.specs.declared.plan.SinkPlan.{SinkPlan}
use Rattle.tnet.specs.Sound.{IsSoundNode}
use Rattle.tnet.specs.Building.{AreBuildable, AreOpened, is_bad_size, bad_segment, IsOpened, IsFaultOf}
use Rattle.tnet.specs.Building.{built_machine, bad_process, node_fault, first_with_fault, loaded_machine, or_loaded}
use Rattle.tnet.specs.Building.{is_bad_capacity, wired_links, fresh_nodes, opened_machine}
use Rattle.tnet.proofs.FirstFaults.{no_position, none_faulty, first_faulty}
use Rattle.tnet.proofs.OpenedNets.{length-fresh_nodes}

-- how far the building of nodes has come
pub record IsBuiltSoFar (timeslice : ℕ) (wires : List Wire) (plans : List NodePlan) (number : ℕ)
    (nodes : List NodeState) : Type 0 where
  pub opened : nodes ≡ fresh_nodes wires 0 (map (opened_machine timeslice) (take number plans))
  pub sound : All IsSoundNode nodes
  pub added : All (λ n. bad_process timeslice n ≡ None) (take number plans)

-- there are as many nodes as plans were gone through
pub as_many : (timeslice : ℕ) (wires : List Wire) (plans : List NodePlan) (number : ℕ) (nodes : List NodeState)
    → number ≤ length plans → IsBuiltSoFar timeslice wires plans number nodes → length nodes ≡ number
as_many timeslice wires plans number nodes within so_far =
    ap (λ (ns : List NodeState). length ns) so_far.opened
    ∙ length-fresh_nodes wires 0 (map (opened_machine timeslice) (take number plans))
    ∙ length-map (take number plans) (opened_machine timeslice) ∙ length-take-le number plans within

fresh_nodes-append : (wires : List Wire) (k : ℕ) (ms : List Machine) (m : Machine)
    → fresh_nodes wires k (ms ++ m ∷ []) ≡ fresh_nodes wires k ms ++ fresh_node m (wired_links wires (k + length ms))
    ∷ []
fresh_nodes-append wires k [] m = rw add-zero refl
fresh_nodes-append wires k (x ∷ ms) m =
    let e : k + length (x ∷ ms) ≡ suc k + length ms = omega arith in
    rw (fresh_nodes-append wires (suc k) ms m, e) refl

-- a node that was built refused no process
none_refused : (timeslice : ℕ) (n : NodePlan) (m : Machine) → built_machine timeslice n ≡ Ok m
    → bad_process timeslice n ≡ None
none_refused timeslice n m h =
    ap (λ (x : Result Machine (ℕ × Break)). elim x as (λ _. Option (ℕ × Break))
    [ Ok m ↦ None | Err fault ↦ Some fault ]) h

opened_is : (timeslice : ℕ) (n : NodePlan) (m : Machine) → built_machine timeslice n ≡ Ok m
    → opened_machine timeslice n ≡ m
opened_is timeslice n m h = ap (or_loaded (loaded_machine timeslice n)) h

-- the nodes with one more
next_nodes : (timeslice : ℕ) (wires : List Wire) (plans : List NodePlan) (number : ℕ) (plan : NodePlan)
    (node : NodeState)
    → number < length plans → plan ≡ get_or plans number plan → IsOpened timeslice wires number plan node
    → fresh_nodes wires 0 (map (opened_machine timeslice) (take (suc number) plans))
    ≡ fresh_nodes wires 0 (map (opened_machine timeslice) (take number plans)) ++ node ∷ []
next_nodes timeslice wires plans number plan node within read new =
    let before : List Machine = map (opened_machine timeslice) (take number plans) in
    let count : 0 + length before ≡ number = zero-add (length before)
    ∙ length-map (take number plans) (opened_machine timeslice) ∙ length-take-le number plans (omega arith) in
    let machine : opened_machine timeslice (get_or plans number plan) ≡ node.machine =
    ap (opened_machine timeslice) (sym read)
    ∙ opened_is timeslice plan node.machine new.built in
    ap (λ (ps : List NodePlan). fresh_nodes wires 0 (map (opened_machine timeslice) ps))
    (take-suc plans number plan within)
    ∙ ap (fresh_nodes wires 0) (map-append (opened_machine timeslice) (take number plans)
    (get_or plans number plan ∷ []))
    ∙ fresh_nodes-append wires 0 before (opened_machine timeslice (get_or plans number plan))
    ∙ ap (λ (m : Machine). fresh_nodes wires 0 before ++ fresh_node m (wired_links wires (0 + length before)) ∷ [])
    machine
    ∙ ap (λ (n : ℕ). fresh_nodes wires 0 before ++ fresh_node node.machine (wired_links wires n) ∷ []) count
    ∙ ap (λ (x : NodeState). fresh_nodes wires 0 before ++ x ∷ []) (sym new.fresh)

-- one more node
pub one_more_node : (timeslice : ℕ) (wires wires' : List Wire) (plans : List NodePlan) (number : ℕ) (plan : NodePlan)
    (nodes nodes' : List NodeState) (node : NodeState)
    → number < length plans → plan ≡ get_or plans number plan → IsBuiltSoFar timeslice wires plans number nodes
    → wires' ≡ wires → IsOpened timeslice wires' number plan node → nodes' ≡ nodes ++ node ∷ []
    → IsBuiltSoFar timeslice wires plans (number + 1) nodes'
one_more_node timeslice wires wires' plans number plan nodes nodes' node within read so_far same new' pushed =
    let new : IsOpened timeslice wires number plan node = rw same at new' in
    rw pushed (record {
      opened = rw add-one (ap (λ (ns : List NodeState). ns ++ node ∷ []) so_far.opened
          ∙ sym (next_nodes timeslice wires plans number plan node within read new));
      sound = All-append IsSoundNode nodes (node ∷ []) so_far.sound
          (All-cons IsSoundNode node [] new.sound (All-nil IsSoundNode));
      added = All-more (λ n. bad_process timeslice n ≡ None) plans number plan within so_far.added
          (rw (← read) (none_refused timeslice plan node.machine new.built));
    })

-- the next node refuses a process
pub node_fails : (timeslice : ℕ) (wires : List Wire) (all plans : List NodePlan) (number : ℕ) (plan : NodePlan)
    (nodes : List NodeState) (fault : BuildFault)
    → plans ≡ all → number < length plans → plan ≡ get_or plans number plan
    → IsBuiltSoFar timeslice wires plans number nodes → IsFaultOf (node_fault timeslice number plan) fault
    → IsFaultOf (option_map (λ f. BadProcess f.0 f.1.0 f.1.1) (first_with_fault (bad_process timeslice) all)) fault
node_fails timeslice wires all plans number plan nodes fault same within read so_far fails other =
    rw (← same) (by (bad_process timeslice plan) refl (fails other))
  where
    by : (o : Option (ℕ × Break)) → bad_process timeslice plan ≡ o
        → option_map (λ (f : ℕ × Break). BadProcess number f.0 f.1) o ≡ Some fault
        → option_map (λ (f : ℕ × (ℕ × Break)). BadProcess f.0 f.1.0 f.1.1)
        (first_with_fault (bad_process timeslice) plans) ≡ Some fault
    by None e h = cc
    by (Some y) e h = rw (first_faulty (bad_process timeslice) plans number plan y within read so_far.added e) h

-- no node has a bad memory, or a bad segment
pub good_node : (timeslice : ℕ) (plans : List NodePlan) (number : ℕ) (plan : NodePlan) → AreBuildable timeslice plans
    → number < length plans → plan ≡ get_or plans number plan
    → (is_bad_size plan ≡ false) × (bad_segment plan ≡ None)
good_node timeslice plans number plan form within read =
    let size : is_bad_size (get_or plans number plan) ≡ false = form.sizes number plan within in
    let segments : bad_segment (get_or plans number plan) ≡ None = form.segments number plan within in
    (rw read size, rw read segments)

-- no sink has more than 65,536 bytes
pub good_capacity : (sinks : List SinkPlan) (number : ℕ) (d : SinkPlan) → position is_bad_capacity sinks ≡ None
    → number < length sinks → (get_or sinks number d).capacity ≤ 65536
good_capacity sinks number d none within =
    ltb-false 65536 (get_or sinks number d).capacity
    (or_parts _ _ (no_position is_bad_capacity sinks none number d within)).1

-- all nodes are built
pub all_built : (timeslice : ℕ) (wires : List Wire) (plans : List NodePlan) (number : ℕ) (nodes : List NodeState)
    → length plans ≤ number → IsBuiltSoFar timeslice wires plans number nodes → AreOpened timeslice wires plans nodes
all_built timeslice wires plans number nodes end so_far =
    record {
      opened = so_far.opened
          ∙ ap (λ (ns : List NodePlan). fresh_nodes wires 0 (map (opened_machine timeslice) ns))
          (take_all number plans end);
      sound = so_far.sound;
      added =
          ap (option_map (λ f. BadProcess f.0 f.1.0 f.1.1))
          (none_faulty (bad_process timeslice) plans
          (subst (All (λ n. bad_process timeslice n ≡ None)) (take_all number plans end) so_far.added));
    }

-- one more of what stands behind the first nodes
pub one_more_behind : {X : Type 0} (f : X → NodeState) (xs : List X) (number : ℕ) (d : X) (node : NodeState)
    (first nodes nodes' : List NodeState)
    → number < length xs → nodes ≡ first ++ map f (take number xs) → node ≡ f (get_or xs number d)
    → nodes' ≡ nodes ++ node ∷ [] → nodes' ≡ first ++ map f (take (number + 1) xs)
one_more_behind {X} f xs number d node first nodes nodes' within so_far new pushed =
    rw add-one (pushed
    ∙ ap (λ (ns : List NodeState). ns ++ node ∷ []) so_far
    ∙ append_assoc first (map f (take number xs)) (node ∷ [])
    ∙ ap (λ (n : NodeState). first ++ (map f (take number xs) ++ n ∷ [])) new
    ∙ ap (λ (ns : List NodeState). first ++ ns) (sym (map-append f (take number xs) (get_or xs number d ∷ [])))
    ∙ ap (λ (ys : List X). first ++ map f ys) (sym (take-suc xs number d within)))
