-- What stands at the places of one node does not matter to the others.
use Rattle.std.proofs.Common.{◌≡◌, ℕ, refl, sym, ap, ◌∙◌, Bool, true, false, List, Option, Some}
use Rattle.std.specs.Prelude.{◌==◌, pos, slice_get, slice_set, if◌then◌else◌}
use Rattle.std.proofs.lemmas.Bool.{eq-eqb, eqb-true, false≢true}
use Rattle.tplan.specs.declared.plan.Plan.{Plan}
use Rattle.tprocesses.specs.Opening.{opening_state}
use Rattle.tprocesses.specs.Places.{Place, WordAt, Sending, Standing, Ports, Half, LinkHalf, Unfinished, Error}
use Rattle.tprocesses.specs.Places.{HaltOnError, Life, Successions, Messages, Kept, Population, HasRun, FlagChanged}
use Rattle.tprocesses.specs.Values.{Value, IsStand, IsHalf, IsLink, IsFlag, IsAmount, IsCount, ArePorts}
use Rattle.tcertify.specs.declared.node.Node.{Node}
use Rattle.tcertify.specs.Nodes.{board_of, node_at}
use Rattle.tcertify.specs.Running.{State, run_part}
use Rattle.tcertify.specs.Words.{sending_or, word_or}
use Rattle.tcertify.proofs.Places.{set_elsewhere, set_here}
use Rattle.tcertify.specs.declared.sink.Sink.{Sink}
use Rattle.tverdict.specs.Apart.{IsApart, NodesAreApart, CallsAtNodesRun}
use Rattle.tverdict.specs.Machines.{at_node, at_nodes, state_of, with_scripts}
use Rattle.tverdict.specs.Numbers.{node_in}

-- a choice between what is the same
same_if : (t : Bool) (u v : Value) → (t ≡ true → ⊥) → (if t then u else v) ≡ v
same_if true u v e = absurd (e refl)
same_if false u v e = refl

-- places of other nodes stay
elsewhere : (n : Node) (s : State) (p : Place) → (n.words.number ≡ node_in p → ⊥) → node_at n s p ≡ s p
elsewhere n s (WordAt m k) ne =
    same_if (n.words.number == m) (word_or (slice_get n.words.items.items k) (s (WordAt m k))) (s (WordAt m k))
    (λ e. ne (eqb-true n.words.number m e))
elsewhere n s (Sending m k) ne =
    same_if (n.words.number == m) (sending_or (slice_get n.words.items.items k) (s (Sending m k))) (s (Sending m k))
    (λ e. ne (eqb-true n.words.number m e))
elsewhere n s (Standing x) ne =
    same_if (n.words.number == x.node) (IsStand ((board_of n).stand x)) (s (Standing x))
    (λ e. ne (eqb-true n.words.number x.node e))
elsewhere n s (Ports x) ne =
    same_if (n.words.number == x.node) (ArePorts ((board_of n).ports x)) (s (Ports x))
    (λ e. ne (eqb-true n.words.number x.node e))
elsewhere n s (Half m c side) ne =
    same_if (n.words.number == m) (IsHalf ((board_of n).half c side)) (s (Half m c side))
    (λ e. ne (eqb-true n.words.number m e))
elsewhere n s (LinkHalf f side) ne =
    same_if (n.words.number == f.node) (IsLink ((board_of n).link f.link side)) (s (LinkHalf f side))
    (λ e. ne (eqb-true n.words.number f.node e))
elsewhere n s (Unfinished f) ne =
    same_if (n.words.number == f.node) (IsFlag ((board_of n).unfinished f.link)) (s (Unfinished f))
    (λ e. ne (eqb-true n.words.number f.node e))
elsewhere n s (Error m) ne =
    same_if (n.words.number == m) (IsFlag n.error) (s (Error m)) (λ e. ne (eqb-true n.words.number m e))
elsewhere n s (HaltOnError m) ne =
    same_if (n.words.number == m) (IsFlag n.halt_on_error) (s (HaltOnError m))
    (λ e. ne (eqb-true n.words.number m e))
elsewhere n s (FlagChanged m) ne =
    same_if (n.words.number == m) (IsFlag n.is_flag_changed) (s (FlagChanged m))
    (λ e. ne (eqb-true n.words.number m e))
elsewhere n s (Life m w) ne =
    same_if (n.words.number == m) (IsAmount ((board_of n).life w)) (s (Life m w))
    (λ e. ne (eqb-true n.words.number m e))
elsewhere n s (Successions m w) ne =
    same_if (n.words.number == m) (IsCount ((board_of n).successions w)) (s (Successions m w))
    (λ e. ne (eqb-true n.words.number m e))
elsewhere n s (Population m) ne =
    same_if (n.words.number == m) (IsAmount (pos n.population)) (s (Population m))
    (λ e. ne (eqb-true n.words.number m e))
elsewhere n s (HasRun m q) ne =
    same_if (n.words.number == m) (IsFlag ((board_of n).has_run q)) (s (HasRun m q))
    (λ e. ne (eqb-true n.words.number m e))
elsewhere n s (Messages e) ne = refl
elsewhere n s (Kept e) ne = refl

-- what a node has at a place depends on what else is there at that place alone
locally : (n : Node) (r s : State) (p : Place) → r p ≡ s p → node_at n r p ≡ node_at n s p
locally n r s (WordAt m k) e =
    ap (λ (v : Value). if n.words.number == m then word_or (slice_get n.words.items.items k) v else v) e
locally n r s (Sending m k) e =
    ap (λ (v : Value). if n.words.number == m then sending_or (slice_get n.words.items.items k) v else v) e
locally n r s (Standing x) e =
    ap (λ (v : Value). if n.words.number == x.node then IsStand ((board_of n).stand x) else v) e
locally n r s (Ports x) e =
    ap (λ (v : Value). if n.words.number == x.node then ArePorts ((board_of n).ports x) else v) e
locally n r s (Half m c side) e =
    ap (λ (v : Value). if n.words.number == m then IsHalf ((board_of n).half c side) else v) e
locally n r s (LinkHalf f side) e =
    ap (λ (v : Value). if n.words.number == f.node then IsLink ((board_of n).link f.link side) else v) e
locally n r s (Unfinished f) e =
    ap (λ (v : Value). if n.words.number == f.node then IsFlag ((board_of n).unfinished f.link) else v) e
locally n r s (Error m) e = ap (λ (v : Value). if n.words.number == m then IsFlag n.error else v) e
locally n r s (HaltOnError m) e = ap (λ (v : Value). if n.words.number == m then IsFlag n.halt_on_error else v) e
locally n r s (FlagChanged m) e = ap (λ (v : Value). if n.words.number == m then IsFlag n.is_flag_changed else v) e
locally n r s (Life m w) e = ap (λ (v : Value). if n.words.number == m then IsAmount ((board_of n).life w) else v) e
locally n r s (Successions m w) e =
    ap (λ (v : Value). if n.words.number == m then IsCount ((board_of n).successions w) else v) e
locally n r s (Population m) e = ap (λ (v : Value). if n.words.number == m then IsAmount (pos n.population) else v) e
locally n r s (HasRun m q) e =
    ap (λ (v : Value). if n.words.number == m then IsFlag ((board_of n).has_run q) else v) e
locally n r s (Messages f) e = e
locally n r s (Kept f) e = e

-- a choice that is known
pub chosen : {A : Type 0} (t : Bool) (u v : A) → t ≡ true → (if t then u else v) ≡ u
chosen true u v e = refl
chosen false u v e = absurd (false≢true e)

pub not_chosen : {A : Type 0} (t : Bool) (u v : A) → t ≡ false → (if t then u else v) ≡ v
not_chosen true u v e = absurd (false≢true (sym e))
not_chosen false u v e = refl

-- what stands elsewhere than at the node of this number, or else before the first step
abbrev rest_of : List Node → State → ℕ → State
rest_of nodes s k p = if k == node_in p then s p else at_nodes nodes s p

-- at its places a node of this number has what it has, elsewhere the others have what they have
module _ (nodes others : List Node) (s : State) (k : ℕ) (new : Node) (there : slice_get others k ≡ Some new)
    (alike : (j : ℕ) → (k ≡ j → ⊥) → slice_get others j ≡ slice_get nodes j) (numbered : new.words.number ≡ k) where
  by : (p : Place) (b : Bool) → (k == node_in p) ≡ b → node_at new (rest_of nodes s k) p ≡ at_nodes others s p
  by p true e =
      locally new (rest_of nodes s k) s p (chosen (k == node_in p) (s p) (at_nodes nodes s p) e)
      ∙ sym (ap (λ (o : Option Node). at_node o s p)
      (ap (λ (j : ℕ). slice_get others j) (sym (eqb-true k (node_in p) e)) ∙ there))
  by p false e =
      let other : k ≡ node_in p → ⊥ = (λ same. false≢true (sym e ∙ eq-eqb k (node_in p) same)) in
      elsewhere new (rest_of nodes s k) p (λ same. other (sym numbered ∙ same))
      ∙ not_chosen (k == node_in p) (s p) (at_nodes nodes s p) e
      ∙ sym (ap (λ (o : Option Node). at_node o s p) (alike (node_in p) other))

  at_list : node_at new (rest_of nodes s k) ≡ at_nodes others s
  at_list = λ j p. by p (k == node_in p) refl j

-- sources and sinks are no places of a node
over_scripts : (plan : Plan) (sent : List ℕ) (sinks : List Sink) (n : Node) (r : State) (p : Place)
    → node_at n (with_scripts plan sent sinks r) p ≡ with_scripts plan sent sinks (node_at n r) p
over_scripts plan sent sinks n r (WordAt m k) = refl
over_scripts plan sent sinks n r (Sending m k) = refl
over_scripts plan sent sinks n r (Standing x) = refl
over_scripts plan sent sinks n r (Ports x) = refl
over_scripts plan sent sinks n r (Half m c side) = refl
over_scripts plan sent sinks n r (LinkHalf f side) = refl
over_scripts plan sent sinks n r (Unfinished f) = refl
over_scripts plan sent sinks n r (Error m) = refl
over_scripts plan sent sinks n r (HaltOnError m) = refl
over_scripts plan sent sinks n r (FlagChanged m) = refl
over_scripts plan sent sinks n r (Life m w) = refl
over_scripts plan sent sinks n r (Successions m w) = refl
over_scripts plan sent sinks n r (Population m) = refl
over_scripts plan sent sinks n r (HasRun m q) = refl
over_scripts plan sent sinks n r (Messages f) = refl
over_scripts plan sent sinks n r (Kept f) = refl

with_node : (plan : Plan) (sent : List ℕ) (sinks : List Sink) (nodes others : List Node) (k : ℕ) (new : Node)
    → slice_get others k ≡ Some new → ((j : ℕ) → (k ≡ j → ⊥) → slice_get others j ≡ slice_get nodes j)
    → new.words.number ≡ k
    → node_at new (with_scripts plan sent sinks (rest_of nodes (opening_state plan) k))
    ≡ state_of plan others sent sinks
with_node plan sent sinks nodes others k new there alike numbered =
    (λ j p. over_scripts plan sent sinks new (rest_of nodes (opening_state plan) k) p j)
    ∙ ap (with_scripts plan sent sinks) (at_list nodes others (opening_state plan) k new there alike numbered)

pub nodes_are_apart : NodesAreApart
nodes_are_apart plan nodes sent sinks k node there numbered =
    record {
      rest = with_scripts plan sent sinks (rest_of nodes (opening_state plan) k);
      before = with_node plan sent sinks nodes nodes k node there (λ j ne. refl) numbered;
      after = λ new is.
          with_node plan sent sinks nodes (slice_set nodes k new) k new (set_here nodes k new node there)
          (λ j ne. set_elsewhere nodes k j new ne) is;
    }

pub calls_at_nodes_run : (A : Type 0) → CallsAtNodesRun A
calls_at_nodes_run A plan nodes sent sinks k old new part answer there numbered done =
    let apart : IsApart plan nodes sent sinks k old = nodes_are_apart plan nodes sent sinks k old there numbered in
    let is : new.words.number ≡ k = ap (λ s. s.number) done.grows.site ∙ numbered in
    ap (run_part part) (sym apart.before) ∙ done.runs apart.rest
    ∙ ap (λ (s : State). (answer, s)) (apart.after new is)
