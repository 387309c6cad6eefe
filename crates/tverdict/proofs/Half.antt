-- A half of a wire's step that is a call on a node.
use Rattle.std.proofs.Common.{◌≡◌, ◌<◌, ◌⊎◌, ℕ, inl, inr, refl, sym, ap, ◌∙◌, subst, List, Some, Ok, Err}
use Rattle.std.proofs.Common.{Contains, Result}
use Rattle.std.proofs.Common.{arith, length}
use Rattle.std.proofs.Common.{◌≤◌, ◌-◌, ◌+◌, Bool, true, false, Option, None}
use Rattle.std.specs.Prelude.{nat_lt, option_map, slice_get, slice_set, if◌then◌else◌}
use Rattle.std.proofs.lemmas.Bool.{cases_eq, le-ltb, lt-ltb}
use Rattle.std.proofs.lemmas.List.Elements.{All-nil}
use Rattle.std.proofs.lemmas.Option.{same_Some, slice_get_within}
use Rattle.tplan.specs.declared.plan.End.{End}
use Rattle.tplan.specs.declared.plan.NodePlan.{NodePlan}
use Rattle.tplan.specs.declared.plan.Plan.{Plan}
use Rattle.tword.specs.Stores.{Store}
use Rattle.tplan.specs.Wires.{end_at}
use Rattle.tprocesses.specs.LinkMessages.{node_receives, node_sends}
use Rattle.tprocesses.specs.Choosing.{fires}
use Rattle.tprocesses.specs.Machine.{Nothing, Processor, Role, Sink, Source, asks, is_passable, offer_place, offers}
use Rattle.tprocesses.specs.Machine.{receives, role_at, sends, site_of}
use Rattle.tprocesses.specs.Parts.{HasNoStep, Part, Reason, gives, see, stopping, ◌>>=◌}
use Rattle.tprocesses.specs.Places.{Name}
use Rattle.tcertify.specs.declared.fault.Fault.{Fault}
use Rattle.tcertify.specs.declared.fault.Fault.TheVariants as fault
use Rattle.tcertify.specs.declared.lead.Lead.{Lead}
use Rattle.tcertify.specs.declared.node.Node.{Node}
use Rattle.tcertify.specs.declared.notes.Notes.{Notes}
use Rattle.tcertify.specs.Choosing.{offers_at}
use Rattle.tcertify.specs.Nodes.{Does, IsLed, RunsAt, name_at, node_at, node_site}
use Rattle.tcertify.specs.Notes.{AreNoted, IsNoted, Keeps, Numbering}
use Rattle.tcertify.specs.Running.{State, run_part}
use Rattle.tcertify.specs.Seeing.{sights}
use Rattle.tcertify.specs.Walked.{accesses, changes}
use Rattle.tcertify.specs.Words.{reason_of}
use Rattle.tcertify.proofs.NodeRunning.{grows_not, keeps_all}
use Rattle.tcertify.proofs.Places.{set_elsewhere, set_here}
use Rattle.tfollow.proofs.Sited.{steps_are_at_sites}
use Rattle.tverdict.specs.declared.machine.Machine.{Machine}
use Rattle.tverdict.specs.Agents.{name_there}
use Rattle.tverdict.specs.Apart.{IsApart}
use Rattle.tverdict.specs.Machines.{machine_at, state_of}
use Rattle.tverdict.specs.Passing.{DoesHalf, GoesOn, NodesGrow, NumbersMachine, RunsHalf, notes_at, notes_or}
use Rattle.tverdict.specs.Stepping.{Fits}
use Rattle.tverdict.proofs.Distinct.{at_low}
use Rattle.tverdict.proofs.Frames.{calls_at_nodes_run, chosen, nodes_are_apart, not_chosen}
use Rattle.tverdict.proofs.Over.{is_processor}
use Rattle.tverdict.proofs.Staying.{name_or, set_grows}

module _ (plan : Plan) (m m' : Machine) (n : ℕ) (notes : Notes) (fits : Fits plan m) (old new : Node)
    (there : slice_get m.nodes.items n ≡ Some old) (set : m'.nodes.items ≡ slice_set m.nodes.items n new) where
  abbrev it : Machine
  it = record m { nodes = m'.nodes }

  number_old : old.words.number ≡ n
  number_old = fits.nodes.numbers n old there

  apart : IsApart plan m.nodes.items m.sent.items m.sinks.items n old
  apart = nodes_are_apart plan m.nodes.items m.sent.items m.sinks.items n old there number_old

  here_it : slice_get m'.nodes.items n ≡ Some new
  here_it = ap (λ (ns : List Node). slice_get ns n) set ∙ set_here m.nodes.items n new old there

  elsewhere : (k : ℕ) → (n ≡ k → ⊥) → slice_get m'.nodes.items k ≡ slice_get m.nodes.items k
  elsewhere k other = ap (λ (ns : List Node). slice_get ns k) set ∙ set_elsewhere m.nodes.items n k new other

  module _ {A : Type 0} (part : Part A) (answer : Result A Reason) (runs : RunsAt part old answer new) where
    runs_it : run_part part (machine_at plan m) ≡ (answer, machine_at plan it)
    runs_it =
        calls_at_nodes_run A plan m.nodes.items m.sent.items m.sinks.items n old new part answer there number_old runs
        ∙ ap (λ (ns : List Node). (answer, state_of plan ns m.sent.items m.sinks.items)) (sym set)

    goes_it : GoesOn n m it
    goes_it =
        record {
          nodes = subst (λ (ns : List Node). NodesGrow m.nodes.items ns) (sym set)
              (set_grows m.nodes.items n old new there runs.grows);
          others = λ k other. elsewhere k (λ e. other (sym e));
          sent = refl;
          sinks = refl;
          places = λ k p has. has;
          same = refl;
        }

    keeps_it : (k : ℕ) → Keeps (notes_at m notes k) (notes_at it notes k)
    keeps_it k = elim (cases_eq n k) [
      | inl e ↦
          subst (λ (x : Notes). Keeps x (notes_at it notes k))
          (sym (ap (notes_or notes) (ap (λ (i : ℕ). slice_get m.nodes.items i) (sym e) ∙ there)))
          (subst (λ (x : Notes). Keeps old.words.notes x)
          (sym (ap (notes_or notes) (ap (λ (i : ℕ). slice_get m'.nodes.items i) (sym e) ∙ here_it))) runs.keeps)
      | inr other ↦
          subst (λ (x : Notes). Keeps (notes_at m notes k) x) (sym (ap (notes_or notes) (elsewhere k other)))
          (keeps_all (notes_at m notes k))
    ]

    noted_it : (numbering : Numbering) → NumbersMachine numbering it
        → AreNoted numbering (notes_at it notes n) (accesses part (machine_at plan m))
    noted_it numbering nm =
        subst (λ (x : Notes). AreNoted numbering x (accesses part (machine_at plan m)))
        (sym (ap (notes_or notes) here_it))
        (subst (λ (s : State). AreNoted numbering new.words.notes (accesses part s)) apart.before
        (runs.noted numbering (nm.nodes n new here_it) apart.rest))

    led_it : (k : ℕ) (b : Node) (l : Lead) → slice_get m'.nodes.items k ≡ Some b → Contains b.leads.items l
        → ((a : Node) × (slice_get m.nodes.items k ≡ Some a) × Contains a.leads.items l)
        ⊎ IsLed b (sights part (machine_at plan m)) (changes part (machine_at plan m)) l
    led_it k b l at has = elim (cases_eq n k) [
      | inl e ↦
          let is : new ≡ b =
          same_Some new b (sym here_it ∙ ap (λ (i : ℕ). slice_get m'.nodes.items i) e ∙ at) in
          by k b l e is (runs.led l (subst (λ (x : Node). Contains x.leads.items l) (sym is) has))
      | inr other ↦ inl (b, sym (elsewhere k other) ∙ at, has)
    ]
      where
        by : (k : ℕ) (b : Node) (l : Lead) → n ≡ k → new ≡ b
            → Contains old.leads.items l
            ⊎ ((rest : State) → IsLed new (sights part (node_at old rest)) (changes part (node_at old rest)) l)
            → ((a : Node) × (slice_get m.nodes.items k ≡ Some a) × Contains a.leads.items l)
            ⊎ IsLed b (sights part (machine_at plan m)) (changes part (machine_at plan m)) l
        by k b l e is (inl before) =
            inl (old, ap (λ (i : ℕ). slice_get m.nodes.items i) (sym e) ∙ there, before)
        by k b l e is (inr led) =
            inr (subst (λ (x : Node). IsLed x (sights part (machine_at plan m)) (changes part (machine_at plan m)) l) is
            (subst (λ (s : State). IsLed new (sights part s) (changes part s) l) apart.before (led apart.rest)))

    half_it : RunsHalf plan part n m notes answer it notes
    half_it =
        record { runs = runs_it; goes = goes_it; keeps = keeps_it; noted = noted_it; led = led_it }

  does_it : {X A : Type 0} (part : Part A) (f : X → A) (result : Result X Fault) → Does part f old result new
      → DoesHalf plan part f n m notes result it notes
  does_it part f (Ok x) does = half_it part (Ok (f x)) does
  does_it part f (Err (fault.Stops why)) does = half_it part (Err (reason_of why)) does
  does_it part f (Err fault.OutOfMemory) does = tt

  pub does_half : {X A : Type 0} (part : Part A) (f : X → A) (result : Result X Fault) → Does part f old result new
      → m' ≡ it → DoesHalf plan part f n m notes result m' notes
  does_half part f result does same =
      subst (λ (x : Machine). DoesHalf plan part f n m notes result x notes) (sym same) (does_it part f result does)

-- what a node sends and receives
module _ (plan : Plan) (m : Machine) (fits : Fits plan m) (e : End) (node : Node)
    (there : slice_get m.nodes.items e.node ≡ Some node) where
  planned : (p : NodePlan) × (slice_get plan.nodes e.node ≡ Some p)
  planned =
      let within : e.node < length m.nodes.items = slice_get_within m.nodes.items e.node node there in
      at_low plan.nodes e.node (omega (arith, within, fits.nodes.many))

  site : site_of e.node planned.0 ≡ node_site node
  site = sym (fits.nodes.sites e.node node planned.0 there planned.1)

  end_is : e ≡ end_at node.words.number e.link
  end_is = λ i. record { node = sym (fits.nodes.numbers e.node node there) i; link = e.link }

  pub sends_are : sends plan (role_at plan e.node) e ≡ node_sends (end_at node.words.number e.link) (node_site node)
  sends_are =
      (steps_are_at_sites plan).from_node e planned.0 (is_processor plan m e.node node fits there) planned.1
      ∙ ap (node_sends e) site ∙ ap (λ (f : End). node_sends f (node_site node)) end_is

  pub receives_are : (message : Store) → receives plan (role_at plan e.node) e message
      ≡ node_receives message (end_at node.words.number e.link) (node_site node)
  receives_are message =
      (steps_are_at_sites plan).to_node e planned.0 message (is_processor plan m e.node node fits there) planned.1
      ∙ ap (node_receives message e) site ∙ ap (λ (f : End). node_receives message f (node_site node)) end_is

  -- who waits at a node for a message and for others, and what is offered there
  processor : role_at plan e.node ≡ Processor
  processor = is_processor plan m e.node node fits there

  pub asks_are : asks (role_at plan e.node) e ≡ asks Processor (end_at node.words.number e.link)
  asks_are = ap (λ (r : Role). asks r e) processor ∙ ap (asks Processor) end_is

  pub offers_are : offers plan e ≡ offers_at (end_at node.words.number e.link)
  offers_are =
      ap (λ (r : Role). see (offer_place r e) >>= (λ offered. gives (is_passable (offer_place r e) offered))) processor
      ∙ ap offers_at end_is

  pub fires_are : (x : Name) → fires e x ≡ fires (end_at node.words.number e.link) x
  fires_are x = ap (λ (f : End). fires f x) end_is

-- the names of the processes of a node that is there
pub name_there_is : (nodes : List Node) (n : ℕ) (node : Node) (k : ℕ) → slice_get nodes n ≡ Some node
    → name_there nodes n k ≡ name_at node k
name_there_is nodes n node k there = ap (name_or n k) there

pub names_there_are : (nodes : List Node) (n : ℕ) (node : Node) (o : Option ℕ) → slice_get nodes n ≡ Some node
    → option_map (name_there nodes n) o ≡ option_map (name_at node) o
names_there_are nodes n node o there = ap (λ (a : Option Node). option_map (λ k. name_or n k a) o) there

-- a half that only answers
pub half_gives : {A : Type 0} (plan : Plan) (n : ℕ) (m : Machine) (notes : Notes) (x : A)
    → RunsHalf plan (gives x) n m notes (Ok x) m notes
half_gives plan n m notes x =
    record {
      runs = refl;
      goes = record {
        nodes = record { many = refl; grow = λ k a at. (a, at, grows_not a) };
        others = λ k other. refl;
        sent = refl;
        sinks = refl;
        places = λ k p has. has;
        same = refl;
      };
      keeps = λ k. keeps_all (notes_at m notes k);
      noted = λ numbering nm kept. All-nil (IsNoted numbering (notes_at m notes n).items.items);
      led = λ k b l at has. inl (b, at, has);
    }

-- a half that nobody does
pub half_stops : {A : Type 0} (plan : Plan) (n : ℕ) (m : Machine) (notes : Notes) (why : Reason)
    → RunsHalf {A = A} plan (stopping why) n m notes (Err why) m notes
half_stops plan n m notes why =
    record {
      runs = refl;
      goes = record {
        nodes = record { many = refl; grow = λ k a at. (a, at, grows_not a) };
        others = λ k other. refl;
        sent = refl;
        sinks = refl;
        places = λ k p has. has;
        same = refl;
      };
      keeps = λ k. keeps_all (notes_at m notes k);
      noted = λ numbering nm kept. All-nil (IsNoted numbering (notes_at m notes n).items.items);
      led = λ k b l at has. inl (b, at, has);
    }

-- sources and sinks by the numbers of their nodes
role_past : (plan : Plan) (n : ℕ) → length plan.nodes ≤ n → nat_lt n (length plan.nodes) ≡ false
role_past plan n past = le-ltb n (length plan.nodes) past

-- nobody waits at a source or a sink for a message and for others
pub nobody_asks : (plan : Plan) (e : End) → length plan.nodes ≤ e.node
    → asks (role_at plan e.node) e ≡ gives None
nobody_asks plan e past =
    ap (λ (r : Role). asks r e)
    (not_chosen (nat_lt e.node (length plan.nodes)) Processor _ (role_past plan e.node past))
    ∙ by (nat_lt e.node (length plan.nodes + length plan.sources))
    (nat_lt e.node (length plan.nodes + length plan.sources + length plan.sinks))
  where
    by : (t u : Bool) → asks (if t then Source else if u then Sink else Nothing) e ≡ gives None
    by true u = refl
    by false true = refl
    by false false = refl

pub role_source : (plan : Plan) (n : ℕ) → length plan.nodes ≤ n → n - length plan.nodes < length plan.sources
    → role_at plan n ≡ Source
role_source plan n past low =
    not_chosen (nat_lt n (length plan.nodes)) Processor _ (role_past plan n past)
    ∙ chosen (nat_lt n (length plan.nodes + length plan.sources)) Source _
    (lt-ltb n (length plan.nodes + length plan.sources) (omega (arith, past, low)))

pub past_sources : (plan : Plan) (n : ℕ) → length plan.nodes ≤ n → length plan.sources ≤ n - length plan.nodes
    → role_at plan n
    ≡ (if nat_lt n (length plan.nodes + length plan.sources + length plan.sinks) then Sink else Nothing)
past_sources plan n past high =
    not_chosen (nat_lt n (length plan.nodes)) Processor _ (role_past plan n past)
    ∙ not_chosen (nat_lt n (length plan.nodes + length plan.sources)) Source _
    (le-ltb n (length plan.nodes + length plan.sources) (omega (arith, past, high)))

pub role_sink : (plan : Plan) (n : ℕ) → length plan.nodes ≤ n → length plan.sources ≤ n - length plan.nodes
    → n - length plan.nodes - length plan.sources < length plan.sinks → role_at plan n ≡ Sink
role_sink plan n past high low =
    past_sources plan n past high
    ∙ chosen (nat_lt n (length plan.nodes + length plan.sources + length plan.sinks)) Sink _
    (lt-ltb n (length plan.nodes + length plan.sources + length plan.sinks) (omega (arith, past, high, low)))

role_nothing : (plan : Plan) (n : ℕ) → length plan.nodes ≤ n → length plan.sources ≤ n - length plan.nodes
    → length plan.sinks ≤ n - length plan.nodes - length plan.sources → role_at plan n ≡ Nothing
role_nothing plan n past high more =
    past_sources plan n past high
    ∙ not_chosen (nat_lt n (length plan.nodes + length plan.sources + length plan.sinks)) Sink _
    (le-ltb n (length plan.nodes + length plan.sources + length plan.sinks) (omega (arith, past, high, more)))

pub nobody_sends : (plan : Plan) (e : End) → length plan.nodes ≤ e.node
    → length plan.sources ≤ e.node - length plan.nodes
    → sends plan (role_at plan e.node) e ≡ stopping HasNoStep
nobody_sends plan e past high =
    ap (λ (r : Role). sends plan r e) (past_sources plan e.node past high)
    ∙ by (nat_lt e.node (length plan.nodes + length plan.sources + length plan.sinks))
  where
    by : (b : Bool) → sends plan (if b then Sink else Nothing) e ≡ stopping HasNoStep
    by true = refl
    by false = refl

pub source_receives_nothing : (plan : Plan) (e : End) (x : Store) → length plan.nodes ≤ e.node
    → e.node - length plan.nodes < length plan.sources
    → receives plan (role_at plan e.node) e x ≡ stopping HasNoStep
source_receives_nothing plan e x past low =
    ap (λ (r : Role). receives plan r e x) (role_source plan e.node past low)

pub nobody_receives : (plan : Plan) (e : End) (x : Store) → length plan.nodes ≤ e.node
    → length plan.sources ≤ e.node - length plan.nodes
    → length plan.sinks ≤ e.node - length plan.nodes - length plan.sources
    → receives plan (role_at plan e.node) e x ≡ stopping HasNoStep
nobody_receives plan e x past high more =
    ap (λ (r : Role). receives plan r e x) (role_nothing plan e.node past high more)
