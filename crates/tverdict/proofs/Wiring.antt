-- A step at two nodes, from before its parts.
use Rattle.std.proofs.Common.{◌≡◌, ◌≢◌, ◌<◌, ◌+◌, ◌⊎◌, ℕ, zero, suc, inl, inr, refl, sym, ap, ◌∙◌, subst, List}
use Rattle.std.proofs.Common.{[], ◌∷◌, Some, None, Ok, Err, All, Contains, Result, arith, length}
use Rattle.std.specs.Prelude.{option_map, slice_get}
use Rattle.std.proofs.lemmas.Bool.{cases_eq, false≢true}
use Rattle.std.proofs.lemmas.Option.{same_Some, slice_get_cases, slice_get-map}
use Rattle.std.proofs.lemmas.Result.{on_ok_weaker}
use Rattle.std.specs.Prelude.{OnOk}
use Rattle.tplan.specs.declared.plan.End.{End}
use Rattle.tplan.specs.declared.plan.Plan.{Plan}
use Rattle.tagents.specs.Walks.{are_open}
use Rattle.tclocks.proofs.Lists.{contains-first, contains-rest}
use Rattle.tprocesses.specs.Places.{Name}
use Rattle.tprocesses.specs.Parts.{Doing, Reason}
use Rattle.tprocesses.specs.Machine as machine
use Rattle.tprocesses.specs.Machine.{passes, process_machine, sender_to, step_of}
use Rattle.tcertify.specs.declared.fault.Fault.{Fault}
use Rattle.tcertify.specs.declared.fault.Fault.TheVariants as fault
use Rattle.tcertify.specs.declared.lead.Lead.{Lead}
use Rattle.tcertify.specs.declared.node.Node.{Node}
use Rattle.tcertify.specs.declared.notes.Notes.{Notes}
use Rattle.tcertify.specs.declared.sink.Sink.{Sink}
use Rattle.tcertify.specs.Nodes.{IsLed, node_at}
use Rattle.tcertify.specs.Running.{State, run_part}
use Rattle.tcertify.specs.Seeing.{sights}
use Rattle.tcertify.specs.Walked.{accesses, changes}
use Rattle.tcertify.specs.Words.{reason_of}
use Rattle.tcertify.proofs.NodeRunning.{grows_not}
use Rattle.tcertify.proofs.Places.{set_elsewhere, set_here}
use Rattle.tfollow.specs.Numbering.{HasNumber}
use Rattle.tfollow.proofs.Opened.{agents_are_open_by}
use Rattle.tfollow.proofs.Sited.{steps_are_at_sites}
use Rattle.tverdict.specs.declared.agent.Agent.{Agent}
use Rattle.tverdict.specs.declared.agent.Agent.TheVariants as agent
use Rattle.tverdict.specs.declared.finishing.Counts.{Counts}
use Rattle.tverdict.specs.declared.halt.Halt.{Halt}
use Rattle.tverdict.specs.declared.halt.Halt.TheVariants as halt
use Rattle.tverdict.specs.declared.machine.Machine.{Machine}
use Rattle.tverdict.specs.Verdicts.{IsStepped}
use Rattle.tverdict.specs.Agents.{HasChannel, HasProcess, IsMet, agent_of}
use Rattle.tverdict.specs.Apart.{IsApart}
use Rattle.tverdict.specs.Lodging.{WereHoused}
use Rattle.tverdict.specs.Machines.{Follows, HasStep, machine_at, places, state_of}
use Rattle.tverdict.specs.Numbers.{half_or}
use Rattle.tverdict.specs.Passing.{NodesGrow, NumbersMachine}
use Rattle.tverdict.specs.Stepping.{AreFoundBefore, Fits, IsAnswered, KeepsAgents}
use Rattle.tverdict.specs.Wired.{AreCounts, AreKeptAt, BeginsAt, DoesAtTwo, IsDoneAt, IsNotedAt, IsOutcomeAt}
use Rattle.tverdict.specs.Wired.{RunsAtTwo}
use Rattle.tverdict.proofs.Called.{grows_afresh}
use Rattle.tverdict.proofs.Frames.{nodes_are_apart}
use Rattle.tverdict.proofs.Gone.{ended_stays}
use Rattle.tverdict.proofs.Grown.{agents_same, fits_on, fits_sound, followed_on, tellable_fits}
use Rattle.tverdict.proofs.Housed.{were_housed}
use Rattle.tverdict.proofs.Numbered.{places_are_numbered}
use Rattle.tverdict.proofs.Staying.{grow_twice, set_grows, was_there}

-- a node begins afresh, if there is one
module _ (plan : Plan) (m m' : Machine) (n : ℕ) (b : BeginsAt m n m')
    (numbers : (k : ℕ) (x : Node) → slice_get m.nodes.items k ≡ Some x → x.words.number ≡ k) where
  abbrev Case : Type 0
  Case =
      ((a : Node) × (slice_get m.nodes.items n ≡ Some a)) ⊎ (slice_get m.nodes.items n ≡ None)

  case : Case
  case = elim (slice_get_cases m.nodes.items n).1 [
    | inl (a, low, at, r) ↦ inl (a, at)
    | inr (past, none) ↦ inr none
  ]

  begin_grows : NodesGrow m.nodes.items m'.nodes.items
  begin_grows = elim case [
    | inl (a, at) ↦
        let (x, afresh, set) = b.node a at in
        subst (λ (ns : List Node). NodesGrow m.nodes.items ns) (sym set)
        (set_grows m.nodes.items n a x at (grows_afresh a x afresh))
    | inr none ↦
        subst (λ (ns : List Node). NodesGrow m.nodes.items ns) (sym (b.none none))
        (record { many = refl; grow = λ k a at. (a, at, grows_not a) })
  ]

  pub begin_elsewhere : (k : ℕ) → k ≢ n → slice_get m'.nodes.items k ≡ slice_get m.nodes.items k
  begin_elsewhere k other = elim case [
    | inl (a, at) ↦
        let (x, afresh, set) = b.node a at in
        ap (λ (ns : List Node). slice_get ns k) set ∙ set_elsewhere m.nodes.items n k x (λ e. other (sym e))
    | inr none ↦ ap (λ (ns : List Node). slice_get ns k) (b.none none)
  ]

  pub numbers_begun : (k : ℕ) (x : Node) → slice_get m'.nodes.items k ≡ Some x → x.words.number ≡ k
  numbers_begun k x here =
      let (y, by, grows) = was_there m.nodes.items m'.nodes.items begin_grows k x here in
      ap (λ s. s.number) grows.site ∙ numbers k y by

  begin_empty : (x : Node) → slice_get m'.nodes.items n ≡ Some x → x.leads.items ≡ []
  begin_empty x here = elim case [
    | inl (a, at) ↦
        let (y, afresh, set) = b.node a at in
        let is : x ≡ y =
        same_Some x y (sym here ∙ ap (λ (ns : List Node). slice_get ns n) set ∙ set_here m.nodes.items n y a at) in
        ap (λ (z : Node). z.leads.items) is ∙ afresh.leads
    | inr none ↦ absurd (some_none x (sym here ∙ ap (λ (ns : List Node). slice_get ns n) (b.none none) ∙ none))
  ]
    where
      some_none : (x : Node) → Some x ≡ None → ⊥
      some_none x e = cc

  begin_state : machine_at plan m' ≡ machine_at plan m
  begin_state =
      ap (machine_at plan) b.same
      ∙ elim case as (λ _. state_of plan m'.nodes.items m.sent.items m.sinks.items ≡ machine_at plan m) [
        | inl (a, at) ↦
            let (x, afresh, set) = b.node a at in
            let apart : IsApart plan m.nodes.items m.sent.items m.sinks.items n a =
            nodes_are_apart plan m.nodes.items m.sent.items m.sinks.items n a at (numbers n a at) in
            let number : x.words.number ≡ n = ap (λ (y : Node). y.words.number) afresh.same ∙ numbers n a at in
            ap (λ (ns : List Node). state_of plan ns m.sent.items m.sinks.items) set
            ∙ sym (apart.after x number) ∙ ap (λ (y : Node). node_at y apart.rest) afresh.same ∙ apart.before
        | inr none ↦ ap (λ (ns : List Node). state_of plan ns m.sent.items m.sinks.items) (b.none none)
      ]

-- what a step leaves is told by how many were done before
stepped_as : (plan : Plan) (number : ℕ) (old old' new : Machine) → old.done ≡ old'.done
    → (result : Result (Unit {0}) Halt) → IsStepped plan old number result new → IsStepped plan old' number result new
stepped_as plan number old old' new e (Ok x) (follows, done) = (follows, done ∙ ap (λ (k : ℕ). k + 1) e)
stepped_as plan number old old' new e (Err (halt.Stops why)) s = s
stepped_as plan number old old' new e (Err (halt.Race race)) s = s
stepped_as plan number old old' new e (Err halt.OutOfMemory) s = s

module _ (plan : Plan) (m m1 m2 : Machine) (n o : ℕ) (f : Follows plan m) (b : BeginsAt m n m1)
    (b' : BeginsAt m1 o m2) where
  fits : Fits plan m
  fits = fits_sound plan m (f.1).sound

  grow1 : NodesGrow m.nodes.items m1.nodes.items
  grow1 = begin_grows plan m m1 n b fits.nodes.numbers

  numbers1 : (k : ℕ) (x : Node) → slice_get m1.nodes.items k ≡ Some x → x.words.number ≡ k
  numbers1 = numbers_begun plan m m1 n b fits.nodes.numbers

  pub grow2 : NodesGrow m.nodes.items m2.nodes.items
  grow2 =
      grow_twice m.nodes.items m1.nodes.items m2.nodes.items grow1
      (begin_grows plan m1 m2 o b' numbers1)

  state2 : machine_at plan m2 ≡ machine_at plan m
  state2 =
      begin_state plan m1 m2 o b' numbers1 ∙ begin_state plan m m1 n b fits.nodes.numbers

  -- the machine is as it was except for its nodes
  same2 : m2 ≡ record m { nodes = m2.nodes }
  same2 = b'.same ∙ ap (λ (x : Machine). record x { nodes = m2.nodes }) b.same

  pub fits2 : Fits plan m2
  fits2 =
      subst (Fits plan) (sym same2)
      (fits_on plan m (record m { nodes = m2.nodes }) grow2 fits refl refl fits.kept_places)

  -- nothing was noted before
  empty : (k : ℕ) (x : Node) → Contains (n ∷ o ∷ []) k → slice_get m2.nodes.items k ≡ Some x
      → x.leads.items ≡ []
  empty k x among here = elim (cases_eq k o) [
    | inl e ↦ begin_empty plan m1 m2 o b' numbers1 x (ap (λ (i : ℕ). slice_get m2.nodes.items i) (sym e) ∙ here)
    | inr other ↦
        begin_empty plan m m1 n b fits.nodes.numbers x
        (ap (λ (i : ℕ). slice_get m1.nodes.items i) (sym (first among other))
        ∙ sym (begin_elsewhere plan m1 m2 o b' numbers1 k other) ∙ here)
  ]
    where
      first : {k : ℕ} → Contains (n ∷ o ∷ []) k → k ≢ o → k ≡ n
      first (zero, low, e) other = sym e
      first (suc zero, low, e) other = absurd (other (sym e))
      first (suc (suc i), low, e) other = absurd (omega (arith, low))

  module _ (m3 : Machine) (number : ℕ) (part : Doing) (n2 n3 : Notes) (h : HasStep plan m number)
      (is_step : step_of plan h.agent ≡ part)
      (home : (x : Name) → h.agent ≡ machine.Process x → Contains (n ∷ o ∷ []) x.node) (one two : Counts)
      (counts : AreCounts m n one) (counts' : AreCounts m o two) where
    module _ (answer : Result (Unit {0}) Reason) (p : RunsAtTwo plan part n o m2 n2 answer m3 n3) where
      abbrev it : Machine
      it = record m { nodes = m3.nodes; sent = m3.sent; sinks = m3.sinks; idle = m3.idle }

      same3 : m3 ≡ it
      same3 =
          p.same
          ∙ ap (λ (x : Machine). record x { nodes = m3.nodes; sent = m3.sent; sinks = m3.sinks }) same2
          ∙ ap (λ (x : Machine). record m { nodes = m3.nodes; sent = m3.sent; sinks = m3.sinks; idle = x.idle })
          (sym (p.same
          ∙ ap (λ (x : Machine). record x { nodes = m3.nodes; sent = m3.sent; sinks = m3.sinks }) same2))

      grow3 : NodesGrow m.nodes.items m3.nodes.items
      grow3 = grow_twice m.nodes.items m2.nodes.items m3.nodes.items grow2 p.nodes

      sent3 : length m3.sent.items ≡ length m.sent.items
      sent3 = p.sent ∙ ap (λ (x : Machine). length x.sent.items) same2

      sinks3 : length m3.sinks.items ≡ length m.sinks.items
      sinks3 = p.sinks ∙ ap (λ (x : Machine). length x.sinks.items) same2

      kept3 : (k : ℕ) (s : Sink) → slice_get m3.sinks.items k ≡ Some s
          → s.place ≡ m.first_script + (length plan.nodes + length plan.sources + k)
      kept3 k s here =
          let (t, by, e) = p.places k s.place (s, here, refl) in
          sym e ∙ fits.kept_places k t (ap (λ (x : Machine). slice_get x.sinks.items k) (sym same2) ∙ by)

      abbrev answered : IsAnswered plan number answer it
      answered =
          record {
            steps = f.0;
            count = (f.1).count;
            agent = h.agent;
            state = machine_at plan m;
            numbered = subst (λ (list : List machine.Agent). HasNumber list h.agent number)
                (sym (agents_same plan m m3 grow3 fits sent3 sinks3 kept3)) h.numbered;
            opened = h.opened;
            runs = ap (λ (q : Doing). run_part q (machine_at plan m)) is_step
                ∙ ap (run_part part) (sym state2) ∙ p.runs
                ∙ ap (λ (x : Machine). (answer, machine_at plan x)) same3;
            group = (f.1).group;
            followed = followed_on plan m m3 grow3 fits sent3 sinks3 kept3 (f.1).group f.0 (machine_at plan m)
                (f.1).followed;
            tellable = tellable_fits plan it (fits_on plan m m3 grow3 fits sent3 sinks3 kept3);
          }

      numbered : NumbersMachine (places it) it
      numbered =
          record {
            nodes = λ k x here. places_are_numbered m3.nodes.items m.first_script k x here
                ((fits_on plan m m3 grow3 fits sent3 sinks3 kept3).nodes.numbers k x here);
            messages = λ e. refl;
            kept = λ e. refl;
            nowhere = λ e side none. ap (half_or m.first_script side e.link) none;
          }

      noted3 : AreKeptAt it n3 n o
          → All (IsNotedAt (places it) it n3 n o) (accesses (step_of plan h.agent) (machine_at plan m))
      noted3 kept =
          subst (λ (q : Doing). All (IsNotedAt (places it) it n3 n o) (accesses q (machine_at plan m)))
          (sym is_step)
          (subst (λ (s : State). All (IsNotedAt (places it) it n3 n o)
          (accesses part s)) state2
          (subst (λ (x : Machine). All (IsNotedAt (places it) x n3 n o)
          (accesses part (machine_at plan m2))) same3
          (p.noted (places it) (subst (NumbersMachine (places it)) (sym same3) numbered)
          (subst (λ (x : Machine). AreKeptAt x n3 n o) (sym same3) kept))))

      led3 : (k : ℕ) (l : Lead) (x : Node) → Contains (n ∷ o ∷ []) k → slice_get m3.nodes.items k ≡ Some x
          → Contains x.leads.items l
          → IsLed x (sights (step_of plan h.agent) (machine_at plan m))
          (changes (step_of plan h.agent) (machine_at plan m)) l
      led3 k l x among here has = elim (p.led k x l here has) [
        | inl (y, by, before) ↦
            absurd (nothing (subst (λ (ls : List Lead). Contains ls l) (empty k y among by) before))
        | inr led ↦
            subst (λ (q : Doing). IsLed x (sights q (machine_at plan m)) (changes q (machine_at plan m)) l)
            (sym is_step) (subst (λ (s : State). IsLed x (sights part s) (changes part s) l) state2 led)
      ]
        where
          nothing : Contains [] l → ⊥
          nothing none = absurd (omega (arith, none.1))

      -- a node that is neither end is as it was
      stays : (j : ℕ) → j ≢ n → j ≢ o → slice_get m3.nodes.items j ≡ slice_get m.nodes.items j
      stays j differs other =
          p.others j differs other ∙ begin_elsewhere plan m1 m2 o b' numbers1 j other
          ∙ begin_elsewhere plan m m1 n b fits.nodes.numbers j differs

      was_process : (j k : ℕ) → HasProcess m3.nodes.items j k → (j ≡ n → k < one.processes)
          → (j ≡ o → k < two.processes) → HasProcess m.nodes.items j k
      was_process j k (x, here, low) first second =
          let (y, by, grows) = was_there m.nodes.items m3.nodes.items grow3 j x here in
          elim (cases_eq j n) [
            | inl e ↦
                let count = counts.processes y (ap (λ (i : ℕ). slice_get m.nodes.items i) (sym e) ∙ by) in
                let low' : k < one.processes = first e in (y, by, omega (arith, low', count))
            | inr differs ↦ elim (cases_eq j o) [
              | inl e ↦
                  let count = counts'.processes y (ap (λ (i : ℕ). slice_get m.nodes.items i) (sym e) ∙ by) in
                  let low' : k < two.processes = second e in (y, by, omega (arith, low', count))
              | inr other ↦ (x, sym (stays j differs other) ∙ here, low)
            ]
          ]

      was_channel : (j k : ℕ) → HasChannel m3.nodes.items j k → (j ≡ n → k < one.channels)
          → (j ≡ o → k < two.channels) → HasChannel m.nodes.items j k
      was_channel j k (x, here, low) first second =
          let (y, by, grows) = was_there m.nodes.items m3.nodes.items grow3 j x here in
          elim (cases_eq j n) [
            | inl e ↦
                let count = counts.channels y (ap (λ (i : ℕ). slice_get m.nodes.items i) (sym e) ∙ by) in
                let low' : k < one.channels = first e in (y, by, omega (arith, low', count))
            | inr differs ↦ elim (cases_eq j o) [
              | inl e ↦
                  let count = counts'.channels y (ap (λ (i : ℕ). slice_get m.nodes.items i) (sym e) ∙ by) in
                  let low' : k < two.channels = second e in (y, by, omega (arith, low', count))
              | inr other ↦ (x, sym (stays j differs other) ∙ here, low)
            ]
          ]

      stays_away : (j : ℕ) → (Contains (n ∷ o ∷ []) j → ⊥)
          → slice_get m3.nodes.items j ≡ slice_get m.nodes.items j
      stays_away j away =
          stays j
          (λ e. away (subst (λ (k : ℕ). Contains (n ∷ o ∷ []) k) (sym e)
          (contains-first n (o ∷ []))))
          (λ e. away (subst (λ (k : ℕ). Contains (n ∷ o ∷ []) k) (sym e)
          (contains-rest n (o ∷ []) o (contains-first o []))))

      housed3 : WereHoused plan (n ∷ o ∷ []) h.agent f.0 (machine_at plan m) m3.nodes.items (f.1).group
          m.lodgings.items
      housed3 =
          were_housed plan f.0 m f.1 m3.nodes.items grow3 (n ∷ o ∷ []) stays_away h.agent home

      -- whoever had ended has so still
      met3 : answer ≡ Ok tt → (a : Agent) → IsMet m.nodes.items m.agents.items a
          → IsMet m3.nodes.items m.agents.items a
      met3 ok a (inl has) = inl has
      met3 ok a (inr ended) =
          inr (ended_stays plan m it fits.nodes.numbers
          (fits_on plan m m3 grow3 fits sent3 sinks3 kept3).nodes.numbers grow3 h.agent
          (answered.runs ∙ ap (λ (r : Result (Unit {0}) Reason). (r, machine_at plan it)) ok) h.opened a ended)

      found3 : answer ≡ Ok tt
          → AreFoundBefore plan n one.processes one.channels o two.processes two.channels it
      found3 ok =
          record {
            processes = λ j k has first second. met3 ok (agent.Process j k)
                ((f.1).sound.found.processes j k (was_process j k has first second));
            channels = λ j k has first second. (f.1).sound.found.channels j k (was_channel j k has first second);
            wires = (f.1).sound.found.wires;
          }

    done3 : (p : RunsAtTwo plan part n o m2 n2 (Ok tt) m3 n3)
        → IsDoneAt plan number n one.processes one.channels o two.processes two.channels n3 (it (Ok tt) p)
    done3 p =
        record {
          untold = record {
            answered = answered (Ok tt) p;
            noted = noted3 (Ok tt) p;
            led = led3 (Ok tt) p;
            fits = fits_on plan m m3 (grow3 (Ok tt) p) fits (sent3 (Ok tt) p) (sinks3 (Ok tt) p) (kept3 (Ok tt) p);
            housed = housed3 (Ok tt) p;
          };
          found = found3 (Ok tt) p refl;
        }

    pub two_outcome : (result : Result (Unit {0}) Fault) → DoesAtTwo plan part n o m2 n2 result m3 n3
        → IsOutcomeAt plan number n one.processes one.channels o two.processes two.channels n3 result m3
    two_outcome (Ok x) p =
        subst (IsDoneAt plan number n one.processes one.channels o two.processes two.channels n3)
        (sym (same3 (Ok tt) p)) (done3 p)
    two_outcome (Err (fault.Stops why)) p =
        subst (IsAnswered plan number (Err (reason_of why))) (sym (same3 (Err (reason_of why)) p))
        (answered (Err (reason_of why)) p)
    two_outcome (Err fault.OutOfMemory) p = tt

    kept_from : (answer : Result (Unit {0}) Reason) → RunsAtTwo plan part n o m2 n2 answer m3 n3
        → (result : Result (Unit {0}) Halt) (new : Machine) → OnOk result (KeepsAgents m3 new)
        → OnOk result (KeepsAgents m new)
    kept_from answer p result new kept =
        on_ok_weaker result
        (λ keeps. kept_as new (subst (λ (x : Machine). KeepsAgents x new) (same3 answer p) keeps)) kept
      where
        kept_as : (new : Machine) → KeepsAgents (it answer p) new → KeepsAgents m new
        kept_as new keeps = record { many = keeps.many; kept = keeps.kept }

    -- so the step is the one that its end says
    pub two_stepped : (outcome : Result (Unit {0}) Fault) → DoesAtTwo plan part n o m2 n2 outcome m3 n3
        → (result : Result (Unit {0}) Halt) (new : Machine)
        → (outcome ≡ Err fault.OutOfMemory → result ≡ Err halt.OutOfMemory)
        → (IsOutcomeAt plan number n one.processes one.channels o two.processes two.channels n3 outcome m3
        → IsStepped plan m3 number result new) → IsStepped plan m number result new
    two_stepped (Ok x) p result new memory stepped =
        stepped_as plan number m3 m new (ap (λ (y : Machine). y.done) (same3 (Ok tt) p)) result
        (stepped (two_outcome (Ok x) p))
    two_stepped (Err (fault.Stops why)) p result new memory stepped =
        stepped_as plan number m3 m new (ap (λ (y : Machine). y.done) (same3 (Err (reason_of why)) p)) result
        (stepped (two_outcome (Err (fault.Stops why)) p))
    two_stepped (Err fault.OutOfMemory) p result new memory stepped =
        subst (λ (r : Result (Unit {0}) Halt). IsStepped plan m number r new) (sym (memory refl)) tt

    -- and each agent keeps its number, as it does at the end
    pub two_keeps : (outcome : Result (Unit {0}) Fault) → DoesAtTwo plan part n o m2 n2 outcome m3 n3
        → (result : Result (Unit {0}) Halt) (new : Machine)
        → (outcome ≡ Err fault.OutOfMemory → result ≡ Err halt.OutOfMemory) → OnOk result (KeepsAgents m3 new)
        → OnOk result (KeepsAgents m new)
    two_keeps (Ok x) p result new memory kept = kept_from (Ok tt) p result new kept
    two_keeps (Err (fault.Stops why)) p result new memory kept = kept_from (Err (reason_of why)) p result new kept
    two_keeps (Err fault.OutOfMemory) p result new memory kept =
        subst (λ (r : Result (Unit {0}) Halt). OnOk r (KeepsAgents m new)) (sym (memory refl)) tt

-- the agent of a number
pub agent_is : (plan : Plan) (m : Machine) (number : ℕ) (h : HasStep plan m number) (a : Agent)
    → slice_get m.agents.items number ≡ Some a → h.agent ≡ agent_of m.nodes.items a
agent_is plan m number h a at =
    same_Some h.agent (agent_of m.nodes.items a)
    (sym h.numbered ∙ slice_get-map (agent_of m.nodes.items) m.agents.items number
    ∙ ap (option_map (agent_of m.nodes.items)) at)

-- a wire
module _ (plan : Plan) (m : Machine) (number : ℕ) (from to : End) (h : HasStep plan m number)
    (at : slice_get m.agents.items number ≡ Some (agent.Wire to)) (sender : sender_to plan to ≡ Some from) where
  pub wire_is : step_of plan h.agent ≡ passes plan (Some from) to
  wire_is =
      ap (step_of plan) (agent_is plan m number h (agent.Wire to) at)
      ∙ (steps_are_at_sites plan).wire to from sender

  pub wire_home : (x : Name) → h.agent ≡ machine.Process x → Contains (from.node ∷ to.node ∷ []) x.node
  wire_home x is =
      let same : machine.Wire to ≡ machine.Process x = sym (agent_is plan m number h (agent.Wire to) at) ∙ is in cc

-- a wire that joins no two ends has no step
pub no_sender : (plan : Plan) (m : Machine) (number : ℕ) (to : End) → HasStep plan m number
    → slice_get m.agents.items number ≡ Some (agent.Wire to) → sender_to plan to ≡ None → ⊥
no_sender plan m number to h at none =
    let is : h.agent ≡ machine.Wire to = agent_is plan m number h (agent.Wire to) at in
    false≢true (sym ((agents_are_open_by plan (machine_at plan m)).no_wire to none)
    ∙ ap (λ (x : machine.Agent). are_open (process_machine plan) x (machine_at plan m)) (sym is) ∙ h.opened)
