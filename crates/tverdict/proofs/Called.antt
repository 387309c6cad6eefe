-- A call on a node has done the step of an agent.
use Rattle.std.proofs.Common.{◌≡◌, ◌<◌, ◌⊎◌, ℕ, inl, inr, refl, sym, ap, ◌∙◌, subst, List, [], ◌∷◌, Some}
use Rattle.std.proofs.Common.{Ok, Err, Option, Contains, Result, arith, length}
use Rattle.std.proofs.Common.{Bool, false, true, get_or}
use Rattle.std.specs.Prelude.{option_map, slice_get, slice_set}
use Rattle.std.proofs.lemmas.Bool.{cases_eq, false≢true}
use Rattle.std.proofs.lemmas.Option.{same_Some, slice_get_read, slice_get_within, slice_get-map}
use Rattle.tclocks.specs.Own.{IsOwnYet}
use Rattle.tclocks.proofs.Lists.{contains-first}
use Rattle.tplan.specs.declared.plan.NodePlan.{NodePlan}
use Rattle.tplan.specs.declared.plan.Plan.{Plan}
use Rattle.tprocesses.specs.ChannelMessages.{channel_step}
use Rattle.tprocesses.specs.Machine as machine
use Rattle.tprocesses.specs.Machine.{process_step, site_of, step_of, stepped}
use Rattle.tprocesses.specs.Parts.{Doing, Reason, see, ◌>>=◌}
use Rattle.tprocesses.specs.Places.{Name, Standing}
use Rattle.tprocesses.specs.Values.{IsStand, Value, stand_in}
use Rattle.tprocesses.specs.Scheduling.{successor_step}
use Rattle.tprocesses.specs.Touching.{Site}
use Rattle.tprocesses.specs.Certified.{ProcessStep}
use Rattle.tcertify.specs.declared.fault.Fault.{Fault}
use Rattle.tcertify.specs.declared.fault.Fault.TheVariants as fault
use Rattle.tcertify.specs.declared.lead.Lead.{Lead}
use Rattle.tcertify.specs.declared.node.Node.{Node}
use Rattle.tcertify.specs.declared.notes.Note.{Note}
use Rattle.tcertify.specs.declared.process.Process.{Process}
use Rattle.tcertify.specs.Nodes.{Does, Grows, IsLed, NumbersNode, RunsAt, address_at, addresses, name_at, names}
use Rattle.tcertify.specs.Nodes.{node_at, node_site, nothing, workspaces}
use Rattle.tcertify.specs.Notes.{AreNoted, Numbering}
use Rattle.tcertify.specs.Running.{State, run_part}
use Rattle.tcertify.specs.Seeing.{sights}
use Rattle.tcertify.specs.Standing.{stand_of}
use Rattle.tcertify.specs.Steps.{step_of_process}
use Rattle.tcertify.specs.Walked.{accesses, changes, look_at}
use Rattle.tcertify.specs.Words.{reason_of}
use Rattle.tcertify.proofs.NodeRunning.{grows_on}
use Rattle.tcertify.proofs.NodeStands.{name_is, stand_seen}
use Rattle.tcertify.proofs.Places.{set_elsewhere, set_here}
use Rattle.tfollow.specs.Numbering.{HasNumber}
use Rattle.tfollow.specs.Sites.{is_listening}
use Rattle.tfollow.specs.Telling.{told_mode}
use Rattle.tfollow.proofs.Sited.{steps_are_at_sites}
use Rattle.tverdict.specs.declared.agent.Agent.{Agent}
use Rattle.tverdict.specs.declared.agent.Agent.TheVariants as agent
use Rattle.tverdict.specs.declared.machine.Machine.{Machine}
use Rattle.tverdict.specs.Agents.{HasProcess, IsMet, IsThere, agent_of, name_there}
use Rattle.tverdict.specs.Apart.{IsApart}
use Rattle.tverdict.specs.Calls.{DoesAfresh, IsAfresh, Recalls}
use Rattle.tverdict.specs.Listening.{ListensNowhere}
use Rattle.tverdict.specs.Lodging.{WereHoused}
use Rattle.tverdict.specs.Machines.{Follows, HasDone, HasStep, IsLast, agents, machine_at, places, state_of}
use Rattle.tverdict.specs.Numbers.{numbering}
use Rattle.tverdict.specs.Passing.{NodesGrow}
use Rattle.tverdict.specs.Stepping.{AreFoundBefore, Fits, IsAnswered, IsDone, IsOutcome}
use Rattle.tverdict.proofs.Distinct.{at_low, name_known}
use Rattle.tverdict.proofs.Ended.{all_at}
use Rattle.tverdict.proofs.Frames.{nodes_are_apart}
use Rattle.tverdict.proofs.Gone.{ended_stays}
use Rattle.tverdict.proofs.Numbered.{places_are_numbered}
use Rattle.tverdict.proofs.Housed.{were_housed}
use Rattle.tverdict.proofs.Keeping.{contains_at}
use Rattle.tverdict.proofs.Grown.{agents_same, fits_on, fits_sound, followed_on, tellable_fits}
use Rattle.tverdict.proofs.Staying.{address_or, name_or, set_grows}

-- a node of which other things were noted has grown, by nothing
numbers_afresh : (old new : Node) → IsAfresh old new → (numbering : Numbering) → NumbersNode numbering new
    → NumbersNode numbering old
numbers_afresh old new is numbering nn =
    let x = subst (NumbersNode numbering) is.same nn in
    record {
      words = x.words;
      stand = x.stand;
      ports = x.ports;
      input = x.input;
      output = x.output;
      life = x.life;
      successions = x.successions;
      error = x.error;
      halt_on_error = x.halt_on_error;
      flag_changed = x.flag_changed;
      population = x.population;
      has_run = x.has_run;
      link_input = x.link_input;
      link_output = x.link_output;
      unfinished = x.unfinished;
    }

pub grows_afresh : (old new : Node) → IsAfresh old new → Grows old new
grows_afresh old new is =
    let processes : length new.processes.items.items ≡ length old.processes.items.items =
    ap (λ (a : Node). length a.processes.items.items) is.same in
    let channels : length new.channels.items.items ≡ length old.channels.items.items =
    ap (λ (a : Node). length a.channels.items.items) is.same in
    let lives : length new.lives.items.items ≡ length old.lives.items.items =
    ap (λ (a : Node). length a.lives.items.items) is.same in
    record {
      site = ap node_site is.same;
      numbers = numbers_afresh old new is;
      processes = omega (arith, processes);
      channels = omega (arith, channels);
      lives = omega (arith, lives);
      names = λ k x e. ap (λ (a : Node). slice_get (names a) k) is.same ∙ e;
      addresses = λ k x e. ap (λ (a : Node). slice_get (addresses a) k) is.same ∙ e;
      workspaces = λ k x e. ap (λ (a : Node). slice_get (workspaces a) k) is.same ∙ e;
    }

-- the step of a process at a node
abbrev pub step_at : Plan → Site → Name → Doing
step_at plan s x = see (Standing x) >>= (λ stood. stepped plan x (stand_in stood) s)

-- it is one of the node alone, where the process does not listen
module _ (plan : Plan) (old new : Node) (k : ℕ) (known : Process)
    (has : slice_get old.processes.items.items k ≡ Some known) (alone : is_listening (stand_of known.stand) ≡ false)
  where
    abbrev x : Name
    x = name_at old k

    abbrev site_now : Site
    site_now = node_site old

    -- what follows the look at the process is the same part, whatever stands elsewhere
    part_is : (begun : Node) → IsAfresh old begun → (rest : State)
        → stepped plan x (stand_in (node_at begun rest (Standing x))) site_now
        ≡ process_step x (stand_in (node_at begun rest (Standing x))) site_now
    part_is begun afresh rest =
        let seen : node_at begun rest (Standing x) ≡ IsStand (stand_of known.stand) =
        ap (λ (b : Node). node_at b rest (Standing x)) afresh.same ∙ stand_seen old k known has rest in
        (steps_are_at_sites plan).alone x (stand_in (node_at begun rest (Standing x))) site_now
        (ap (λ (v : Value). is_listening (stand_in v)) seen ∙ alone)

    runs_alone : (begun : Node) → IsAfresh old begun → (answer : Result (Unit {0}) Reason)
        → RunsAt (step_of_process site_now x) begun answer new → RunsAt (step_at plan site_now x) begun answer new
    runs_alone begun afresh answer ran =
        record {
          runs = λ rest. ap (λ (d : Doing). run_part d (node_at begun rest)) (part_is begun afresh rest)
              ∙ ran.runs rest;
          grows = ran.grows;
          keeps = ran.keeps;
          noted = λ numbering nn rest.
              subst (λ (d : Doing). AreNoted numbering new.words.notes
              (look_at (Standing x) ∷ accesses d (node_at begun rest))) (sym (part_is begun afresh rest))
              (ran.noted numbering nn rest);
          led = λ l has. elim (ran.led l has) [
            | inl before ↦ inl before
            | inr led ↦ inr (λ rest.
                subst (λ (d : Doing). IsLed new
                (record { place = Standing x; value = node_at begun rest (Standing x) } ∷ sights d (node_at begun rest))
                (changes d (node_at begun rest)) l) (sym (part_is begun afresh rest)) (led rest))
          ];
        }

    by_result : (begun : Node) → IsAfresh old begun → (result : Result (Unit {0}) Fault)
        → Does (step_of_process site_now x) nothing begun result new
        → Does (step_at plan site_now x) nothing begun result new
    by_result begun afresh (Ok y) does = runs_alone begun afresh (Ok tt) does
    by_result begun afresh (Err (fault.Stops why)) does = runs_alone begun afresh (Err (reason_of why)) does
    by_result begun afresh (Err fault.OutOfMemory) does = tt

    does_alone : (goes_on : Bool) (result : Result (Unit {0}) Fault)
        → DoesAfresh goes_on (step_of_process site_now x) old result new
        → DoesAfresh goes_on (step_at plan site_now x) old result new
    does_alone goes_on result does =
        record {
          begun = does.begun;
          afresh = does.afresh;
          recalls = does.recalls;
          does = by_result does.begun does.afresh result does.does;
        }

-- the machine after a call on one of its nodes
module _ (plan : Plan) (m m' : Machine) (number n : ℕ) (f : Follows plan m) (h : HasStep plan m number) (old new : Node)
    (there : slice_get m.nodes.items n ≡ Some old) (set : m'.nodes.items ≡ slice_set m.nodes.items n new) (part : Doing)
    (is_step : step_of plan h.agent ≡ part) (home : (x : Name) → h.agent ≡ machine.Process x → n ≡ x.node)
    (begun : Node) (afresh : IsAfresh old begun) (goes_on : Bool) (recalls : Recalls goes_on old begun)
    (last : goes_on ≡ true → IsLast m number n) where
  abbrev it : Machine
  it = record m { nodes = m'.nodes; idle = m'.idle }

  abbrev steps : List ProcessStep
  steps = f.0

  done : HasDone plan m steps
  done = f.1

  number_old : old.words.number ≡ n
  number_old = done.sound.nodes.numbers n old there

  apart : IsApart plan m.nodes.items m.sent.items m.sinks.items n old
  apart = nodes_are_apart plan m.nodes.items m.sent.items m.sinks.items n old there number_old

  begun_at : node_at begun apart.rest ≡ machine_at plan m
  begun_at = ap (λ (b : Node). node_at b apart.rest) afresh.same ∙ apart.before

  module _ (answer : Result (Unit {0}) Reason) (runs : RunsAt part begun answer new) where
    grows : Grows old new
    grows = grows_on old begun new (grows_afresh old begun afresh) runs.grows

    number_new : new.words.number ≡ n
    number_new = ap (λ (s : Site). s.number) grows.site ∙ number_old

    runs_it : run_part (step_of plan h.agent) (machine_at plan m) ≡ (answer, machine_at plan it)
    runs_it =
        ap (λ (p : Doing). run_part p (machine_at plan m)) is_step
        ∙ ap (run_part part) (sym begun_at) ∙ runs.runs apart.rest
        ∙ ap (λ (s : State). (answer, s)) (apart.after new number_new)
        ∙ ap (λ (ns : List Node). (answer, state_of plan ns m.sent.items m.sinks.items)) (sym set)

    growing : NodesGrow m.nodes.items m'.nodes.items
    growing =
        subst (λ (ns : List Node). NodesGrow m.nodes.items ns) (sym set) (set_grows m.nodes.items n old new there grows)

    fits : Fits plan m
    fits = fits_sound plan m done.sound

    agents_are : agents it ≡ agents m
    agents_are = agents_same plan m it growing fits refl refl done.sound.kept_places

    abbrev answered : IsAnswered plan number answer it
    answered =
        record {
          steps = steps;
          count = done.count;
          agent = h.agent;
          state = machine_at plan m;
          numbered = subst (λ (list : List machine.Agent). HasNumber list h.agent number) (sym agents_are) h.numbered;
          opened = h.opened;
          runs = runs_it;
          group = done.group;
          followed = followed_on plan m it growing fits refl refl done.sound.kept_places done.group steps
              (machine_at plan m) done.followed;
          tellable = tellable_fits plan it (fits_on plan m it growing fits refl refl done.sound.kept_places);
        }

    here_it : slice_get m'.nodes.items n ≡ Some new
    here_it = ap (λ (ns : List Node). slice_get ns n) set ∙ set_here m.nodes.items n new old there

    -- a node of the machine now
    node_it : (j : ℕ) (x : Node) → slice_get m'.nodes.items j ≡ Some x
        → ((n ≡ j) × (x ≡ new)) ⊎ (slice_get m.nodes.items j ≡ Some x)
    node_it j x at = elim (cases_eq n j) [
      | inl e ↦ inl (e, sym (same_Some new x (sym (ap (λ (i : ℕ). slice_get m'.nodes.items i) (sym e) ∙ here_it) ∙ at)))
      | inr other ↦
          inr (sym (ap (λ (ns : List Node). slice_get ns j) set ∙ set_elsewhere m.nodes.items n j new other) ∙ at)
    ]

    fits_it : Fits plan it
    fits_it = fits_on plan m it growing fits refl refl done.sound.kept_places

    stays : (j : ℕ) → (Contains (n ∷ []) j → ⊥) → slice_get m'.nodes.items j ≡ slice_get m.nodes.items j
    stays j away =
        ap (λ (ns : List Node). slice_get ns j) set
        ∙ set_elsewhere m.nodes.items n j new
        (λ e. away (subst (λ (k : ℕ). Contains (n ∷ []) k) e (contains-first n [])))

    housed_it : WereHoused plan (n ∷ []) h.agent steps (machine_at plan m) m'.nodes.items done.group m.lodgings.items
    housed_it =
        were_housed plan steps m done m'.nodes.items growing (n ∷ []) stays h.agent
        (λ x is. subst (λ (k : ℕ). Contains (n ∷ []) k) (home x is) (contains-first n []))

    -- whoever had ended has so still
    met_it : answer ≡ Ok tt → (a : Agent) → IsMet m.nodes.items m.agents.items a → IsMet m'.nodes.items m.agents.items a
    met_it ok a (inl has) = inl has
    met_it ok a (inr ended) =
        inr (ended_stays plan m it fits.nodes.numbers fits_it.nodes.numbers growing h.agent
        (runs_it ∙ ap (λ (r : Result (Unit {0}) Reason). (r, machine_at plan it)) ok) h.opened a ended)

    found_it : answer ≡ Ok tt
        → AreFoundBefore plan n (length old.processes.items.items) (length old.channels.items.items) n
        (length old.processes.items.items) (length old.channels.items.items) it
    found_it ok =
        record {
          processes = λ j k has low low'. met_it ok (agent.Process j k)
              (done.sound.found.processes j k (elim (node_it j has.0 has.1) [
                | inl (same, is) ↦
                    (old, ap (λ (i : ℕ). slice_get m.nodes.items i) (sym same) ∙ there, low (sym same))
                | inr before ↦ (has.0, before, has.2)
              ]));
          channels = λ j k has low low'. done.sound.found.channels j k (elim (node_it j has.0 has.1) [
            | inl (same, is) ↦
                (old, ap (λ (i : ℕ). slice_get m.nodes.items i) (sym same) ∙ there, low (sym same))
            | inr before ↦ (has.0, before, has.2)
          ]);
          wires = done.sound.found.wires;
        }

    noted_it : AreNoted (places it) new.words.notes (accesses (step_of plan h.agent) (machine_at plan m))
    noted_it =
        subst (λ (p : Doing). AreNoted (places it) new.words.notes (accesses p (machine_at plan m))) (sym is_step)
        (subst (λ (s : State). AreNoted (places it) new.words.notes (accesses part s)) begun_at
        (runs.noted (places it)
        (places_are_numbered m'.nodes.items m.first_script n new here_it number_new) apart.rest))

    led_it : (l : Lead) → Contains new.leads.items l
        → IsLed new (sights (step_of plan h.agent) (machine_at plan m))
        (changes (step_of plan h.agent) (machine_at plan m)) l
    led_it l has = elim (runs.led l has) [
      | inl none ↦ absurd (nobody (subst (λ (ls : List Lead). Contains ls l) afresh.leads none))
      | inr led ↦
          subst (λ (p : Doing). IsLed new (sights p (machine_at plan m)) (changes p (machine_at plan m)) l)
          (sym is_step)
          (subst (λ (s : State). IsLed new (sights part s) (changes part s) l) begun_at (led apart.rest))
    ]
      where
        nobody : Contains [] l → ⊥
        nobody none = absurd (omega (arith, none.1))

    -- what is noted of earlier steps was there
    own_it : (k : ℕ) (note : Note) → k < new.words.notes.earlier → slice_get new.words.notes.items.items k ≡ Some note
        → IsOwnYet m.check number note.place (told_mode note.mode)
    own_it k note low at =
        let before : k < begun.words.notes.earlier =
        subst (λ (j : ℕ). k < j) runs.keeps.earlier low in
        let within : k < length begun.words.notes.items.items = subst (λ (j : ℕ). k < j) recalls.earlier before in
        let (x, there_x) = at_low begun.words.notes.items.items k within in
        let same : x ≡ note = same_Some x note (sym (runs.keeps.stay k x before there_x) ∙ at) in
        let was = ap (λ (o : Note). Some o) same in
        let (on, none, has) = recalls.notes note (contains_at begun.words.notes.items.items k note (there_x ∙ was)) in
        done.own number n (last on) old note there none has

  done_it : RunsAt part begun (Ok tt) new
      → IsDone plan number n (length old.processes.items.items) (length old.channels.items.items) it
  done_it runs =
      record {
        untold = record {
          answered = answered (Ok tt) runs;
          node = new;
          there = here_it (Ok tt) runs;
          noted = noted_it (Ok tt) runs;
          led = led_it (Ok tt) runs;
          own = own_it (Ok tt) runs;
          fits = fits_it (Ok tt) runs;
          housed = housed_it (Ok tt) runs;
        };
        found = found_it (Ok tt) runs refl;
      }

  outcome_it : (result : Result (Unit {0}) Fault) → Does part (λ x. tt) begun result new
      → IsOutcome plan number n (length old.processes.items.items) (length old.channels.items.items) result it
  outcome_it (Ok x) does = done_it does
  outcome_it (Err (fault.Stops why)) does = answered (Err (reason_of why)) does
  outcome_it (Err fault.OutOfMemory) does = tt

  pub outcome : (result : Result (Unit {0}) Fault) → Does part (λ x. tt) begun result new → m' ≡ it
      → IsOutcome plan number n (length old.processes.items.items) (length old.channels.items.items) result m'
  outcome result does same =
      subst (IsOutcome plan number n (length old.processes.items.items) (length old.channels.items.items) result)
      (sym same) (outcome_it result does)

-- the node of an agent that is there
module _ (plan : Plan) (m : Machine) (number n k : ℕ) (f : Follows plan m) (h : HasStep plan m number) (old : Node)
    (there : slice_get m.nodes.items n ≡ Some old) where
  planned : (p : NodePlan) × (slice_get plan.nodes n ≡ Some p)
  planned =
      let within : n < length m.nodes.items = slice_get_within m.nodes.items n old there in
      at_low plan.nodes n (omega (arith, within, (f.1).sound.nodes.many))

  site : site_of n planned.0 ≡ node_site old
  site = sym ((f.1).sound.nodes.sites n old planned.0 there planned.1)

  agent_is : (a : Agent) → slice_get m.agents.items number ≡ Some a → h.agent ≡ agent_of m.nodes.items a
  agent_is a at =
      same_Some h.agent (agent_of m.nodes.items a)
      (sym h.numbered ∙ slice_get-map (agent_of m.nodes.items) m.agents.items number
      ∙ ap (option_map (agent_of m.nodes.items)) at)

  pub process_is : slice_get m.agents.items number ≡ Some (agent.Process n k) → k < length old.processes.items.items
      → step_of plan h.agent ≡ step_at plan (node_site old) (name_at old k)
  process_is at low =
      let (p, by) = at_low old.processes.items.items k low in
      let x : Name = name_at old k in
      let at_n : x.node ≡ n =
      ap (λ (y : Name). y.node) (name_is old k p by) ∙ (f.1).sound.nodes.numbers n old there in
      ap (step_of plan) (agent_is (agent.Process n k) at
      ∙ ap (λ (o : Option Node). machine.Process (name_or n k o)) there)
      ∙ (steps_are_at_sites plan).process x planned.0
      (ap (λ (j : ℕ). slice_get plan.nodes j) at_n ∙ planned.1)
      ∙ ap (λ (s : Site). step_at plan s x) (ap (λ (j : ℕ). site_of j planned.0) at_n ∙ site)

  -- a process of another name is of this node
  pub process_home : slice_get m.agents.items number ≡ Some (agent.Process n k) → k < length old.processes.items.items
      → (x : Name) → h.agent ≡ machine.Process x → n ≡ x.node
  process_home at low x is =
      let (p, by) = at_low old.processes.items.items k low in
      let same : machine.Process (name_there m.nodes.items n k) ≡ machine.Process x =
      sym (agent_is (agent.Process n k) at) ∙ is in
      let name : name_there m.nodes.items n k ≡ x = cc in
      ap (λ (y : Name). y.node)
      (sym (name_known m.nodes.items (f.1).sound.nodes.numbers n k old p there by) ∙ name)

  -- no other agent is a process
  pub channel_home : slice_get m.agents.items number ≡ Some (agent.Channel n k)
      → (x : Name) → h.agent ≡ machine.Process x → n ≡ x.node
  channel_home at x is =
      let same : machine.Channel n _ ≡ machine.Process x = sym (agent_is (agent.Channel n k) at) ∙ is in cc

  pub successor_home : slice_get m.agents.items number ≡ Some (agent.Successor n k)
      → (x : Name) → h.agent ≡ machine.Process x → n ≡ x.node
  successor_home at x is =
      let same : machine.Successor n k ≡ machine.Process x = sym (agent_is (agent.Successor n k) at) ∙ is in cc

  pub channel_is : slice_get m.agents.items number ≡ Some (agent.Channel n k)
      → step_of plan h.agent ≡ channel_step (address_at old k) (node_site old)
  channel_is at =
      ap (step_of plan) (agent_is (agent.Channel n k) at
      ∙ ap (λ (o : Option Node). machine.Channel n (address_or k o)) there)
      ∙ (steps_are_at_sites plan).channel n (address_at old k) planned.0 planned.1
      ∙ ap (channel_step (address_at old k)) site

  pub successor_is : slice_get m.agents.items number ≡ Some (agent.Successor n k)
      → step_of plan h.agent ≡ successor_step k (node_site old)
  successor_is at =
      ap (step_of plan) (agent_is (agent.Successor n k) at)
      ∙ (steps_are_at_sites plan).successor n k planned.0 planned.1 ∙ ap (successor_step k) site

-- a process that is an agent is there
pub process_there : (plan : Plan) (m : Machine) (number n k : ℕ) → Follows plan m
    → slice_get m.agents.items number ≡ Some (agent.Process n k) → HasProcess m.nodes.items n k
process_there plan m number n k f at =
    all_at (IsThere m.nodes.items) m.agents.items (f.1).sound.there number (agent.Process n k) at

-- what a call on the node of an agent answers, as the code has it: old is what was read at the number of the node
module _ (plan : Plan) (m m' : Machine) (number n k : ℕ) (f : Follows plan m) (h : HasStep plan m number)
    (old new : Node)
    (read : old ≡ get_or m.nodes.items n old) (result : Result (Unit {0}) Fault) (processes channels : ℕ)
    (p : processes ≡ length old.processes.items.items) (q : channels ≡ length old.channels.items.items)
    (set : m'.nodes.items ≡ slice_set m.nodes.items n new)
    (same : m' ≡ record m { nodes = m'.nodes; idle = m'.idle }) where
  named : (a : Agent) → slice_get m.agents.items number ≡ Some a → IsThere m.nodes.items a
  named a at = all_at (IsThere m.nodes.items) m.agents.items (f.1).sound.there number a at

  there_at : (x : Node) → slice_get m.nodes.items n ≡ Some x → slice_get m.nodes.items n ≡ Some old
  there_at x at =
      slice_get_read m.nodes.items (length m.nodes.items) n old refl (slice_get_within m.nodes.items n x at) read

  by_part : (part : Doing) (goes_on : Bool) → (goes_on ≡ true → IsLast m number n)
      → slice_get m.nodes.items n ≡ Some old → step_of plan h.agent ≡ part
      → ((x : Name) → h.agent ≡ machine.Process x → n ≡ x.node) → DoesAfresh goes_on part old result new
      → IsOutcome plan number n processes channels result m'
  by_part part goes_on last there is home does =
      subst (λ (i : ℕ). IsOutcome plan number n i channels result m') (sym p)
      (subst (λ (i : ℕ). IsOutcome plan number n (length old.processes.items.items) i result m') (sym q)
      (outcome plan m m' number n f h old new there set part is home does.begun does.afresh goes_on does.recalls
      last result does.does same))

  pub process_done : (goes_on : Bool) → (goes_on ≡ true → IsLast m number n) → ListensNowhere m.nodes.items n k
      → slice_get m.agents.items number ≡ Some (agent.Process n k)
      → DoesAfresh goes_on (step_of_process (node_site old) (name_at old k)) old result new
      → IsOutcome plan number n processes channels result m'
  process_done goes_on last alone at does =
      let (x, by, low) = named (agent.Process n k) at in
      let there = there_at x by in
      let within = subst (λ (a : Node). k < length a.processes.items.items) (same_Some x old (sym by ∙ there)) low in
      let (known, has) = at_low old.processes.items.items k within in
      by_part (step_at plan (node_site old) (name_at old k)) goes_on last there
      (process_is plan m number n k f h old there at within)
      (process_home plan m number n k f h old there at within)
      (does_alone plan old new k known has (alone old known there has) goes_on result does)

  pub channel_done : slice_get m.agents.items number ≡ Some (agent.Channel n k)
      → DoesAfresh false (channel_step (address_at old k) (node_site old)) old result new
      → IsOutcome plan number n processes channels result m'
  channel_done at does =
      let (x, by, low) = named (agent.Channel n k) at in
      let there = there_at x by in
      by_part (channel_step (address_at old k) (node_site old)) false (λ on. absurd (false≢true on)) there
      (channel_is plan m number n k f h old there at) (channel_home plan m number n k f h old there at) does

  pub successor_done : slice_get m.agents.items number ≡ Some (agent.Successor n k)
      → DoesAfresh false (successor_step k (node_site old)) old result new
      → IsOutcome plan number n processes channels result m'
  successor_done at does =
      let (x, by, low) = named (agent.Successor n k) at in
      let there = there_at x by in
      by_part (successor_step k (node_site old)) false (λ on. absurd (false≢true on)) there
      (successor_is plan m number n k f h old there at)
      (successor_home plan m number n k f h old there at) does
