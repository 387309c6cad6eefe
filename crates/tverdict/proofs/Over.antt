-- A step from the call that has done it to its end.
use Rattle.std.proofs.Common.{◌≡◌, ◌≤◌, ◌<◌, ◌+◌, ◌⊎◌, ℕ, zero, suc, inl, inr, refl, sym, ap, ◌∙◌, subst, List}
use Rattle.std.proofs.Common.{[], ◌∷◌, Ok, Err, Some, All, Contains, arith, length, map, reverse}
use Rattle.std.proofs.Common.{Option, None, drop, false}
use Rattle.std.specs.Prelude.{nat_lt, replicate, slice_get, slice_index, unwrap_or}
use Rattle.std.proofs.lemmas.Bool.{cases_eq, lt-ltb}
use Rattle.std.proofs.lemmas.List.{length-append, length-map, length-replicate}
use Rattle.std.proofs.lemmas.Option.{none-some, same_Some, slice_get_within}
use Rattle.tplan.specs.declared.plan.Plan.{Plan}
use Rattle.tagents.specs.Walks.{label_of}
use Rattle.tclocks.specs.Checks.{Check, with_cleared}
use Rattle.tclocks.proofs.Lists.{contains-first, contains-rest}
use Rattle.tclocks.specs.declared.step.Step.{Step}
use Rattle.tclocks.specs.Followed.{IsStep}
use Rattle.tclocks.specs.Own.{IsOwnYet}
use Rattle.tclocks.specs.Owning.{HasNoNewSteps}
use Rattle.tplan.specs.Wires.{end_at}
use Rattle.tprocesses.specs.Places.{Name, Image}
use Rattle.tprocesses.specs.Parts.{Reason}
use Rattle.tprocesses.specs.Machine as machine
use Rattle.tprocesses.specs.Machine.{Processor, process_machine, role_at, step_of}
use Rattle.tprocesses.proofs.Lived.{steps_tell_lives}
use Rattle.tcertify.specs.declared.lead.Lead.{Lead}
use Rattle.tcertify.specs.declared.lead.Lead.TheVariants as lead
use Rattle.tcertify.specs.declared.node.Node.{Node}
use Rattle.tcertify.specs.declared.notes.Note.{Note}
use Rattle.tcertify.specs.declared.notes.Notes.{Notes}
use Rattle.tcertify.specs.declared.side.Side.TheVariants.{Input, Output}
use Rattle.tcertify.specs.Nodes.{IsLed}
use Rattle.tcertify.specs.Running.{State}
use Rattle.tcertify.specs.Seeing.{sights}
use Rattle.tcertify.specs.Walked.{accesses, changes}
use Rattle.tfollow.specs.Following.{IsFollowed, IsFollowedStep, IsRefusedStep, IsToldOrOwn, KeptAccess, Told}
use Rattle.tfollow.specs.Laws.{HasRace}
use Rattle.tfollow.specs.Leading.{RunLeads}
use Rattle.tfollow.specs.Numbering.{HasNumber}
use Rattle.tfollow.specs.Telling.{told_mode, told_of}
use Rattle.tfollow.proofs.Counting.{below-or-not}
use Rattle.tfollow.proofs.Growing.{places_may_come}
use Rattle.tfollow.proofs.Handing.{slots_may_be_cleared}
use Rattle.tfollow.proofs.Counted.{runs_tell_leads}
use Rattle.tfollow.proofs.Opened.{steps_lead_by}
use Rattle.tfollow.proofs.Refused.{refusals_tell_races}
use Rattle.tfollow.proofs.Stepping.{does, goes, steps_are_followed, stops_are_told}
use Rattle.tfollow.proofs.Telling.{notes_are_told_or_own}
use Rattle.tverdict.specs.declared.agent.Agent.{Agent}
use Rattle.tverdict.specs.declared.agent.Agent.TheVariants as agent
use Rattle.tverdict.specs.declared.halt.Halt.{Halt}
use Rattle.tverdict.specs.declared.halt.Halt.TheVariants as halt
use Rattle.tverdict.specs.declared.machine.LastStep.{LastStep}
use Rattle.tverdict.specs.declared.machine.Machine.{Machine}
use Rattle.tverdict.specs.declared.verdict.Race.{Race}
use Rattle.tverdict.specs.Agents.{HasChannel, HasProcess, IsEnded, IsMet, address_there, agent_of, name_there}
use Rattle.tverdict.specs.Lodging.{LodgesAt, WereHoused}
use Rattle.tverdict.specs.Machines.{AreFound, AreOwn, Follows, agents, machine_at, places}
use Rattle.tverdict.specs.Stepping.{AddsPlaces, AreFoundBefore, Closes, Fits, HasMore, HasTold, IsAnswered, IsDone}
use Rattle.tverdict.specs.Stepping.{IsLedTo, IsUntold, KeepsAgents, KeepsTold}
use Rattle.tverdict.specs.Told.{IsStepHalted, IsStepRefused}
use Rattle.tverdict.specs.Wired.{IsDoneAt, IsUntoldAt}
use Rattle.tverdict.specs.Verdicts.{EndsInRace, EndsStopped, IsStepped}
use Rattle.tverdict.proofs.Frames.{chosen}
use Rattle.tverdict.proofs.Recalled.{each_told_or_own, no_new_steps, own_after, own_cleared, own_placed}
use Rattle.tverdict.proofs.Housed.{all_housed}
use Rattle.tverdict.proofs.Staying.{address_or, name_or}
use Rattle.tverdict.proofs.Told.{places_accessed}
use Rattle.tverdict.proofs.Keeping.{found_more, found_still, keeps_agents, met_more, more_same, more_twice}

-- a step that stops
pub answer_stops : (plan : Plan) (number : ℕ) (why : Reason) (m : Machine) → IsAnswered plan number (Err why) m
    → EndsStopped plan m number why
answer_stops plan number why m a =
    record {
      steps = a.steps;
      count = a.count;
      agent = a.agent;
      numbered = a.numbered;
      state = a.state;
      stopped = stops_are_told plan (places m) a.group (agents m) a.steps a.agent m.check why a.state
          (machine_at plan m) a.followed a.opened a.runs;
      tellable = a.tellable;
    }

-- what is kept of a place that comes
abbrev nothing_kept : List KeptAccess
nothing_kept = []

-- the check has more places
module _ (m m' : Machine) (count : ℕ) (adds : AddsPlaces m count m') where
  abbrev with_more : Machine
  with_more = record m { check = m'.check; fresh_place = m'.fresh_place }

  abbrev answered_it : (plan : Plan) (number : ℕ) → IsAnswered plan number (Ok tt) m
      → IsAnswered plan number (Ok tt) with_more
  answered_it plan number a =
      record {
        steps = a.steps;
        count = a.count;
        agent = a.agent;
        state = a.state;
        numbered = a.numbered;
        opened = a.opened;
        runs = a.runs;
        group = a.group;
        followed = subst (λ (c : Check). IsFollowed plan (places m) a.group (agents m) a.steps c a.state)
            (sym adds.check)
            (places_may_come plan (places m) (places m) a.group (agents m) a.steps m.check a.state count a.followed
            (λ p low. refl));
        tellable = record { there = a.tellable.there; numbers = a.tellable.numbers };
      }

  fits_it : (plan : Plan) → Fits plan m → Fits plan with_more
  fits_it plan f =
      record {
        nodes = f.nodes;
        sent = f.sent;
        sinks = f.sinks;
        wires = f.wires;
        there = f.there;
        candidates = f.candidates;
        places = ap (λ (c : Check). length c.places) adds.check
            ∙ length-append m.check.places (replicate count nothing_kept)
            ∙ ap (λ (k : ℕ). length m.check.places + k) (length-replicate count nothing_kept)
            ∙ ap (λ (k : ℕ). k + count) f.places ∙ sym adds.fresh;
        few = adds.few;
        kept_places = f.kept_places;
      }

  untold_it : (plan : Plan) (number n : ℕ) → IsUntold plan number n m → IsUntold plan number n with_more
  untold_it plan number n u =
      record {
        answered = answered_it plan number u.answered;
        node = u.node;
        there = u.there;
        noted = u.noted;
        led = u.led;
        own = λ k note low at. subst (λ (c : Check). IsOwnYet c number note.place (told_mode note.mode))
            (sym adds.check)
            (own_placed m.check number note.place (told_mode note.mode) count (no_new_steps plan (places m)
            u.answered.group (agents m) u.answered.steps m.check u.answered.state u.answered.followed).begun
            (u.own k note low at));
        fits = fits_it plan u.fits;
        housed = u.housed;
      }

  untold_at_it : (plan : Plan) (number n o : ℕ) (others : Notes) → IsUntoldAt plan number n o others m
      → IsUntoldAt plan number n o others with_more
  untold_at_it plan number n o others u =
      record {
        answered = answered_it plan number u.answered;
        noted = λ kept. u.noted (record { one = kept.one; other = kept.other });
        led = u.led;
        fits = fits_it plan u.fits;
        housed = u.housed;
      }

  pub untold_at_more : (plan : Plan) (number n o : ℕ) (others : Notes) → IsUntoldAt plan number n o others m
      → IsUntoldAt plan number n o others m'
  untold_at_more plan number n o others u =
      subst (IsUntoldAt plan number n o others) (sym adds.same) (untold_at_it plan number n o others u)

  pub untold_more : (plan : Plan) (number n : ℕ) → IsUntold plan number n m → IsUntold plan number n m'
  untold_more plan number n u = subst (IsUntold plan number n) (sym adds.same) (untold_it plan number n u)

  pub places_more : HasMore m m'
  places_more =
      record {
        nodes = ap (λ (x : Machine). x.nodes.items) adds.same;
        done = ap (λ (x : Machine). x.done) adds.same;
        kept = keeps_agents m m' (ap (λ (x : Machine). x.agents) adds.same);
      }

-- a node of the machine is one of the plan
pub is_processor : (plan : Plan) (m : Machine) (n : ℕ) (node : Node) → Fits plan m
    → slice_get m.nodes.items n ≡ Some node
    → role_at plan n ≡ Processor
is_processor plan m n node f there =
    let within : n < length m.nodes.items = slice_get_within m.nodes.items n node there in
    let low : n < length plan.nodes = omega (arith, within, f.nodes.many) in
    chosen (nat_lt n (length plan.nodes)) Processor _ (lt-ltb n (length plan.nodes) low)

-- what a lead of a node tells is a lead of the step
module _ (plan : Plan) (m : Machine) (f : Fits plan m) (a : machine.Agent) (s : State) (n : ℕ) (node : Node)
    (there : slice_get m.nodes.items n ≡ Some node) where
  node_number : node.words.number ≡ n
  node_number = f.nodes.numbers n node there

  pub by_lead : (l : Lead) (x : Agent) → IsLed node (sights (step_of plan a) s) (changes (step_of plan a) s) l
      → IsLedTo plan n l x → RunLeads plan a s (agent_of m.nodes.items x)
  by_lead (lead.Process k) x (y, at, shut) is =
      let name : name_there m.nodes.items n k ≡ y =
      ap (name_or n k) there
      ∙ ap (λ (o : Option Name). unwrap_or o (record { node = 0; root = Image 0; path = [] })) at in
      subst (λ (b : machine.Agent). RunLeads plan a s b)
      (ap machine.Process (sym name) ∙ ap (agent_of m.nodes.items) (sym is))
      ((steps_lead_by plan a s).process y shut.value shut.there shut.shut)
  by_lead (lead.Channel k) x (c, at, (side, shut)) is =
      let address : address_there m.nodes.items n k ≡ c =
      ap (address_or k) there
      ∙ ap (λ (o : Option ℕ). unwrap_or o 0) at in
      subst (λ (b : machine.Agent). RunLeads plan a s b)
      (ap (λ (j : ℕ). machine.Channel j c) node_number ∙ ap (machine.Channel n) (sym address)
      ∙ ap (agent_of m.nodes.items) (sym is))
      ((steps_lead_by plan a s).channel node.words.number c side shut.value shut.there shut.shut)
  by_lead (lead.Link k Input) x shut (e, receives, is) =
      let end : e ≡ end_at node.words.number k = receives ∙ ap (λ (j : ℕ). end_at j k) (sym node_number) in
      subst (λ (b : machine.Agent). RunLeads plan a s b)
      (ap machine.Wire (sym end) ∙ ap (agent_of m.nodes.items) (sym is))
      ((steps_lead_by plan a s).input (end_at node.words.number k) shut.value
      (ap (role_at plan) node_number ∙ is_processor plan m n node f there) shut.there shut.shut)
  by_lead (lead.Link k Output) x shut (e, receives, is) =
      subst (λ (b : machine.Agent). RunLeads plan a s b) (ap (agent_of m.nodes.items) (sym is))
      ((steps_lead_by plan a s).output e (end_at node.words.number k) shut.value
      (receives ∙ ap (λ (j : ℕ). Some (end_at j k)) (sym node_number))
      (ap (role_at plan) node_number ∙ is_processor plan m n node f there) shut.there shut.shut)
  by_lead (lead.Count k) x (p, counted) is =
      subst (λ (b : machine.Agent). RunLeads plan a s b)
      (ap (λ (j : ℕ). machine.Successor j k) node_number ∙ ap (agent_of m.nodes.items) (sym is))
      ((steps_lead_by plan a s).count node.words.number k p counted)

-- the step of an agent that is answered is told to the check
module _ (plan : Plan) (number : ℕ) (m : Machine) (done : IsAnswered plan number (Ok tt) m) (fits : Fits plan m) where
  abbrev a : machine.Agent
  a = done.agent

  abbrev s : State
  s = done.state

  pub told_step : (c : Check) (at : List ℕ) (told : List Told)
      → WereHoused plan at a done.steps s m.nodes.items done.group m.lodgings.items
      → IsStep number (number ∷ []) told m.check c
      → All (IsToldOrOwn (places m) m.check number told) (accesses (step_of plan a) s)
      → ((n : ℕ) → at ≡ n ∷ [] → AreOwn m.nodes.items c number n)
      → ((n : ℕ) (l : Lead) (node : Node) → Contains at n → slice_get m.nodes.items n ≡ Some node
      → Contains node.leads.items l → IsLed node (sights (step_of plan a) s) (changes (step_of plan a) s) l)
      → HasTold plan number at (record m { check = c })
  told_step c at told housed is covered own led =
      let step : IsFollowedStep plan (places m) done.group (agents m) number a told m.check c s (machine_at plan m) =
      record {
        listed = done.numbered;
        opened = done.opened;
        runs = done.runs;
        checked = is;
        covered = covered;
      } in
      record {
        step = label_of (process_machine plan) a s;
        earlier = done.steps;
        count = done.count;
        numbered = done.numbered;
        group = done.group;
        followed = steps_are_followed plan (places m) done.group (agents m) done.steps number a told m.check c s
            (machine_at plan m) done.followed step;
        leads = λ n l x among has named other.
            runs_tell_leads plan a (agent_of m.nodes.items x) s (machine_at plan m) done.opened done.runs other
            (by_lead plan m fits a s n has.0 has.1 l x (led n l has.0 among has.1 has.2) named);
        fits = record {
          nodes = fits.nodes;
          sent = fits.sent;
          sinks = fits.sinks;
          wires = fits.wires;
          there = fits.there;
          candidates = fits.candidates;
          places = places_accessed _ told _ c is ∙ fits.places;
          few = fits.few;
          kept_places = fits.kept_places;
        };
        before = s;
        tells = λ n.
            steps_tell_lives plan n s (machine_at plan m) (label_of (process_machine plan) a s)
            (record { steps = reverse done.steps; run = done.followed.run })
            (does plan a s (machine_at plan m) done.runs done.opened) (goes plan a s (machine_at plan m) done.runs);
        housed = housed;
        own = own;
      }

  -- or has a race
  refused_step : (c : Check) (race : Race) → IsStepRefused number m.check c race
      → EndsInRace plan (record m { check = c }) race
  refused_step c race r =
      let by : number ≡ race.step.agent = sym (ap (λ (x : Step). x.agent) r.same) in
      let refused : IsRefusedStep plan (places m) done.group (agents m) number a r.told
      (record { place = race.place; mode = race.mode }) race.earlier m.check c s (machine_at plan m) =
      record { listed = done.numbered; opened = done.opened; runs = done.runs; checked = r.checked; refused = r.first }
      in
      record {
        steps = done.steps;
        count = done.count;
        agent = a;
        numbered = subst (HasNumber (agents m) a) by done.numbered;
        group = done.group;
        numbers = done.followed.numbered;
        check = c;
        state = s;
        found = subst (λ (j : ℕ). HasRace plan done.group done.steps j a
            (record { place = race.place; mode = race.mode }) race.earlier c s (machine_at plan m)) by
            (refusals_tell_races plan (places m) done.group (agents m) done.steps number a r.told
            (record { place = race.place; mode = race.mode }) race.earlier m.check c s (machine_at plan m)
            done.followed refused);
        tellable = record { there = done.tellable.there; numbers = done.tellable.numbers };
      }

  -- or memory was out
  pub halted_step : (c : Check) (h : Halt) → IsStepHalted number m.check c h
      → IsStepped plan m number (Err h) (record m { check = c })
  halted_step c (halt.Race race) r = refused_step c race r
  halted_step c halt.OutOfMemory r = tt
  halted_step c (halt.Stops why) r = absurd r

-- the step of an agent at one node
module _ (plan : Plan) (number n : ℕ) (m : Machine) (u : IsUntold plan number n m) (c : Check)
    (is : IsStep number (number ∷ [])
    (map told_of (drop u.node.words.notes.earlier u.node.words.notes.items.items)) m.check c) where
  abbrev notes : List Note
  notes = u.node.words.notes.items.items

  abbrev earlier : ℕ
  earlier = u.node.words.notes.earlier

  abbrev told : List Told
  told = map told_of (drop earlier notes)

  none : HasNoNewSteps m.check
  none =
      no_new_steps plan (places m) u.answered.group (agents m) u.answered.steps m.check u.answered.state
      u.answered.followed

  low : number < length m.check.clocks
  low =
      let within : number < length (agents m) =
      slice_get_within (agents m) number u.answered.agent u.answered.numbered in
      let clocks : length m.check.clocks ≡ length (agents m) = u.answered.followed.clocks in
      omega (arith, within, clocks)

  is_it : (node : Node) (k : ℕ) → n ≡ k → slice_get m.nodes.items k ≡ Some node → node ≡ u.node
  is_it node k same there =
      same_Some node u.node (sym there ∙ ap (λ (i : ℕ). slice_get m.nodes.items i) (sym same) ∙ u.there)

  only : {k : ℕ} → Contains (n ∷ []) k → n ≡ k
  only (zero, within, e) = e
  only (suc i, within, e) = absurd (omega (arith, within))

  own_told : (k : ℕ) → n ∷ [] ≡ k ∷ [] → AreOwn m.nodes.items c number k
  own_told k among node note there no_lead has =
      let it : node ≡ u.node = is_it node k (ap (λ (ns : List ℕ). slice_index ns 0) among) there in
      own_after m.check c number notes earlier low none u.own is note
      (subst (λ (x : Node). Contains x.words.notes.items.items note) it has)

  pub told_at : u.node.words.notes.is_lost ≡ false → HasTold plan number (n ∷ []) (record m { check = c })
  told_at kept =
      told_step plan number m u.answered u.fits c (n ∷ []) told u.housed is
      (notes_are_told_or_own (places m) m.check number notes told
      (accesses (step_of plan u.answered.agent) u.answered.state) (u.noted kept)
      (each_told_or_own m.check c number notes earlier low none u.own is))
      own_told
      (λ k l node among there has.
      let it : node ≡ u.node = is_it node k (only among) there in
      subst (λ (x : Node). IsLed x (sights (step_of plan u.answered.agent) u.answered.state)
      (changes (step_of plan u.answered.agent) u.answered.state) l) (sym it)
      (u.led l (subst (λ (x : Node). Contains x.leads.items l) it has)))

-- the agent that stepped, with its clock and slot
pub agent_there : (plan : Plan) (number : ℕ) (at : List ℕ) (m : Machine) → HasTold plan number at m
    → number < length m.agents.items
agent_there plan number at m t =
    subst (λ (k : ℕ). number < k) (length-map m.agents.items (agent_of m.nodes.items))
    (slice_get_within (agents m) number t.step.agent t.numbered)

pub clock_there : (plan : Plan) (number : ℕ) (at : List ℕ) (m : Machine) → HasTold plan number at m
    → number < length m.check.clocks
clock_there plan number at m t =
    let within : number < length (agents m) = slice_get_within (agents m) number t.step.agent t.numbered in
    let clocks : length m.check.clocks ≡ length (agents m) = t.followed.clocks in
    omega (arith, within, clocks)

pub slot_there : (plan : Plan) (number : ℕ) (at : List ℕ) (m : Machine) → HasTold plan number at m
    → number < length m.check.slots
slot_there plan number at m t =
    let within : number < length (agents m) = slice_get_within (agents m) number t.step.agent t.numbered in
    let slots : length m.check.slots ≡ length (agents m) = t.followed.slots in
    omega (arith, within, slots)

-- so all agents are found in the end
module _ (plan : Plan) (one processes channels other processes' channels' : ℕ) (before first second after : Machine)
    (found : AreFoundBefore plan one processes channels other processes' channels' before)
    (more : HasMore before first) (two : HasMore first second) (three : HasMore second after)
    (first_processes : (k : ℕ) → processes ≤ k → HasProcess first.nodes.items one k
    → IsMet first.nodes.items first.agents.items (agent.Process one k))
    (first_channels : (k : ℕ) → channels ≤ k → HasChannel first.nodes.items one k
    → Contains first.agents.items (agent.Channel one k))
    (second_processes : (k : ℕ) → processes' ≤ k → HasProcess second.nodes.items other k
    → IsMet second.nodes.items second.agents.items (agent.Process other k))
    (second_channels : (k : ℕ) → channels' ≤ k → HasChannel second.nodes.items other k
    → Contains second.agents.items (agent.Channel other k)) where
  later : HasMore first after
  later = more_twice first second after two three

  all_more : HasMore before after
  all_more = more_twice before first after more later

  process_found : (j k : ℕ) → HasProcess after.nodes.items j k
      → IsMet after.nodes.items after.agents.items (agent.Process j k)
  process_found j k has = by (cases_eq j one) (cases_eq j other) (below-or-not k processes) (below-or-not k processes')
    where
      at_first : HasProcess first.nodes.items j k
      at_first = subst (λ (v : List Node). HasProcess v j k) later.nodes has

      at_second : HasProcess second.nodes.items j k
      at_second = subst (λ (v : List Node). HasProcess v j k) three.nodes has

      at_before : HasProcess before.nodes.items j k
      at_before = subst (λ (v : List Node). HasProcess v j k) all_more.nodes has

      by_first : j ≡ one → processes ≤ k → IsMet after.nodes.items after.agents.items (agent.Process j k)
      by_first e high =
          met_more first after later (agent.Process j k)
          (subst (λ (i : ℕ). IsMet first.nodes.items first.agents.items (agent.Process i k)) (sym e)
          (first_processes k high (subst (λ (i : ℕ). HasProcess first.nodes.items i k) e at_first)))

      by_second : j ≡ other → processes' ≤ k → IsMet after.nodes.items after.agents.items (agent.Process j k)
      by_second e high =
          met_more second after three (agent.Process j k)
          (subst (λ (i : ℕ). IsMet second.nodes.items second.agents.items (agent.Process i k)) (sym e)
          (second_processes k high (subst (λ (i : ℕ). HasProcess second.nodes.items i k) e at_second)))

      by_before : (j ≡ one → k < processes) → (j ≡ other → k < processes')
          → IsMet after.nodes.items after.agents.items (agent.Process j k)
      by_before low low' = met_more before after all_more (agent.Process j k) (found.processes j k at_before low low')

      by : (j ≡ one) ⊎ (j ≡ one → ⊥) → (j ≡ other) ⊎ (j ≡ other → ⊥) → (k < processes) ⊎ (processes ≤ k)
          → (k < processes') ⊎ (processes' ≤ k) → IsMet after.nodes.items after.agents.items (agent.Process j k)
      by (inl e) o (inr high) l = by_first e high
      by o (inl e) l (inr high) = by_second e high
      by (inl e) (inl d) (inl low) (inl low') = by_before (λ x. low) (λ x. low')
      by (inl e) (inr differs) (inl low) l = by_before (λ x. low) (λ x. absurd (differs x))
      by (inr differs) (inl d) l (inl low') = by_before (λ x. absurd (differs x)) (λ x. low')
      by (inr differs) (inr not) l l' = by_before (λ x. absurd (differs x)) (λ x. absurd (not x))

  -- what cannot end is found still
  still : (a : Agent) → (IsEnded after.nodes.items a → ⊥) → (m : Machine) → HasMore m after → Contains m.agents.items a
      → Contains after.agents.items a
  still a none m to has = found_still after.nodes.items after.agents.items a none (found_more m after to a has)

  channel_found : (j k : ℕ) → HasChannel after.nodes.items j k → Contains after.agents.items (agent.Channel j k)
  channel_found j k has = by (cases_eq j one) (cases_eq j other) (below-or-not k channels) (below-or-not k channels')
    where
      at_first : HasChannel first.nodes.items j k
      at_first = subst (λ (v : List Node). HasChannel v j k) later.nodes has

      at_second : HasChannel second.nodes.items j k
      at_second = subst (λ (v : List Node). HasChannel v j k) three.nodes has

      at_before : HasChannel before.nodes.items j k
      at_before = subst (λ (v : List Node). HasChannel v j k) all_more.nodes has

      by_first : j ≡ one → channels ≤ k → Contains after.agents.items (agent.Channel j k)
      by_first e high =
          still (agent.Channel j k) (λ x. x) first later
          (subst (λ (i : ℕ). Contains first.agents.items (agent.Channel i k)) (sym e)
          (first_channels k high (subst (λ (i : ℕ). HasChannel first.nodes.items i k) e at_first)))

      by_second : j ≡ other → channels' ≤ k → Contains after.agents.items (agent.Channel j k)
      by_second e high =
          still (agent.Channel j k) (λ x. x) second three
          (subst (λ (i : ℕ). Contains second.agents.items (agent.Channel i k)) (sym e)
          (second_channels k high (subst (λ (i : ℕ). HasChannel second.nodes.items i k) e at_second)))

      by_before : (j ≡ one → k < channels) → (j ≡ other → k < channels')
          → Contains after.agents.items (agent.Channel j k)
      by_before low low' = still (agent.Channel j k) (λ x. x) before all_more (found.channels j k at_before low low')

      by : (j ≡ one) ⊎ (j ≡ one → ⊥) → (j ≡ other) ⊎ (j ≡ other → ⊥) → (k < channels) ⊎ (channels ≤ k)
          → (k < channels') ⊎ (channels' ≤ k) → Contains after.agents.items (agent.Channel j k)
      by (inl e) o (inr high) l = by_first e high
      by o (inl e) l (inr high) = by_second e high
      by (inl e) (inl d) (inl low) (inl low') = by_before (λ x. low) (λ x. low')
      by (inl e) (inr differs) (inl low) l = by_before (λ x. low) (λ x. absurd (differs x))
      by (inr differs) (inl d) l (inl low') = by_before (λ x. absurd (differs x)) (λ x. low')
      by (inr differs) (inr not) l l' = by_before (λ x. absurd (differs x)) (λ x. absurd (not x))

  pub all_found : AreFound plan after.nodes.items after.agents.items
  all_found =
      record {
        processes = process_found;
        channels = channel_found;
        wires = λ e f joined. still (agent.Wire e) (λ x. x) before all_more (found.wires e f joined);
      }

-- berths change nothing else
pub lodged_more : (number : ℕ) (at : List ℕ) (m new : Machine) → LodgesAt number at m new → HasMore m new
lodged_more number at m new lodges =
    record {
      nodes = ap (λ (x : Machine). x.nodes.items) lodges.same;
      done = ap (λ (x : Machine). x.done) lodges.same;
      kept = keeps_agents m new (ap (λ (x : Machine). x.agents) lodges.same);
    }

pub slot_still : (plan : Plan) (number : ℕ) (at : List ℕ) (m new : Machine) → HasTold plan number at m
    → LodgesAt number at m new → number < length new.check.slots
slot_still plan number at m new t lodges =
    subst (λ (y : Machine). number < length y.check.slots) (sym lodges.same) (slot_there plan number at m t)

-- a step that is over is one more of the run
module _ (plan : Plan) (number : ℕ) (at : List ℕ) (m l m' : Machine) (lodges : LodgesAt number at m l)
    (last : Option LastStep) (closes : Closes l number last m')
    (at_one : (x : LastStep) → last ≡ Some x → (number ≡ x.number) × (at ≡ x.node ∷ []))
    (t : HasTold plan number at m)
    (found : AreFound plan m.nodes.items m.agents.items) where
  abbrev closed : Machine
  closed = record m { lodgings = l.lodgings; check = m'.check; spare = m'.spare; done = m'.done; last = last }

  cleared : m'.check ≡ with_cleared number m.check
  cleared = closes.check ∙ ap (λ (x : Machine). with_cleared number x.check) lodges.same

  follows_closed : Follows plan closed
  follows_closed = (
    t.step ∷ t.earlier,
    record {
      count = counted t.count (closes.done ∙ ap (λ (x : Machine). x.done + 1) lodges.same);
      sound = record {
        nodes = t.fits.nodes;
        sent = t.fits.sent;
        sinks = t.fits.sinks;
        wires = t.fits.wires;
        found = found;
        there = t.fits.there;
        candidates = t.fits.candidates;
        places = ap (λ (c : Check). length c.places) cleared ∙ t.fits.places;
        few = t.fits.few;
        kept_places = t.fits.kept_places;
      };
      group = t.group;
      followed = subst (λ (c : Check). IsFollowed plan (places m) t.group (agents m) (t.step ∷ t.earlier) c
          (machine_at plan m)) (sym cleared)
          (slots_may_be_cleared plan (places m) t.group (agents m) (t.step ∷ t.earlier) m.check (machine_at plan m)
          number t.followed);
      housed = all_housed plan number at m l t lodges;
      own = λ j n is.
          let (same, one) = at_one (record { number = j; node = n }) is in
          subst (λ (c : Check). AreOwn m.nodes.items c j n) (sym cleared)
          (subst (λ (i : ℕ). AreOwn m.nodes.items (with_cleared number m.check) i n) same
          (own_cleared m.check (no_new_steps plan (places m) t.group (agents m) (t.step ∷ t.earlier) m.check
          (machine_at plan m) t.followed).begun m.nodes.items number n (t.own n one) number));
    },
  )
    where
      counted : length t.earlier ≡ m.done → m'.done ≡ m.done + 1 → length (t.step ∷ t.earlier) ≡ m'.done
      counted e one = omega (arith, e, one)

  pub follows_on : Follows plan m'
  follows_on =
      subst (Follows plan)
      (sym (closes.same
      ∙ ap (λ (x : Machine). record x { check = m'.check; spare = m'.spare; done = m'.done; last = last })
      lodges.same))
      follows_closed

-- all of it at one node, after the call
module _ (plan : Plan) (number n processes channels : ℕ) (before placed told led found lodged after : Machine)
    (done : IsDone plan number n processes channels before) (one : HasMore before placed) (two : HasMore placed told)
    (t : HasTold plan number (n ∷ []) told) (three : KeepsTold number n told led)
    (four : KeepsTold number n led found)
    (new_processes : (k : ℕ) → processes ≤ k → HasProcess found.nodes.items n k
    → IsMet found.nodes.items found.agents.items (agent.Process n k))
    (new_channels : (k : ℕ) → channels ≤ k → HasChannel found.nodes.items n k
    → Contains found.agents.items (agent.Channel n k))
    (lodges : LodgesAt number (n ∷ []) found lodged)
    (closes : Closes lodged number (Some (record { number = number; node = n })) after) where
  to_found : HasMore before found
  to_found =
      more_twice before led found (more_twice before told led (more_twice before placed told one two) three.more)
      four.more

  pub finished : Follows plan after × (after.done ≡ before.done + 1)
  finished = (
    follows_on plan number (n ∷ []) found lodged after lodges (Some (record { number = number; node = n })) closes
        (λ x is.
        let same : record { number = number; node = n } ≡ x = same_Some (record { number = number; node = n }) x is in
        (ap (λ (y : LastStep). y.number) same, ap (λ (y : LastStep). y.node ∷ []) same))
        (four.told plan (n ∷ []) (contains-first n []) (three.told plan (n ∷ []) (contains-first n []) t))
        (all_found plan n processes channels n processes channels before found found found done.found to_found
        (more_same found) (more_same found) new_processes new_channels new_processes new_channels),
    closes.done ∙ ap (λ (x : Machine). x.done + 1) lodges.same ∙ ap (λ (k : ℕ). k + 1) to_found.done,
  )

-- the same at two nodes, sources or sinks
module _ (plan : Plan) (number n p c o q d : ℕ) (others : Notes)
    (before placed told led over one two lodged after : Machine)
    (done : IsDoneAt plan number n p c o q d others before) (more : HasMore before placed) (tells : HasMore placed told)
    (t : HasTold plan number (n ∷ o ∷ []) told) (first : KeepsTold number n told led)
    (second : KeepsTold number o led over) (third : KeepsTold number n over one)
    (first_processes : (k : ℕ) → p ≤ k → HasProcess one.nodes.items n k
    → IsMet one.nodes.items one.agents.items (agent.Process n k))
    (first_channels : (k : ℕ) → c ≤ k → HasChannel one.nodes.items n k
    → Contains one.agents.items (agent.Channel n k)) (fourth : KeepsTold number o one two)
    (second_processes : (k : ℕ) → q ≤ k → HasProcess two.nodes.items o k
    → IsMet two.nodes.items two.agents.items (agent.Process o k))
    (second_channels : (k : ℕ) → d ≤ k → HasChannel two.nodes.items o k
    → Contains two.agents.items (agent.Channel o k)) (lodges : LodgesAt number (n ∷ o ∷ []) two lodged)
    (closes : Closes lodged number None after) where
  to_one : HasMore before one
  to_one =
      more_twice before over one
      (more_twice before led over
      (more_twice before told led (more_twice before placed told more tells) first.more) second.more) third.more

  all_over : HasMore before two
  all_over = more_twice before one two to_one fourth.more

  pub finished_at : Follows plan after × (after.done ≡ before.done + 1)
  finished_at =
      let list : List ℕ = n ∷ o ∷ [] in
      let here : Contains list n = contains-first n (o ∷ []) in
      let there : Contains list o = contains-rest n (o ∷ []) o (contains-first o []) in (
        follows_on plan number list two lodged after lodges None closes (λ x is. absurd (none-some x is))
            (fourth.told plan list there (third.told plan list here
            (second.told plan list there (first.told plan list here t))))
            (all_found plan n p c o q d before one two two done.found to_one fourth.more (more_same two)
            first_processes first_channels second_processes second_channels),
        closes.done ∙ ap (λ (x : Machine). x.done + 1) lodges.same ∙ ap (λ (k : ℕ). k + 1) all_over.done,
      )

-- each agent keeps its number up to the end, or has ended
pub kept_closed : (number : ℕ) (last : Option LastStep) (before over after : Machine) → HasMore before over
    → Closes over number last after → KeepsAgents before after
kept_closed number last before over after more closes =
    subst (KeepsAgents before) (sym closes.same) (record { many = more.kept.many; kept = more.kept.kept })
