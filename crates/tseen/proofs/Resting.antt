-- Where no step of the rendezvous machine is lawful, processors are idle, and no process, channel or successor has a
-- step.
use Rattle.tseen.specs.Choices.{alternative, is_due, is_sent}
use Rattle.tprocesses.specs.Values.{Context, Choice}
use Rattle.tprocesses.specs.Values.{stand_in, half_in}
use Rattle.tseen.specs.Choices.{IsEnabled, enabler, alternative_of, Alternative}
use Rattle.std.proofs.Common.{◌≡◌, ℕ, zero, suc, refl, sym, ap, subst, ◌∙◌, List, [], ◌∷◌, Bool, true}
use Rattle.std.proofs.Common.{false, true≢false, not, length, cond, Contains, Result, Ok, Err, Option, Some, None}
use Rattle.std.proofs.Common.{arith, ◌⊎◌, inl, inr}
use Rattle.std.specs.Prelude.{◌==◌, ◌&&◌, ◌||◌, is_some, is_none, find, option_map, slice_get}
use Rattle.std.proofs.lemmas.Bool.{and_parts, and_from, eqb-true}
use Rattle.std.proofs.lemmas.List.Elements.{All-contains}
use Rattle.tword.specs.declared.breaks.Break.{Break}
use Rattle.tproc.specs.declared.offer.Offer.{Offer}
use Rattle.tproc.specs.declared.ran.Ran.{Ran}
use Rattle.tproc.specs.declared.ran.Ran.TheVariants as ran
use Rattle.tproc.specs.declared.waiter.Reason.{Reason}
use Rattle.tproc.specs.declared.waiter.Reason.TheVariants.{LinkOutput, Receives, Sends}
use Rattle.tproc.specs.declared.waiter.Waiter.{Waiter}
use Rattle.tproc.specs.declared.channels.Side.TheVariants.{Input, Output}
use Rattle.tproc.specs.Machine.{Control, Machine, workspace_of, priority_of}
use Rattle.tproc.specs.ProcessStatus.{is_among, is_queued, queue, reason_of}
use Rattle.tproc.specs.LinkChannels.{link_end}
use Rattle.tproc.specs.Placement.{HasOffer, IsOfferOf}
use Rattle.tproc.specs.Resting.{is_idle, has_step}
use Rattle.tproc.specs.Steps.{step}
use Rattle.tproc.proofs.Resting.{step_is_there}
use Rattle.tplan.specs.declared.plan.NodePlan.{NodePlan}
use Rattle.tplan.specs.declared.plan.Plan.{Plan}
use Rattle.tnet.specs.Rendezvous.{Node, Configuration, Local, Wake, Freeze_at, node_of, was_copied}
use Rattle.tplan.specs.Wires.{end_at}
use Rattle.treduction.specs.Ends.{IsOver as IsAtEnd}
use Rattle.tagents.specs.Agents.{IsOver, Does}
use Rattle.tagents.specs.Walks.{are_open, label_of, state_after}
use Rattle.tprocesses.specs.Places.{Name, WordAt, Standing, Half}
use Rattle.tprocesses.specs.Values.{EnabledBy, AwaitedBy, Nobody, Holder, Chosen, Listens, Chooses}
use Rattle.tprocesses.specs.Values.{TakenBy, Value, Stand, Absent, Rests}
use Rattle.tprocesses.specs.Values.{Runs, Waits, Ended, IsStand, IsHalf, IsWord, Request}
use Rattle.tprocesses.specs.Values.{word_in}
use Rattle.tprocesses.specs.Choosing.{is_taken as is_filled, is_awaited}
use Rattle.tprocesses.specs.Machine.{Agent, Process, Channel, Successor, process_machine, step_of, is_open, is_ready}
use Rattle.tprocesses.specs.Machine.{awaits_successor}
use Rattle.tprocesses.specs.Certified.{ProcessStep, machine_of}
use Rattle.tseen.specs.Seats.{Seat, Current, Interrupted, Queued, Waiting, is_taken}
use Rattle.tseen.specs.Processes.{Fits, IsSeated, IsGone}
use Rattle.tseen.specs.Shown.{Shows, ShowsNode}
use Rattle.tseen.specs.Steps.{AreSteady, IsSteady}
use Rattle.tseen.specs.AgentSteps.{NothingStops}
use Rattle.tseen.proofs.After.{State, After, after_agent_step, if_open}

-- a process waits for its alternative
abbrev pub waits_for_choice : Stand → Bool
waits_for_choice (Chooses d) = true
waits_for_choice _ = false

-- its alternative says so
pub waits_for_it : (d : Context) (a : Alternative) → alternative false true d ≡ Some a → a.waits ≡ true
waits_for_it d a e = by d.choice e
  where
    by : (o : Option Choice) → option_map (λ choice. record {
      skips = choice.skips;
      wptr = d.wptr;
      priority = d.priority;
      runs = false;
      waits = true;
    }) o ≡ Some a → a.waits ≡ true
    by None f = absurd (differ f)
      where
        differ : None ≡ Some a → ⊥
        differ g = cc
    by (Some choice) f = ap waits_in (sym f)
      where
        waits_in : Option Alternative → Bool
        waits_in (Some b) = b.waits
        waits_in None = true

-- who waits for something is among those that wait
waits_for : (ws : List Waiter) (b : ℕ) (r : Reason)
    → option_map (λ w. w.reason) (find (λ w. w.process == b) ws) ≡ Some r
    → Contains ws (record { process = b; reason = r })
waits_for [] b r h = absurd (differ h)
  where
    differ : ◌≡◌ {A = Option Reason} None (Some r) → ⊥
    differ e = cc
waits_for (w ∷ ws) b r h = by (w.process == b) refl h (waits_for ws b r)
  where
    one_reason : {a b : Reason} → Some a ≡ Some b → a ≡ b
    one_reason e = cc

    by : (t : Bool) → (w.process == b) ≡ t
        → option_map (λ w. w.reason) (cond t (Some w) (find (λ w. w.process == b) ws)) ≡ Some r
        → (option_map (λ w. w.reason) (find (λ w. w.process == b) ws) ≡ Some r
        → Contains ws (record { process = b; reason = r }))
        → Contains (w ∷ ws) (record { process = b; reason = r })
    by true e h rest =
        (0, omega arith, λ i. record { process = eqb-true w.process b e i; reason = one_reason h i })
    by false e h rest =
        let there : Contains ws (record { process = b; reason = r }) = rest h in
        (suc there.0, omega (arith, there.1), there.2)

-- an offer that is there
offer_there : (b : ℕ) (o : Option Offer) → IsOfferOf b o → (offer : Offer) × (o ≡ Some offer)
offer_there b None h = absurd h
offer_there b (Some offer) h = (offer, refl)

-- no agent has a step where none has its gates open
pub over_from : (p : Plan) (s : State) → ((a : Agent) → are_open (process_machine p) a s ≡ true → ⊥)
    → IsOver (machine_of p) s
over_from p s shut e s' does = by (are_open (process_machine p) e.agent s) refl does
  where
    by : (t : Bool) → are_open (process_machine p) e.agent s ≡ t
        → if_open t (
          label_of (process_machine p) e.agent s,
          state_after (process_machine p) (label_of (process_machine p) e.agent s).deed s,
        )
        ≡ Some (e, s') → ⊥
    by true h d = shut e.agent h
    by false h d = cc

-- an agent whose step stops has none, where no step would
pub stopped_shut : (p : Plan) (s : State) (a : Agent) → NothingStops p s → After (step_of p a) s (λ _ _. ⊥)
    → are_open (process_machine p) a s ≡ true → ⊥
stopped_shut p s a never stops opened =
    after_agent_step p a s (state_after (process_machine p) label.deed s) (λ _ _. ⊥)
    (record {
      label = label;
      agent = refl;
      step = made;
      goes_on = never a label (state_after (process_machine p) label.deed s) refl made;
    }) stops
  where
    label : ProcessStep
    label = label_of (process_machine p) a s

    made : Does (machine_of p) s label (state_after (process_machine p) label.deed s)
    made = rw opened refl

module _ (p : Plan) (c : Configuration) (s : State) (shows : Shows p c s) (steady : AreSteady c) (over : IsAtEnd c)
    (never : NothingStops p s) where
  module _ (n : ℕ) (plan : NodePlan) (planned : slice_get p.nodes n ≡ Some plan) where
    abbrev pub node : Node
    node = (shows.processors n plan planned).0

    abbrev pub m : Control
    m = node.machine.control

    pub here : node_of c n ≡ Some node
    here = (shows.processors n plan planned).1

    pub shown : ShowsNode s n plan (shows.named n) (shows.sent n) node
    shown = (shows.processors n plan planned).2

    pub is_steady : IsSteady node
    is_steady = (steady n node here).steady shown.role

    -- its processor has no step
    no_step : (r : Result (Machine × Ran) Break) → step node.machine ≡ r → has_step r ≡ false
    no_step (Ok (m', ran.Idle)) e = refl
    no_step (Ok (m', ran.Halted)) e = refl
    no_step (Ok (m', other)) e =
        absurd (over (Local n) _ (record {
          node = node;
          machine = m';
          ran = other;
          here = here;
          works = shown.works;
          steps = e;
          is_step = ((λ f. cc), (λ f. cc));
          after = refl;
        }))
    no_step (Err b) e =
        absurd (over (Freeze_at n b) _ (record {
          node = node;
          here = here;
          works = shown.works;
          reason = inl e;
          after = refl;
        }))

    -- so nothing runs or is queued, and nothing was interrupted
    idle : is_idle m ≡ true
    idle =
        by (is_idle m) (sym (no_step (step node.machine) refl) ∙ step_is_there node.machine
        ∙ ap (λ b. not (b || is_idle m)) shown.runs_on)
      where
        by : (b : Bool) → false ≡ not b → b ≡ true
        by true e = refl
        by false e = absurd (true≢false (sym e))

    all_parts : ((is_none m.current && (length m.high == 0) && is_none m.interrupted) ≡ true)
        × ((length m.low == 0) ≡ true)
    all_parts = and_parts _ _ idle

    first_parts : ((is_none m.current && (length m.high == 0)) ≡ true) × (is_none m.interrupted ≡ true)
    first_parts = and_parts _ _ all_parts.0

    queue_parts : (is_none m.current ≡ true) × ((length m.high == 0) ≡ true)
    queue_parts = and_parts _ _ first_parts.0

    none_queued : (b : ℕ) → is_queued m b ≡ false
    none_queued b = ap (is_among (workspace_of b)) (empty (priority_of b))
      where
        none : (ws : List ℕ) → (length ws == 0) ≡ true → ws ≡ []
        none [] h = refl
        none (w ∷ ws) h = absurd (omega (arith, eqb-true _ _ h))

        empty : (q : ℕ) → queue m q ≡ []
        empty zero = none m.high queue_parts.1
        empty (suc q) = none m.low all_parts.1

    -- no output that was copied is pending
    none_copied : (l : ℕ) (o : Offer) → (link_end m l).output ≡ Some o → was_copied node l ≡ true → ⊥
    none_copied l o e copied =
        over (Wake (end_at n l)) _ (record {
          node = node;
          out = o;
          copied = record { node = here; output = e; copied = copied };
          works = shown.works;
          after = refl;
        })

    -- a process that has a seat waits
    waits : (q : Seat) (stand : Stand) → is_taken m q ≡ true → Fits node q stand → is_ready stand ≡ false
    waits Current stand taken f = absurd (both m.current queue_parts.0 taken)
      where
        both : (o : Option ℕ) → is_none o ≡ true → is_some o ≡ true → ⊥
        both None h k = true≢false (sym k)
        both (Some i) h k = true≢false (sym h)
    waits Interrupted stand taken f = absurd (both m.interrupted first_parts.1 taken)
      where
        both : {X : Type 0} (o : Option X) → is_none o ≡ true → is_some o ≡ true → ⊥
        both None h k = true≢false (sym k)
        both (Some i) h k = true≢false (sym h)
    waits (Queued b) stand taken f = absurd (true≢false (sym taken ∙ none_queued b))
    waits (Waiting b) (Waits d) taken f = refl
    waits (Waiting b) (Chooses d) taken f = refl
    waits (Waiting b) (Rests d) taken f =
        let l : ℕ = f.1.0 in
        let there : HasOffer m b (LinkOutput l) =
        All-contains (λ w. HasOffer m w.process w.reason) m.waiting (record { process = b; reason = LinkOutput l })
        is_steady.placed.offered (waits_for m.waiting b (LinkOutput l) f.1.1) in
        let o = offer_there b (link_end m l).output there in
        absurd (none_copied l o.0 o.1 f.1.2)
    waits (Waiting b) Absent taken f = absurd f
    waits (Waiting b) (Runs d) taken f = absurd f
    waits (Waiting b) Ended taken f = absurd f
    waits (Waiting b) (Chosen d) taken f = absurd f
    waits (Waiting b) (Listens channel d) taken f = absurd f

    -- no process of the node is ready
    pub none_ready : (x : Name) → x.node ≡ n → (stand : Stand) × (s (Standing x) ≡ IsStand stand)
        × (is_ready stand ≡ false)
    none_ready x home = by (shown.processes.there x home)
      where
        with_seat : (q : Seat) → is_taken m q ≡ true → IsSeated s n node q x
            → (stand : Stand) × (s (Standing x) ≡ IsStand stand) × (is_ready stand ≡ false)
        with_seat q taken k = (k.stand, k.stands, waits q k.stand taken k.fits)

        by : IsGone s n x ⊎ ((q : Seat) × (is_taken m q ≡ true) × (shows.named n q ≡ x))
            → (stand : Stand) × (s (Standing x) ≡ IsStand stand) × (is_ready stand ≡ false)
        by (inl (inl e)) = (Absent, e, refl)
        by (inl (inr e)) = (Ended, e, refl)
        by (inr (q, taken, e)) =
            with_seat q taken (subst (IsSeated s n node q) e (shown.processes.seated q taken))

    -- no two halves of a channel are taken
    pub none_meet : (a : ℕ) (i o : Request) → s (Half n a Input) ≡ IsHalf (TakenBy i)
        → s (Half n a Output) ≡ IsHalf (TakenBy o) → ⊥
    none_meet a i o e f =
        let input = shown.channels.taken a Input i e in
        let output = shown.channels.taken a Output o f in
        let same : input.process ≡ output.process = sym input.channel_word ∙ output.channel_word in
        differ (sym input.waits ∙ ap (reason_of m) same ∙ output.waits)
      where
        differ : Some (Receives a i.buffer.start i.buffer.size) ≡ Some (Sends a o.buffer.start o.buffer.size) → ⊥
        differ e = cc

    -- no successor is due
    pub none_due : (k : ℕ) → awaits_successor (word_in (s (WordAt n k))).used ≡ false
    none_due k = shown.marks.no_successor k

  -- a process has no step
  pub process_shut : (x : Name) → are_open (process_machine p) (Process x) s ≡ true → ⊥
  process_shut x opened = by (slice_get p.nodes x.node) refl
    where
      closed : (stand : Stand) → s (Standing x) ≡ IsStand stand → is_ready stand ≡ false → ⊥
      closed stand e h =
          true≢false (sym (and_parts _ _ opened).0 ∙ ap (is_open p (Process x) (Standing x)) e ∙ h)

      by : (o : Option NodePlan) → slice_get p.nodes x.node ≡ o → ⊥
      by None e = closed Absent (shows.nobody x e) refl
      by (Some plan) e =
          let k = none_ready x.node plan e x refl in closed k.0 k.1 k.2

  -- nor has a channel
  pub channel_shut : (n a : ℕ) → are_open (process_machine p) (Channel n a) s ≡ true → ⊥
  channel_shut n a opened = by (slice_get p.nodes n) refl
    where
      closed : (i o : Holder) → s (Half n a Input) ≡ IsHalf i → s (Half n a Output) ≡ IsHalf o
          → ((is_filled i || is_awaited i) && is_filled o) ≡ false → ⊥
      closed i o e f h =
          let parts = and_parts (is_open p (Channel n a) (Half n a Input) (s (Half n a Input)))
          (is_open p (Channel n a) (Half n a Output) (s (Half n a Output)) && true) opened in
          let second = and_parts (is_open p (Channel n a) (Half n a Output) (s (Half n a Output))) true parts.1 in
          true≢false (sym (and_from (is_filled i || is_awaited i) (is_filled o)
          (sym (ap (is_open p (Channel n a) (Half n a Input)) e) ∙ parts.0)
          (sym (ap (is_open p (Channel n a) (Half n a Output)) f) ∙ second.0)) ∙ h)

      -- a process that waits for its alternative would have gone on, and one that does not stops the channel
      awaited : (plan : NodePlan) → slice_get p.nodes n ≡ Some plan → (y : Name) (q : Request)
          → s (Half n a Input) ≡ IsHalf (AwaitedBy y) → s (Half n a Output) ≡ IsHalf (TakenBy q)
          → (stand : Stand) → stand_in (s (Standing y)) ≡ stand → ⊥
      awaited plan planned y q e f stand g = by stand g
        where
          it : IsEnabled s n (node n plan planned).machine.store a y
          it = (shown n plan planned).choices.enabled a y (ap (λ (v : Value). enabler (half_in v)) e)

          stops : (stand : Stand) → stand_in (s (Standing y)) ≡ stand → waits_for_choice stand ≡ false → ⊥
          stops stand g h = stopped_shut p s (Channel n a) never (step stand g h) opened
            where
              step : (stand : Stand) → stand_in (s (Standing y)) ≡ stand → waits_for_choice stand ≡ false
                  → After (step_of p (Channel n a)) s (λ _ _. ⊥)
              step (Chooses d) g h = absurd (true≢false h)
              step Absent g h = rw (planned, e, f, g, After) tt
              step (Rests d) g h = rw (planned, e, f, g, After) tt
              step (Runs d) g h = rw (planned, e, f, g, After) tt
              step (Waits d) g h = rw (planned, e, f, g, After) tt
              step (Chosen d) g h = rw (planned, e, f, g, After) tt
              step Ended g h = rw (planned, e, f, g, After) tt
              step (Listens channel d) g h = rw (planned, e, f, g, After) tt

          by : (stand : Stand) → stand_in (s (Standing y)) ≡ stand → ⊥
          by (Chooses d) g =
              let own = (shown n plan planned).choices.owner y a it.home it.port in
              let waits : own.0.waits ≡ true = waits_for_it d own.0 (sym (ap alternative_of g) ∙ own.1) in
              let unready = ((shown n plan planned).choices.choices y own.0 it.home own.1).unready waits in
              let due : is_due s n (node n plan planned).machine.control.links a ≡ is_sent s n a =
              rw it.internal refl in
              true≢false (sym (ap (λ (v : Value). is_filled (half_in v)) f) ∙ sym due ∙ unready.1 a it.port)
          by Absent g = stops Absent g refl
          by (Rests d) g = stops (Rests d) g refl
          by (Runs d) g = stops (Runs d) g refl
          by (Waits d) g = stops (Waits d) g refl
          by (Chosen d) g = stops (Chosen d) g refl
          by Ended g = stops Ended g refl
          by (Listens channel d) g = stops (Listens channel d) g refl

      meet : (plan : NodePlan) → slice_get p.nodes n ≡ Some plan → (i o : Holder)
          → s (Half n a Input) ≡ IsHalf i → s (Half n a Output) ≡ IsHalf o → ⊥
      meet plan planned (TakenBy i) (TakenBy o) e f = none_meet n plan planned a i o e f
      meet plan planned (AwaitedBy y) (TakenBy q) e f = awaited plan planned y q e f (stand_in (s (Standing y))) refl
      meet plan planned (AwaitedBy y) Nobody e f = closed (AwaitedBy y) Nobody e f refl
      meet plan planned (AwaitedBy y) (EnabledBy z) e f = closed (AwaitedBy y) (EnabledBy z) e f refl
      meet plan planned (AwaitedBy y) (AwaitedBy z) e f = closed (AwaitedBy y) (AwaitedBy z) e f refl
      meet plan planned (TakenBy i) (AwaitedBy z) e f = closed (TakenBy i) (AwaitedBy z) e f refl
      meet plan planned Nobody o e f = closed Nobody o e f refl
      meet plan planned (EnabledBy y) o e f = closed (EnabledBy y) o e f refl
      meet plan planned (TakenBy i) Nobody e f = closed (TakenBy i) Nobody e f refl
      meet plan planned (TakenBy i) (EnabledBy y) e f = closed (TakenBy i) (EnabledBy y) e f refl

      by : (o : Option NodePlan) → slice_get p.nodes n ≡ o → ⊥
      by None e = stopped_shut p s (Channel n a) never (rw (e, After) tt) opened
      by (Some plan) e =
          let halves = (shown n plan e).channels.halves a in
          meet plan e (halves Input).0 (halves Output).0 (halves Input).1 (halves Output).1

  -- nor has a successor
  pub successor_shut : (n k : ℕ) → are_open (process_machine p) (Successor n k) s ≡ true → ⊥
  successor_shut n k opened = by (slice_get p.nodes n) refl
    where
      closed : (v : Value) → awaits_successor (word_in v).used ≡ false
          → is_open p (Successor n k) (WordAt n k) v ≡ false
      closed (IsWord w) h = h
      closed _ h = refl

      by : (o : Option NodePlan) → slice_get p.nodes n ≡ o → ⊥
      by None e = stopped_shut p s (Successor n k) never (rw (e, After) tt) opened
      by (Some plan) e =
          true≢false (sym (and_parts _ _ opened).0 ∙ closed (s (WordAt n k)) (none_due n plan e k))
