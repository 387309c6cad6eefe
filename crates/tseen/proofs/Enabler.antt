-- The process that has enabled the channel on which another one sends.
use Rattle.std.proofs.Common.{◌≡◌, ◌≢◌, ℕ, ◌+◌, ◌*◌, ◌-◌, ◌≤◌, ◌%◌, ◌^◌, refl, sym, ap, subst, ◌∙◌, Bool, true, false}
use Rattle.std.proofs.Common.{true≢false, length, Contains, Option, Some, None, arith, ◌⊎◌, inl, inr}
use Rattle.std.specs.Prelude.{is_some, IfSome, if◌then◌else◌}
use Rattle.std.proofs.lemmas.Bool.{eqb-true, eq-eqb, ne_eqb}
use Rattle.tword.specs.Words.{most_neg, word_below}
use Rattle.tword.specs.Stores.{Store, place, word_at}
use Rattle.tword.specs.Touches.{word_place_break}
use Rattle.tproc.specs.declared.channels.Side.{Side}
use Rattle.tproc.specs.declared.channels.Side.TheVariants.{Input, Output}
use Rattle.tproc.specs.declared.waiter.Reason.{Reason}
use Rattle.tproc.specs.declared.waiter.Reason.TheVariants as reasons
use Rattle.tproc.specs.declared.waiter.Suspended.{Suspended}
use Rattle.tproc.specs.declared.process_status.ProcessStatus.TheVariants as places
use Rattle.tproc.specs.Channels.{ready, is_choosing}
use Rattle.tproc.specs.Machine.{Control, descheduled, workspace_of, priority_of}
use Rattle.tproc.specs.ProcessStatus.{status, status_by, not_waiting, reason_of, is_queued, is_that, current_process}
use Rattle.tproc.specs.ProcessStatus.{interrupted_process}
use Rattle.tproc.proofs.WordsApart.{LiesWord}
use Rattle.tplan.specs.declared.plan.Plan.{Plan}
use Rattle.tnet.specs.Rendezvous.{Configuration}
use Rattle.tprocesses.specs.Places.{Name, Standing, Half, same_name}
use Rattle.tprocesses.specs.Values.{Value, Use, Free, Engaged, Choosing, Awaiting, Context, Stand, Absent, Rests, Runs}
use Rattle.tprocesses.specs.Values.{Waits, Chooses, Chosen, Listens, Ended, Nobody, IsStand, stand_in, half_in}
use Rattle.tprocesses.specs.Choosing.{is_taken as is_taken_half}
use Rattle.tprocesses.specs.Touching.{Site, word_number}
use Rattle.tprocesses.specs.Machine.{site_of}
use Rattle.tseen.specs.Known.{HasSaved}
use Rattle.tseen.specs.Seats.{Seat, Current, Interrupted, Queued, Waiting, is_taken}
use Rattle.tseen.specs.Words.{is_set_aside}
use Rattle.tseen.specs.Choices.{Alternative, alternative, alternative_of, alternative_at, enabler, enabler_at, is_sent}
use Rattle.tseen.specs.Choices.{HasChoice, IsEnabled, IsReady, IsUnready, state_use, unready_word, HasEnabled}
use Rattle.tseen.specs.Processes.{Fits, IsSeated, IsGone}
use Rattle.tseen.specs.Shown.{ShowsNode}
use Rattle.tseen.specs.Steps.{IsCurrent}
use Rattle.tseen.proofs.After.{State}
use Rattle.tseen.proofs.Cells.{use_of}
use Rattle.tseen.proofs.Spans.{word_placed}
use Rattle.tseen.proofs.Writing.{word_lies}
use Rattle.std.proofs.lemmas.Option.{IfSome_then}
use Rattle.tseen.proofs.Finished.{one_name, place_itself}
use Rattle.tseen.proofs.Running.{RunsThere}
use Rattle.tseen.proofs.Counted.{waits_descheduled, queued_descheduled}
use Rattle.tseen.proofs.Stepped.{shown_node, there}
use Rattle.tseen.proofs.Saving.{below}
use Rattle.tseen.proofs.Released.{not_queued}
use Rattle.tseen.proofs.Asked.{side_of}
use Rattle.tseen.proofs.ChoicePlain.{alternative_context}
use Rattle.tseen.proofs.Taken.{HasTaken, saved_of, own_empty, first_free, second_free, third_free}
use Rattle.tseen.proofs.TakenWords.{aligned, alternative_before}

module _ (p : Plan) (c : Configuration) (s : State) (n : ℕ) (x : Name) (k : IsCurrent p c s n x) (v : State)
    (h : HasTaken p c s n x k v) (y : Name) (enables : enabler_at s n k.node.machine.control.registers.b ≡ Some y) where
  abbrev m : Control
  m = k.node.machine.control

  abbrev store : Store
  store = k.node.machine.store

  abbrev site : Site
  site = site_of n k.plan

  abbrev running : RunsThere s n k.plan k.node x
  running = there p c s n x k

  abbrev shown : ShowsNode s n k.plan (k.shows.named n) (k.shows.sent n) k.node
  shown = shown_node p c s n x k

  abbrev named : Seat → Name
  named = k.shows.named n

  abbrev channel : ℕ
  channel = m.registers.b

  abbrev w : ℕ
  w = m.registers.wptr

  nobody : {z : Name} → None ≡ Some z → ⊥
  nobody e = cc

  -- the process sends: the half of the input is not free
  pub sends : side_of h.operation ≡ Output
  sends = by (side_of h.operation) (own_empty p c s n x k v h)
    where
      by : (side : Side) → half_in (s (Half n channel side)) ≡ Nobody → side ≡ Output
      by Output e = refl
      by Input e = absurd (nobody (sym (ap enabler e) ∙ enables))

  pub output_empty : half_in (s (Half n channel Output)) ≡ Nobody
  output_empty = subst (λ side. half_in (s (Half n channel side)) ≡ Nobody) sends (own_empty p c s n x k v h)

  pub not_sent : is_sent s n channel ≡ false
  not_sent = ap is_taken_half output_empty

  pub it : IsEnabled s n store channel y
  it = shown.choices.enabled channel y enables

  own : (a : Alternative) × (alternative_at s n y ≡ Some a) × HasEnabled s n channel y
  own = shown.choices.owner y channel it.home it.port

  -- its alternative
  pub theirs : Alternative
  theirs = own.0

  pub theirs_is : alternative_at s n y ≡ Some theirs
  unfolding theirs
  theirs_is = own.1

  pub has : HasChoice s n m.links store y theirs
  has = shown.choices.choices y theirs it.home theirs_is

  -- its descriptor, which the channel word is
  abbrev pub other : ℕ
  other = theirs.wptr + theirs.priority

  pub finds : word_at store channel ≡ other
  finds = it.names not_sent theirs theirs_is

  -- the word of its state
  abbrev pub address : ℕ
  address = word_below theirs.wptr 3

  abbrev pub number : ℕ
  number = word_number address

  pub lies_state : LiesWord (length store) address
  lies_state =
      let l : (place address ≡ 4 * word_number address) × (most_neg ≤ address)
      × (4 * word_number address + 4 ≤ k.plan.memory) =
      word_lies site running.whole address (subst (λ z. word_place_break z address ≡ None) shown.size has.placed) in
      record {
        above = l.1;
        within = omega (arith, l.0, l.1, l.2, shown.size);
        aligned = eqb-true _ _ (word_placed (length store) address has.placed).0;
      }

  pub aligned_theirs : theirs.wptr % 4 ≡ 0
  aligned_theirs =
      let below_is : (theirs.wptr + (2 ^ 32 - 12)) % 2 ^ 32 ≡ address = refl in
      omega (arith, lies_state.aligned, below_is, has.small.1)

  pub workspace : workspace_of other ≡ theirs.wptr
  workspace = omega (arith, aligned_theirs, has.small.0)

  pub priority : priority_of other ≡ theirs.priority
  priority = omega (arith, aligned_theirs, has.small.0)

  -- it is neither free nor a channel's
  pub state_not : (u : Use) → (Choosing ≡ u → ⊥) → (Awaiting ≡ u → ⊥) → use_of s n number ≡ u → ⊥
  state_not u a b e = by theirs.runs (sym has.used ∙ e)
    where
      by : (r : Bool) → state_use r ≡ u → ⊥
      by true f = a f
      by false f = b f

  pub state_not_free : use_of s n number ≡ Free → ⊥
  state_not_free = state_not Free (λ e. cc) (λ e. cc)

  pub state_not_engaged : use_of s n number ≡ Engaged → ⊥
  state_not_engaged = state_not Engaged (λ e. cc) (λ e. cc)

  pub not_channel : number ≢ word_number channel
  not_channel e = state_not_engaged (ap (use_of s n) e ∙ it.engaged)

  pub not_one : number ≢ below w 1
  not_one e = state_not_free (ap (use_of s n) e ∙ first_free p c s n x k v h)

  pub not_two : number ≢ below w 2
  not_two e = state_not_free (ap (use_of s n) e ∙ second_free p c s n x k v h)

  pub not_three : number ≢ below w 3
  not_three e = state_not_free (ap (use_of s n) e ∙ third_free p c s n x k v h)

  -- it is another process than the one that sends
  pub apart : same_name x y ≡ false
  apart = by (same_name x y) refl
    where
      none_some : {b : Alternative} → None ≡ Some b → ⊥
      none_some e = cc

      by : (b : Bool) → same_name x y ≡ b → same_name x y ≡ false
      by false e = e
      by true e =
          absurd (none_some (sym (alternative_before p c s n x k v h)
          ∙ ap (alternative_at s n) (one_name p x y e) ∙ theirs_is))

  -- where its words are not saved, it is neither queued nor waits
  runs_not_there : theirs.runs ≡ true → Contains (descheduled m) theirs.wptr → ⊥
  runs_not_there e inside =
      true≢false (sym (saved_of p c s n x k v h theirs.wptr inside).third ∙ ap is_set_aside (has.used ∙ ap state_use e))

  -- how it stands
  pub record WasInterrupted : Type 0 where
    pub runs : theirs.runs ≡ true
    pub waits : theirs.waits ≡ false
    pub stands : status m other ≡ places.Interrupted

  pub record IsQueued : Type 0 where
    pub waits : theirs.waits ≡ false
    pub stands : status m other ≡ places.Queued
    pub saved : Contains (descheduled m) theirs.wptr

  pub record IsChoosing : Type 0 where
    pub runs : theirs.runs ≡ false
    pub waits : theirs.waits ≡ true
    pub context : Context
    pub stood : s (Standing y) ≡ IsStand (Chooses context)
    pub fits : HasSaved store other context
    pub nothing_lent : context.lent ≡ None
    pub reason : reason_of m other ≡ Some reasons.Chooses
    pub name : named (Waiting other) ≡ y
    pub seat : IsSeated s n k.node (Waiting other) y

  abbrev pub Stands : Type 0
  Stands = WasInterrupted ⊎ (IsQueued ⊎ IsChoosing)

  -- what the alternative of its context is
  of_context : (runs waits : Bool) (d : Context) → alternative_of (stand_in (s (Standing y))) ≡ alternative runs waits d
      → (theirs.wptr ≡ d.wptr) × (theirs.priority ≡ d.priority) × (theirs.runs ≡ runs) × (theirs.waits ≡ waits)
  of_context runs waits d e = alternative_context runs waits d theirs (sym e ∙ theirs_is)

  interrupted_there : (o : Option Suspended) → m.interrupted ≡ o → theirs.runs ≡ true → theirs.waits ≡ false
      → IfSome o (λ t. (theirs.wptr ≡ t.registers.wptr) × (theirs.priority ≡ 1)) → is_some o ≡ true → WasInterrupted
  interrupted_there None i runs waits f taken = absurd (true≢false (sym taken))
  interrupted_there (Some t) i runs waits f taken =
      record { runs = runs; waits = waits; stands = status_is (reason_of m other) refl }
    where
      some_reason : (r : Reason) → reason_of m other ≡ Some r → is_some (reason_of m other) ≡ true
      some_reason r e = subst (λ (z : Option Reason). is_some z ≡ true) (sym e) refl

      not_among : Contains (descheduled m) (workspace_of other) → ⊥
      not_among inside = runs_not_there runs (subst (λ z. Contains (descheduled m) z) workspace inside)

      not_current : (running.level + w ≡ other → ⊥)
      not_current e =
          not_three (ap (λ z. below z 3)
          (omega (arith, e, aligned_theirs, aligned p c s n x k v h, has.small.0, running.small)))

      current_not : is_that (current_process m) other ≡ false
      current_not =
          ap (λ (o : Option ℕ). is_that (current_with o) other) running.current
          ∙ ne_eqb (w + running.level) other (λ e. not_current (omega (arith, e)))
        where
          current_with : Option ℕ → Option ℕ
          current_with None = None
          current_with (Some q) = Some (w + q)

      interrupted_is : is_that (interrupted_process m) other ≡ true
      interrupted_is =
          ap (λ (o : Option Suspended). is_that (interrupted_with o) other) i
          ∙ eq-eqb (t.registers.wptr + 1) other (omega (arith, f.0, f.1))
        where
          interrupted_with : Option Suspended → Option ℕ
          interrupted_with None = None
          interrupted_with (Some u) = Some (u.registers.wptr + 1)

      at_place : (b : Bool) → is_queued m other ≡ b
          → (if b then places.Queued else if is_that (current_process m) other then places.Runs
          else if is_that (interrupted_process m) other then places.Interrupted else places.Unknown)
          ≡ places.Interrupted
      at_place true e = absurd (not_among (queued_descheduled m other e))
      at_place false e = rw (current_not, interrupted_is) refl

      status_is : (o : Option Reason) → reason_of m other ≡ o → status_by o (not_waiting m other) ≡ places.Interrupted
      status_is (Some r) e = absurd (not_among (waits_descheduled m other (some_reason r e)))
      status_is None e = at_place (is_queued m other) refl

  queued_there : theirs.waits ≡ false → is_queued m other ≡ true → IsQueued
  queued_there waits queued =
      record {
        waits = waits;
        stands = status_is (reason_of m other) refl;
        saved = subst (λ z. Contains (descheduled m) z) workspace (queued_descheduled m other queued);
      }
    where
      status_is : (o : Option Reason) → reason_of m other ≡ o → status_by o (not_waiting m other) ≡ places.Queued
      status_is (Some r) e =
          absurd (not_queued m.registers other m r e k.steady.placed.claimed.distinct queued)
      status_is None e =
          ap (λ b. if b then places.Queued else if is_that (current_process m) other then places.Runs
          else if is_that (interrupted_process m) other then places.Interrupted else places.Unknown) queued

  -- a descriptor that has its workspace and its priority
  is_other : (d : Context) (b : ℕ) {runs waits : Bool}
      → (theirs.wptr ≡ d.wptr) × (theirs.priority ≡ d.priority) × (theirs.runs ≡ runs) × (theirs.waits ≡ waits)
      → HasSaved store b d → b ≡ other
  is_other d b of f = omega (arith, of.0, of.1, f.wptr, f.priority)

  choosing_there : (d : Context) → s (Standing y) ≡ IsStand (Chooses d) → (b : ℕ) → HasSaved store b d → d.lent ≡ None
      → reason_of m b ≡ Some reasons.Chooses → named (Waiting b) ≡ y → IsSeated s n k.node (Waiting b) y → IsChoosing
  choosing_there d stood b fits lent reason name seat =
      let of = of_context false true d (ap (λ (z : Value). alternative_of (stand_in z)) stood) in
      let same : b ≡ other = is_other d b of fits in
      record {
        runs = of.2;
        waits = of.3;
        context = d;
        stood = stood;
        fits = subst (λ i. HasSaved store i d) same fits;
        nothing_lent = lent;
        reason = ap (reason_of m) (sym same) ∙ reason;
        name = ap (λ i. named (Waiting i)) (sym same) ∙ name;
        seat = subst (λ i. IsSeated s n k.node (Waiting i) y) same seat;
      }

  none_of : alternative_of (stand_in (s (Standing y))) ≡ None → ⊥
  none_of e = differ (sym e ∙ theirs_is)
    where
      differ : None ≡ Some theirs → ⊥
      differ f = cc

  at_seat : (q : Seat) → is_taken m q ≡ true → named q ≡ y → IsSeated s n k.node q y → Stands
  at_seat Current taken name seat =
      absurd (true≢false (sym (place_itself p (Standing y)) ∙ ap (λ z. same_name z y) (sym name ∙ k.name) ∙ apart))
  at_seat Interrupted taken name seat = by seat.stand seat.stands seat.fits
    where
      by : (stand : Stand) → s (Standing y) ≡ IsStand stand → Fits k.node Interrupted stand → Stands
      by (Runs d) e f =
          let of = of_context true false d (ap (λ (z : Value). alternative_of (stand_in z)) e) in
          inl (interrupted_there m.interrupted refl of.2 of.3
          (IfSome_then m.interrupted f (λ t r. (of.0 ∙ r.wptr, of.1 ∙ r.priority))) taken)
      by Absent e f = absurd f
      by (Rests d) e f = absurd f
      by (Waits d) e f = absurd f
      by Ended e f = absurd f
      by (Chooses d) e f = absurd f
      by (Chosen d) e f = absurd f
      by (Listens channel d) e f = absurd f
  at_seat (Queued b) taken name seat = by seat.stand seat.stands seat.fits
    where
      by : (stand : Stand) → s (Standing y) ≡ IsStand stand → Fits k.node (Queued b) stand → Stands
      by (Chosen d) e f =
          let of = of_context false false d (ap (λ (z : Value). alternative_of (stand_in z)) e) in
          inr (inl (queued_there of.3 (subst (λ i. is_queued m i ≡ true) (is_other d b of f.0) taken)))
      by (Rests d) e f = absurd (none_of (ap (λ (z : Value). alternative_of (stand_in z)) e))
      by Absent e f = absurd f
      by (Runs d) e f = absurd f
      by (Waits d) e f = absurd f
      by Ended e f = absurd f
      by (Chooses d) e f = absurd f
      by (Listens channel d) e f = absurd f
  at_seat (Waiting b) taken name seat = by seat.stand seat.stands seat.fits
    where
      by : (stand : Stand) → s (Standing y) ≡ IsStand stand → Fits k.node (Waiting b) stand → Stands
      by (Chooses d) e f = inr (inr (choosing_there d e b f.0 f.1 f.2 name seat))
      by (Rests d) e f = absurd (none_of (ap (λ (z : Value). alternative_of (stand_in z)) e))
      by (Waits d) e f = absurd (none_of (ap (λ (z : Value). alternative_of (stand_in z)) e))
      by Absent e f = absurd f
      by (Runs d) e f = absurd f
      by Ended e f = absurd f
      by (Chosen d) e f = absurd f
      by (Listens channel d) e f = absurd f

  pub found : Stands
  found = by (shown.processes.there y it.home)
    where
      by : IsGone s n y ⊎ ((q : Seat) × (is_taken m q ≡ true) × (named q ≡ y)) → Stands
      by (inl (inl e)) = absurd (none_of (ap (λ (z : Value). alternative_of (stand_in z)) e))
      by (inl (inr e)) = absurd (none_of (ap (λ (z : Value). alternative_of (stand_in z)) e))
      by (inr (q, taken, name)) =
          at_seat q taken name (subst (IsSeated s n k.node q) name (shown.processes.seated q taken))

  -- its state is one that is under way, if it does not wait
  pub state_choosing : theirs.waits ≡ false → is_choosing (word_at store address) ≡ true
  state_choosing waits = by has.state
    where
      by : ((word_at store address ≡ ready) × IsReady s n m.links y theirs.skips)
          ⊎ ((word_at store address ≡ unready_word theirs.waits) × IsUnready s n m.links y theirs.skips)
          → is_choosing (word_at store address) ≡ true
      by (inl e) = ap is_choosing e.0
      by (inr e) = ap is_choosing (e.0 ∙ ap unready_word waits)
