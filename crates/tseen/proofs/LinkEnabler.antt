-- A process of a node that has an alternative: the word of its state, and how it stands.
use Rattle.std.proofs.Common.{◌≡◌, ℕ, ◌+◌, ◌-◌, ◌*◌, ◌<◌, ◌≤◌, ◌%◌, ◌^◌, refl, sym, ap, subst, ◌∙◌, Bool, true}
use Rattle.std.proofs.Common.{false, true≢false, length, Contains, Option, Some, None, ◌⊎◌, inl, inr, arith}
use Rattle.std.specs.Prelude.{◌≢◌, zero, suc, IfSome, is_some, option_map, if◌then◌else◌}
use Rattle.std.proofs.lemmas.Bool.{eqb-true, eq-eqb, ne_eqb}
use Rattle.std.proofs.lemmas.List.Elements.{All-contains}
use Rattle.std.proofs.lemmas.Option.{IfSome_then}
use Rattle.tword.specs.Words.{most_neg, word_below}
use Rattle.tword.specs.Stores.{Store, place}
use Rattle.tword.specs.Touches.{Writes, word_break, word_place_break, word_span, claim_break}
use Rattle.tword.specs.Claims.{Claims, has_saved}
use Rattle.tproc.specs.declared.process_status.ProcessStatus.{ProcessStatus}
use Rattle.tproc.specs.declared.process_status.ProcessStatus.TheVariants as places
use Rattle.tproc.specs.declared.waiter.Reason.{Reason}
use Rattle.tproc.specs.declared.waiter.Reason.TheVariants as reasons
use Rattle.tproc.specs.declared.waiter.Suspended.{Suspended}
use Rattle.tproc.specs.Machine.{Control, claims_of, descheduled, workspace_of}
use Rattle.tproc.specs.ProcessStatus.{status, status_by, not_waiting, reason_of, is_queued, is_that}
use Rattle.tproc.specs.ProcessStatus.{current_process, interrupted_process}
use Rattle.tproc.specs.Queues.{state_word}
use Rattle.tproc.specs.Telling.{is_told, is_told_at}
use Rattle.tproc.proofs.WordsApart.{LiesWord}
use Rattle.tplan.specs.declared.plan.NodePlan.{NodePlan}
use Rattle.tnet.specs.Rendezvous.{Node}
use Rattle.tprocesses.specs.Places.{Name, Standing, HasRun}
use Rattle.tprocesses.specs.Values.{Value, Use, Receiving, Choosing, Awaiting, Context, Stand, Absent}
use Rattle.tprocesses.specs.Values.{Rests, Runs, Waits, Ended, Chooses, Chosen, Listens, IsStand, IsFlag, stand_in}
use Rattle.tprocesses.specs.Touching.{Site, word_number}
use Rattle.tprocesses.specs.Machine.{site_of}
use Rattle.tseen.specs.Known.{HasSaved}
use Rattle.tseen.specs.Seats.{Seat, Current, Interrupted, Queued, Waiting, is_taken}
use Rattle.tseen.specs.Outputs.{Pending}
use Rattle.tseen.specs.Words.{AreSavedWords, is_set_aside}
use Rattle.tseen.specs.Choices.{Alternative, alternative, alternative_of, alternative_at, HasChoice, state_use}
use Rattle.tseen.specs.Processes.{Fits, IsSeated, IsGone, context_in}
use Rattle.tseen.specs.Shown.{ShowsNode}
use Rattle.tseen.specs.Steps.{IsSteady}
use Rattle.tseen.proofs.After.{State}
use Rattle.tseen.proofs.Adding.{among}
use Rattle.tseen.proofs.Cells.{use_of}
use Rattle.tseen.proofs.ChoicePlain.{alternative_context}
use Rattle.tseen.proofs.Counted.{waits_descheduled, queued_descheduled}
use Rattle.tseen.proofs.Released.{not_queued}
use Rattle.tseen.proofs.Spans.{word_placed, word_touchable}
use Rattle.tseen.proofs.Unclaimed.{unclaimed_writable}
use Rattle.tseen.proofs.Writing.{word_lies}

module _ (s : State) (n : ℕ) (plan : NodePlan) (named : Seat → Name) (sent : ℕ → Option Pending) (node : Node)
    (shown : ShowsNode s n plan named sent node) (steady : IsSteady node) (y : Name) (home : y.node ≡ n)
    (theirs : Alternative) (theirs_is : alternative_at s n y ≡ Some theirs) where
  abbrev m : Control
  m = node.machine.control

  abbrev store : Store
  store = node.machine.store

  abbrev claims : Claims
  claims = claims_of m

  abbrev site : Site
  site = site_of n plan

  whole : plan.memory % 4 ≡ 0
  whole = subst (λ z. z % 4 ≡ 0) shown.size steady.sized.size.2

  pub has : HasChoice s n m.links store y theirs
  has = shown.choices.choices y theirs home theirs_is

  -- its descriptor
  abbrev pub other : ℕ
  other = theirs.wptr + theirs.priority

  -- the word of its state
  abbrev pub address : ℕ
  address = word_below theirs.wptr state_word

  abbrev pub number : ℕ
  number = word_number address

  pub lies_state : LiesWord (length store) address
  lies_state =
      let l : (place address ≡ 4 * word_number address) × (most_neg ≤ address)
      × (4 * word_number address + 4 ≤ plan.memory) =
      word_lies site whole address (subst (λ z. word_place_break z address ≡ None) shown.size has.placed) in
      record {
        above = l.1;
        within = omega (arith, l.0, l.1, l.2, shown.size);
        aligned = eqb-true _ _ (word_placed (length store) address has.placed).0;
      }

  aligned_theirs : theirs.wptr % 4 ≡ 0
  aligned_theirs =
      let below_is : (theirs.wptr + (2 ^ 32 - 12)) % 2 ^ 32 ≡ address = refl in
      omega (arith, lies_state.aligned, below_is, has.small.1)

  pub workspace : workspace_of other ≡ theirs.wptr
  workspace = omega (arith, aligned_theirs, has.small.0)

  -- the word is in use for the alternative alone
  pub state_not : (u : Use) → (Choosing ≡ u → ⊥) → (Awaiting ≡ u → ⊥) → use_of s n number ≡ u → ⊥
  state_not u a b e = by theirs.runs (sym has.used ∙ e)
    where
      by : (r : Bool) → state_use r ≡ u → ⊥
      by true f = a f
      by false f = b f

  -- where its words are not saved, it is neither queued nor waits
  runs_not_there : theirs.runs ≡ true → Contains (descheduled m) theirs.wptr → ⊥
  runs_not_there e inside =
      true≢false (sym (All-contains (AreSavedWords s n) (descheduled m) theirs.wptr shown.marks.saved inside).third
      ∙ ap is_set_aside (has.used ∙ ap state_use e))

  -- how it stands
  pub record IsUpFront : Type 0 where
    pub runs : theirs.runs ≡ true
    pub waits : theirs.waits ≡ false
    pub stands : (status m other ≡ places.Runs) ⊎ (status m other ≡ places.Interrupted)

  pub record IsQueued : Type 0 where
    pub waits : theirs.waits ≡ false
    pub stands : status m other ≡ places.Queued
    pub saved : Contains (descheduled m) theirs.wptr

  pub record IsChoosing : Type 0 where
    pub runs : theirs.runs ≡ false
    pub waits : theirs.waits ≡ true
    pub context : Context
    pub stood : s (Standing y) ≡ IsStand (Chooses context)
    pub fits : HasSaved store other context
    pub nothing_lent : context.lent ≡ None
    pub has_run : s (HasRun n context.priority) ≡ IsFlag true
    pub reason : reason_of m other ≡ Some reasons.Chooses
    pub name : named (Waiting other) ≡ y

  abbrev pub Stands : Type 0
  Stands = IsUpFront ⊎ (IsQueued ⊎ IsChoosing)

  -- what the alternative of its context is
  of_context : (runs waits : Bool) (d : Context) → alternative_of (stand_in (s (Standing y))) ≡ alternative runs waits d
      → (theirs.wptr ≡ d.wptr) × (theirs.priority ≡ d.priority) × (theirs.runs ≡ runs) × (theirs.waits ≡ waits)
  of_context runs waits d e = alternative_context runs waits d theirs (sym e ∙ theirs_is)

  some_reason : (r : Reason) → reason_of m other ≡ Some r → is_some (reason_of m other) ≡ true
  some_reason r e = subst (λ (z : Option Reason). is_some z ≡ true) (sym e) refl

  -- where a descriptor is found that does not wait
  abbrev found_at : (queued current interrupted : Bool) → ProcessStatus
  found_at queued current interrupted =
      if queued then places.Queued else if current then places.Runs
      else if interrupted then places.Interrupted else places.Unknown

  -- who runs, or ran until it was interrupted, is found there
  front_status : theirs.runs ≡ true → (place : ProcessStatus)
      → found_at false (is_that (current_process m) other) (is_that (interrupted_process m) other) ≡ place
      → status m other ≡ place
  front_status runs place h = status_is (reason_of m other) refl
    where
      not_among : Contains (descheduled m) (workspace_of other) → ⊥
      not_among inside = runs_not_there runs (subst (λ z. Contains (descheduled m) z) workspace inside)

      at_place : (b : Bool) → is_queued m other ≡ b
          → found_at b (is_that (current_process m) other) (is_that (interrupted_process m) other) ≡ place
      at_place true e = absurd (not_among (queued_descheduled m other e))
      at_place false e = h

      status_is : (o : Option Reason) → reason_of m other ≡ o → status_by o (not_waiting m other) ≡ place
      status_is (Some r) e = absurd (not_among (waits_descheduled m other (some_reason r e)))
      status_is None e = at_place (is_queued m other) refl

  current_there : (o : Option ℕ) → m.current ≡ o
      → IfSome o (λ level. (theirs.wptr ≡ m.registers.wptr) × (theirs.priority ≡ level)) → is_some o ≡ true
      → is_that (current_process m) other ≡ true
  current_there None i f taken = absurd (true≢false (sym taken))
  current_there (Some level) i f taken =
      ap (λ (o : Option ℕ). is_that (option_map (λ q. m.registers.wptr + q) o) other) i
      ∙ eq-eqb (m.registers.wptr + level) other (omega (arith, f.0, f.1))

  interrupted_there : (o : Option Suspended) → m.interrupted ≡ o
      → IfSome o (λ t. (theirs.wptr ≡ t.registers.wptr) × (theirs.priority ≡ 1)) → is_some o ≡ true
      → (is_that (current_process m) other ≡ false) × (is_that (interrupted_process m) other ≡ true)
  interrupted_there None i f taken = absurd (true≢false (sym taken))
  interrupted_there (Some t) i f taken = (
    not_current m.current refl,
    ap (λ (o : Option Suspended). is_that (option_map (λ u. u.registers.wptr + 1) o) other) i
        ∙ eq-eqb (t.registers.wptr + 1) other (omega (arith, f.0, f.1)),
  )
    where
      aligned : m.registers.wptr % 4 ≡ 0
      aligned = eqb-true _ _ steady.placed.words.aligned

      high : (level : ℕ) → m.current ≡ Some level → level ≡ 0
      high level e =
          let small : level < 2 = subst (λ (o : Option ℕ). IfSome o (λ q. q < 2)) e steady.placed.priority in
          let below : m.current ≡ Some 1 → ⊥ =
          subst (λ (o : Option Suspended). IfSome o (λ _. m.current ≢ Some 1)) i steady.placed.below in
          by level small (λ g. below (e ∙ ap (λ z. Some z) g))
        where
          by : (level : ℕ) → level < 2 → (level ≡ 1 → ⊥) → level ≡ 0
          by zero small below = refl
          by (suc zero) small below = absurd (below refl)
          by (suc (suc level)) small below = omega arith

      not_current : (o : Option ℕ) → m.current ≡ o → is_that (current_process m) other ≡ false
      not_current None e = ap (λ (o : Option ℕ). is_that (option_map (λ q. m.registers.wptr + q) o) other) e
      not_current (Some level) e =
          ap (λ (o : Option ℕ). is_that (option_map (λ q. m.registers.wptr + q) o) other) e
          ∙ ne_eqb (m.registers.wptr + level) other (λ g.
          omega (arith, g, aligned, high level e, aligned_theirs, f.1))

  queued_there : theirs.waits ≡ false → is_queued m other ≡ true → IsQueued
  queued_there waits queued =
      record {
        waits = waits;
        stands = status_is (reason_of m other) refl;
        saved = subst (λ z. Contains (descheduled m) z) workspace (queued_descheduled m other queued);
      }
    where
      status_is : (o : Option Reason) → reason_of m other ≡ o → status_by o (not_waiting m other) ≡ places.Queued
      status_is (Some r) e = absurd (not_queued m.registers other m r e steady.placed.claimed.distinct queued)
      status_is None e =
          ap (λ b. found_at b (is_that (current_process m) other) (is_that (interrupted_process m) other)) queued

  -- a descriptor that has its workspace and its priority
  is_other : (d : Context) (b : ℕ) {runs waits : Bool}
      → (theirs.wptr ≡ d.wptr) × (theirs.priority ≡ d.priority) × (theirs.runs ≡ runs) × (theirs.waits ≡ waits)
      → HasSaved store b d → b ≡ other
  is_other d b of f = omega (arith, of.0, of.1, f.wptr, f.priority)

  choosing_there : (d : Context) → s (Standing y) ≡ IsStand (Chooses d) → (b : ℕ) → HasSaved store b d → d.lent ≡ None
      → s (HasRun n d.priority) ≡ IsFlag true → reason_of m b ≡ Some reasons.Chooses → named (Waiting b) ≡ y
      → IsChoosing
  choosing_there d stood b fits lent has_run reason name =
      let of = of_context false true d (ap (λ (z : Value). alternative_of (stand_in z)) stood) in
      let same : b ≡ other = is_other d b of fits in
      record {
        runs = of.2;
        waits = of.3;
        context = d;
        stood = stood;
        fits = subst (λ i. HasSaved store i d) same fits;
        nothing_lent = lent;
        has_run = has_run;
        reason = ap (reason_of m) (sym same) ∙ reason;
        name = ap (λ i. named (Waiting i)) (sym same) ∙ name;
      }

  none_of : alternative_of (stand_in (s (Standing y))) ≡ None → ⊥
  none_of e = differ (sym e ∙ theirs_is)
    where
      differ : None ≡ Some theirs → ⊥
      differ f = cc

  at_seat : (q : Seat) → is_taken m q ≡ true → named q ≡ y → IsSeated s n node q y → Stands
  at_seat Current taken name seat = by seat.stand seat.stands seat.fits
    where
      by : (stand : Stand) → s (Standing y) ≡ IsStand stand → Fits node Current stand → Stands
      by (Runs d) e f =
          let of = of_context true false d (ap (λ (z : Value). alternative_of (stand_in z)) e) in
          let there : is_that (current_process m) other ≡ true =
          current_there m.current refl (IfSome_then m.current f (λ level r. (of.0 ∙ r.wptr, of.1 ∙ r.priority)))
          taken in
          inl (record {
            runs = of.2;
            waits = of.3;
            stands = inl (front_status of.2 places.Runs
                (ap (λ b. found_at false b (is_that (interrupted_process m) other)) there));
          })
      by Absent e f = absurd f
      by (Rests d) e f = absurd f
      by (Waits d) e f = absurd f
      by Ended e f = absurd f
      by (Chooses d) e f = absurd f
      by (Chosen d) e f = absurd f
      by (Listens channel d) e f = absurd f
  at_seat Interrupted taken name seat = by seat.stand seat.stands seat.fits
    where
      by : (stand : Stand) → s (Standing y) ≡ IsStand stand → Fits node Interrupted stand → Stands
      by (Runs d) e f =
          let of = of_context true false d (ap (λ (z : Value). alternative_of (stand_in z)) e) in
          let there = interrupted_there m.interrupted refl
          (IfSome_then m.interrupted f (λ t r. (of.0 ∙ r.wptr, of.1 ∙ r.priority))) taken in
          inl (record {
            runs = of.2;
            waits = of.3;
            stands = inr (front_status of.2 places.Interrupted
                (ap (λ b. found_at false b (is_that (interrupted_process m) other)) there.0
                ∙ ap (λ b. found_at false false b) there.1));
          })
      by Absent e f = absurd f
      by (Rests d) e f = absurd f
      by (Waits d) e f = absurd f
      by Ended e f = absurd f
      by (Chooses d) e f = absurd f
      by (Chosen d) e f = absurd f
      by (Listens channel d) e f = absurd f
  at_seat (Queued b) taken name seat = by seat.stand seat.stands seat.fits
    where
      by : (stand : Stand) → s (Standing y) ≡ IsStand stand → Fits node (Queued b) stand → Stands
      by (Chosen d) e f =
          let of = of_context false false d (ap (λ (z : Value). alternative_of (stand_in z)) e) in
          inr (inl (queued_there of.3 (subst (λ i. is_queued m i ≡ true) (is_other d b of f.0) taken)))
      by (Rests d) e f = absurd (none_of (ap (λ (z : Value). alternative_of (stand_in z)) e))
      by Absent e f = absurd f
      by (Runs d) e f = absurd f
      by (Waits d) e f = absurd f
      by Ended e f = absurd f
      by (Chooses d) e f = absurd f
      by (Listens channel d) e f = absurd f
  at_seat (Waiting b) taken name seat = by seat.stand seat.stands seat.fits seat.has_run
    where
      by : (stand : Stand) → s (Standing y) ≡ IsStand stand → Fits node (Waiting b) stand
          → IfSome (context_in stand) (λ d. s (HasRun n d.priority) ≡ IsFlag true) → Stands
      by (Chooses d) e f r = inr (inr (choosing_there d e b f.0 f.1 r f.2 name))
      by (Rests d) e f r = absurd (none_of (ap (λ (z : Value). alternative_of (stand_in z)) e))
      by (Waits d) e f r = absurd (none_of (ap (λ (z : Value). alternative_of (stand_in z)) e))
      by Absent e f r = absurd f
      by (Runs d) e f r = absurd f
      by Ended e f r = absurd f
      by (Chosen d) e f r = absurd f
      by (Listens channel d) e f r = absurd f

  pub found : Stands
  found = by (shown.processes.there y home)
    where
      by : IsGone s n y ⊎ ((q : Seat) × (is_taken m q ≡ true) × (named q ≡ y)) → Stands
      by (inl (inl e)) = absurd (none_of (ap (λ (z : Value). alternative_of (stand_in z)) e))
      by (inl (inr e)) = absurd (none_of (ap (λ (z : Value). alternative_of (stand_in z)) e))
      by (inr (q, taken, name)) =
          at_seat q taken name (subst (IsSeated s n node q) name (shown.processes.seated q taken))

  is_saved : Contains (descheduled m) theirs.wptr → has_saved claims (workspace_of other) ≡ true
  is_saved inside =
      subst (λ z. has_saved claims z ≡ true) (sym workspace) (among (descheduled m) theirs.wptr inside)

  -- who runs may write the word of its state
  writable : theirs.runs ≡ true → word_break (length store) claims Writes address ≡ None
  writable runs =
      word_touchable (length store) claims Writes address has.placed
      (subst (λ a. claim_break claims Writes (word_span a) ≡ None) (omega (arith, lies_state.above, lies_state.aligned))
      (unclaimed_writable s n plan named sent node shown steady.placed number
      (λ e. true≢false (sym e ∙ ap is_set_aside used)) (λ e. not_received (sym used ∙ e)) has.unsent))
    where
      used : use_of s n number ≡ Choosing
      used = has.used ∙ ap state_use runs

      not_received : Choosing ≡ Receiving → ⊥
      not_received e = cc

  -- a notice reaches it
  pub front_told : IsUpFront → is_told node.machine other ≡ true
  front_told k = by k.stands
    where
      free : word_break (length store) claims Writes (word_below (workspace_of other) state_word) ≡ None
      free =
          subst (λ z. word_break (length store) claims Writes (word_below z state_word) ≡ None) (sym workspace)
          (writable k.runs)

      by : (status m other ≡ places.Runs) ⊎ (status m other ≡ places.Interrupted) → is_told node.machine other ≡ true
      by (inl e) =
          ap (λ z. is_told_at z (word_break (length store) claims Writes (word_below (workspace_of other) state_word))
          (has_saved claims (workspace_of other))) e
          ∙ ap (λ z. is_told_at places.Runs z (has_saved claims (workspace_of other))) free
      by (inr e) =
          ap (λ z. is_told_at z (word_break (length store) claims Writes (word_below (workspace_of other) state_word))
          (has_saved claims (workspace_of other))) e
          ∙ ap (λ z. is_told_at places.Interrupted z (has_saved claims (workspace_of other))) free

  pub queued_told : IsQueued → is_told node.machine other ≡ true
  queued_told k =
      ap (λ z. is_told_at z (word_break (length store) claims Writes (word_below (workspace_of other) state_word))
      (has_saved claims (workspace_of other))) k.stands
      ∙ is_saved k.saved

  -- one that waits has saved its words
  pub choosing_saved : IsChoosing → has_saved claims (workspace_of other) ≡ true
  choosing_saved k =
      among (descheduled m) (workspace_of other) (waits_descheduled m other (some_reason reasons.Chooses k.reason))

  pub choosing_status : IsChoosing → status m other ≡ places.Waits reasons.Chooses
  choosing_status k = ap (λ r. status_by r (not_waiting m other)) k.reason
