-- A channel makes a process go on that waits for its alternative: it is queued, and all others are where they were.
use Rattle.std.proofs.Common.{◌≡◌, ◌≢◌, ℕ, ◌+◌, ◌≤◌, refl, sym, ap, subst, ◌∙◌, Bool, true, false, true≢false, ◌&&◌}
use Rattle.std.proofs.Common.{List, arith, length, length-append, Contains, AllPairs, Option}
use Rattle.std.proofs.Common.{Some, None, ◌⊎◌, inl, inr, pos, cond}
use Rattle.std.specs.Prelude.{◌==◌, is_some, option_map}
use Rattle.std.proofs.lemmas.Bool.{eq-eqb, ne_eqb, cases_eq}
use Rattle.std.proofs.lemmas.List.Elements.{All-contains}
use Rattle.std.proofs.lemmas.List.Sums.{sum_by-append}
use Rattle.std.proofs.lemmas.Option.{IfSome_then}
use Rattle.tword.specs.Stores.{Store, word_at}
use Rattle.tword.specs.Words.{word_below}
use Rattle.tword.specs.declared.span.Span.{Span}
use Rattle.tword.specs.Touches.{word_place_break}
use Rattle.tproc.specs.declared.channels.Side.{Side}
use Rattle.tproc.specs.declared.channels.Side.TheVariants.{Input, Output}
use Rattle.tproc.specs.declared.waiter.Reason.{Reason}
use Rattle.tproc.specs.declared.waiter.Reason.TheVariants as reasons
use Rattle.tproc.specs.Machine.{Control, Machine, descheduled, workspace_of}
use Rattle.tproc.specs.ProcessStatus.{live, reason_of, is_queued}
use Rattle.tproc.specs.Queues.{iptr_word}
use Rattle.tplan.specs.declared.plan.Plan.{Plan}
use Rattle.tplan.specs.Wires.{end_at}
use Rattle.tnet.specs.Rendezvous.{Node}
use Rattle.tprocesses.specs.Places.{Place, Name, WordAt, Sending, Standing, Half, LinkHalf, Error, HaltOnError, Life}
use Rattle.tprocesses.specs.Places.{Population, HasRun, FlagChanged, same_name, same_place, Unfinished}
use Rattle.tprocesses.specs.Values.{Value, Engaged, Context, Stand, Rests, Chooses, Chosen, Holder, TakenBy, EnabledBy}
use Rattle.tprocesses.specs.Values.{AwaitedBy, Request, IsStand, IsFlag, IsAmount, IsHalf, word_in, half_in, flag_in}
use Rattle.tprocesses.specs.Values.{Choice, stand_in}
use Rattle.tprocesses.specs.Touching.{word_number}
use Rattle.tprocesses.specs.Choosing.{with_choice}
use Rattle.tprocesses.specs.Machine.{awaits_successor}
use Rattle.tseen.specs.Known.{HasSaved}
use Rattle.tseen.specs.Seats.{Seat, Current, Interrupted, Queued, Waiting, is_taken}
use Rattle.tseen.specs.Outputs.{Pending}
use Rattle.tseen.specs.Words.{AreMarked, AreSavedWords, use_at}
use Rattle.tseen.specs.Halves.{ShowsChannels, ShowsLink, IsTakenHalf, HasHolder, reason_at}
use Rattle.tseen.specs.Choices.{enabler, Alternative, alternative_of, descriptor_at}
use Rattle.tseen.specs.Processes.{Fits, IsSeated, IsGone, KeepsFlags, ShowsProcesses}
use Rattle.tseen.proofs.After.{State}
use Rattle.tseen.proofs.Cells.{use_of}
use Rattle.tseen.proofs.Counted.{beside, count_at, settled, live_idle, waits_descheduled, queued_descheduled}
use Rattle.tseen.proofs.Exchanged.{released}
use Rattle.tseen.proofs.Finished.{is_stand_of, one_name, place_itself}
use Rattle.tseen.proofs.HalfTaken.{is_half_of}
use Rattle.tseen.proofs.Others.{saved_stays, queued_stays, waiting_stays, interrupted_stays}
use Rattle.tseen.proofs.Released.{still_queued, queued_now, was_queued, not_queued, count_alike, length_alike}
use Rattle.tseen.proofs.Released.{were_there, other_reason, no_reason}
use Rattle.tseen.proofs.Renamed.{one_half}
use Rattle.tseen.proofs.Staying.{saved_words_stay, marks_from, link_stays}
use Rattle.tseen.proofs.YieldShown.{renamed}
use Rattle.tseen.proofs.Choices.{alternative_with}

module _ (p : Plan) (n : ℕ) (v t : State) (named : Seat → Name) (sent : ℕ → Option Pending) (node : Node) (y : Name)
    (other channel : ℕ) (d : Context) (last : Store) where
  abbrev m : Control
  m = node.machine.control

  abbrev store : Store
  store = node.machine.store

  -- what stood there before and after
  pub record IsLetGo : Type 0 where
    pub idle : m.current ≡ None
    pub reason : reason_of m other ≡ Some reasons.Chooses
    pub name : named (Waiting other) ≡ y
    pub home : y.node ≡ n
    pub stood : v (Standing y) ≡ IsStand (Chooses d)
    pub fits : HasSaved store other d
    pub nothing_lent : d.lent ≡ None
    pub has_run : v (HasRun n d.priority) ≡ IsFlag true
    pub distinct : AllPairs (λ a b. a ≢ b) (descheduled m)
    pub awaited : half_in (v (Half n channel Input)) ≡ AwaitedBy y
    pub stands : t (Standing y) ≡ IsStand (Chosen (with_choice true d))
    pub input : t (Half n channel Input) ≡ IsHalf (EnabledBy y)
    pub rest : (q : Place) → is_stand_of y q ≡ false → is_half_of n channel Input q ≡ false → t q ≡ v q
    pub size : length last ≡ length store
    pub iptrs : (a : ℕ) → Contains (descheduled m) a
        → word_at last (word_below a iptr_word) ≡ word_at store (word_below a iptr_word)
    pub words : (a : ℕ) → word_place_break (length store) a ≡ None → use_at v n a ≡ Engaged
        → word_at last a ≡ word_at store a

  module _ (g : IsLetGo) where
    abbrev pub now : Machine
    now = record { control = released m.registers other m; store = last }

    abbrev pub node' : Node
    node' = record node { machine = now }

    abbrev pub named' : Seat → Name
    named' = renamed other y named

    run_stays : (q : ℕ) → t (HasRun n q) ≡ v (HasRun n q)
    run_stays q = g.rest (HasRun n q) refl refl

    stand_stays : (b : Name) → same_name y b ≡ false → t (Standing b) ≡ v (Standing b)
    stand_stays b e = g.rest (Standing b) e refl

    one_stand : {a b : Stand} → IsStand a ≡ IsStand b → a ≡ b
    one_stand e = cc

    -- another seat is not that of the process
    third : (q : Seat) → IsSeated v n node q (named q) → (Fits node q (Chooses d) → ⊥) → same_name y (named q) ≡ false
    third q seat unfit = by (same_name y (named q)) refl
      where
        by : (b : Bool) → same_name y (named q) ≡ b → same_name y (named q) ≡ false
        by false e = e
        by true e =
            absurd (unfit (subst (Fits node q) (one_stand (sym seat.stands
            ∙ ap (λ a. v (Standing a)) (sym (one_name p y (named q) e)) ∙ g.stood)) seat.fits))

    reason_now : (b : ℕ) → b ≢ other → reason_of now.control b ≡ reason_of m b
    reason_now b e = other_reason m.registers other m reasons.Chooses g.reason g.distinct b e

    no_reason_now : reason_of now.control other ≡ None
    no_reason_now = no_reason m.registers other m reasons.Chooses g.reason g.distinct

    waits_other : (b : ℕ) → is_some (reason_of now.control b) ≡ true → b ≢ other
    waits_other b e f =
        true≢false (sym e ∙ ap (λ q. is_some (reason_of now.control q)) f
        ∙ ap (λ (q : Option Reason). is_some q) no_reason_now)

    waited : (b : ℕ) → b ≢ other → is_some (reason_of now.control b) ≡ true → is_some (reason_of m b) ≡ true
    waited b f e = subst (λ (q : Option Reason). is_some q ≡ true) (reason_now b f) e

    some_reason : (b : ℕ) (r : Reason) → reason_of m b ≡ Some r → is_some (reason_of m b) ≡ true
    some_reason b r e = subst (λ (z : Option Reason). is_some z ≡ true) (sym e) refl

    name_queued : named' (Queued other) ≡ y
    name_queued = rw (eq-eqb other other refl) refl

    name_other : (b : ℕ) → b ≢ other → named' (Queued b) ≡ named (Queued b)
    name_other b e = rw (ne_eqb b other e) refl

    module _ (shown : ShowsProcesses v n named sent node) where
      -- who waits elsewhere is another one
      waiting_third : (b : ℕ) → is_some (reason_of m b) ≡ true → b ≢ other → same_name y (named (Waiting b)) ≡ false
      waiting_third b e differs =
          third (Waiting b) (shown.seated (Waiting b) e) (λ f. differs (only f))
        where
          only : HasSaved store b d × (d.lent ≡ None) × (reason_of m b ≡ Some reasons.Chooses) → b ≡ other
          only f = omega (arith, f.0.wptr, f.0.priority, g.fits.wptr, g.fits.priority)

      chosen_seated : IsSeated t n node' (Queued other) y
      chosen_seated =
          record {
            home = g.home;
            stand = Chosen (with_choice true d);
            stands = g.stands;
            fits = (
              saved_stays store last other (with_choice true d)
                  (g.iptrs (workspace_of other) (waits_descheduled m other
                  (some_reason other reasons.Chooses g.reason)))
                  (record {
                    priority = g.fits.priority;
                    wptr = g.fits.wptr;
                    iptr = g.fits.iptr;
                    a = g.fits.a;
                    b = g.fits.b;
                    c = g.fits.c;
                  }),
              g.nothing_lent,
            );
            has_run = run_stays d.priority ∙ g.has_run;
          }

      seated : (q : Seat) → is_taken now.control q ≡ true → IsSeated t n node' q (named' q)
      seated Current e = absurd (true≢false (sym e ∙ ap (λ (o : Option ℕ). is_some o) g.idle))
      seated Interrupted e =
          let old : IsSeated v n node Interrupted (named Interrupted) = shown.seated Interrupted e in
          interrupted_stays n v t run_stays node node' (named Interrupted)
          (stand_stays (named Interrupted) (third Interrupted old (λ f. f))) refl old
      seated (Queued b) e = by (cases_eq b other)
        where
          of : b ≢ other → (is_queued m b ≡ true) ⊎ (b ≡ other) → IsSeated t n node' (Queued b) (named' (Queued b))
          of f (inr i) = absurd (f i)
          of f (inl taken) =
              let old : IsSeated v n node (Queued b) (named (Queued b)) = shown.seated (Queued b) taken in
              subst (IsSeated t n node' (Queued b)) (sym (name_other b f))
              (queued_stays n v t run_stays node node' b (named (Queued b))
              (stand_stays (named (Queued b)) (third (Queued b) old (λ i. i)))
              (g.iptrs (workspace_of b) (queued_descheduled m b taken)) old)

          by : (b ≡ other) ⊎ (b ≡ other → ⊥) → IsSeated t n node' (Queued b) (named' (Queued b))
          by (inl f) =
              subst (λ a. IsSeated t n node' (Queued a) (named' (Queued a))) (sym f)
              (subst (IsSeated t n node' (Queued other)) (sym name_queued) chosen_seated)
          by (inr f) = of f (was_queued m.registers other m reasons.Chooses g.reason g.distinct b e)
      seated (Waiting b) e =
          let f : b ≢ other = waits_other b e in
          let taken : is_some (reason_of m b) ≡ true = waited b f e in
          waiting_stays n v t run_stays node node' b (named (Waiting b))
          (stand_stays (named (Waiting b)) (waiting_third b taken f)) (λ i. (i.0, reason_now b f ∙ i.1, i.2))
          (λ i. reason_now b f ∙ i) (g.iptrs (workspace_of b) (waits_descheduled m b taken))
          (shown.seated (Waiting b) taken)

      abbrev HasPlace : Name → Type 0
      HasPlace b = IsGone t n b ⊎ ((q : Seat) × (is_taken now.control q ≡ true) × (named' q ≡ b))

      placed : (b : Name) → b.node ≡ n → HasPlace b
      placed b home = by (same_name y b) refl
        where
          of : same_name y b ≡ false → IsGone v n b ⊎ ((q : Seat) × (is_taken m q ≡ true) × (named q ≡ b)) → HasPlace b
          of e (inl (inl i)) = inl (inl (stand_stays b e ∙ i))
          of e (inl (inr i)) = inl (inr (stand_stays b e ∙ i))
          of e (inr (Current, taken, i)) = inr (Current, taken, i)
          of e (inr (Interrupted, taken, i)) = inr (Interrupted, taken, i)
          of e (inr (Queued a, taken, i)) =
              inr (
                Queued a,
                still_queued m.registers other m reasons.Chooses g.reason g.distinct a taken,
                name_other a (λ r. not_queued m.registers other m reasons.Chooses g.reason g.distinct
                    (subst (λ q. is_queued m q ≡ true) r taken)) ∙ i,
              )
          of e (inr (Waiting a, taken, i)) =
              let differs : a ≢ other =
              λ r. true≢false (sym (place_itself p (Standing y)) ∙ ap (same_name y) (sym g.name
              ∙ ap (λ q. named (Waiting q)) (sym r) ∙ i) ∙ e) in
              inr (Waiting a, subst (λ (q : Option Reason). is_some q ≡ true) (sym (reason_now a differs)) taken, i)

          by : (e : Bool) → same_name y b ≡ e → HasPlace b
          by true e =
              inr (
                Queued other,
                queued_now m.registers other m reasons.Chooses g.reason g.distinct,
                name_queued ∙ one_name p y b e,
              )
          by false e = of e (shown.there b home)

      live_before : live m ≡ settled m
      live_before = live_idle m g.idle

      live_now : live now.control ≡ settled now.control
      live_now = live_idle now.control g.idle

      lives : (b : ℕ) → t (Life n b) ≡ IsAmount (pos (count_at b (live now.control)))
      lives b =
          g.rest (Life n b) refl refl ∙ shown.lives b
          ∙ ap (λ q. IsAmount (pos q)) (ap (count_at b) live_before ∙ sum_by-append f (descheduled m) (beside m)
          ∙ ap (λ q. q + count_at b (beside m))
          (sym (count_alike m.registers other m reasons.Chooses g.reason g.distinct b))
          ∙ sym (sum_by-append f (descheduled now.control) (beside m)) ∙ sym (ap (count_at b) live_now))
        where
          f : ℕ → ℕ
          f a = cond (a == b) 1 0

      many : length (live now.control) ≡ length (live m)
      many =
          ap (λ (xs : List ℕ). length xs) live_now ∙ length-append (descheduled now.control) (beside m)
          ∙ ap (λ q. q + length (beside m)) (length_alike m.registers other m reasons.Chooses g.reason g.distinct)
          ∙ sym (length-append (descheduled m) (beside m)) ∙ sym (ap (λ (xs : List ℕ). length xs) live_before)

      keeps_back : KeepsFlags t n → KeepsFlags v n
      keeps_back e =
          (λ i. flag_in (sym (g.rest (FlagChanged n) refl refl) i) && flag_in (sym (run_stays 0) i)
          && flag_in (sym (run_stays 1) i)) ∙ e

      not_chosen : (a : Context) → IsStand (Chosen (with_choice true d)) ≡ IsStand (Rests a) → ⊥
      not_chosen a e = cc

      not_choosing : (a : Context) → IsStand (Chooses d) ≡ IsStand (Rests a) → ⊥
      not_choosing a e = cc

      rests_before : (b : Name) (a : Context) → t (Standing b) ≡ IsStand (Rests a) → (e : Bool) → same_name y b ≡ e
          → v (Standing b) ≡ IsStand (Rests a)
      rests_before b a f false e = sym (stand_stays b e) ∙ f
      rests_before b a f true e =
          absurd (not_chosen a (sym g.stands ∙ ap (λ q. t (Standing q)) (one_name p y b e) ∙ f))

      rests_now : (b : Name) (a : Context) → v (Standing b) ≡ IsStand (Rests a) → (e : Bool) → same_name y b ≡ e
          → t (Standing b) ≡ IsStand (Rests a)
      rests_now b a f false e = stand_stays b e ∙ f
      rests_now b a f true e =
          absurd (not_choosing a (sym g.stood ∙ ap (λ q. v (Standing q)) (one_name p y b e) ∙ f))

      pub processes_chosen : ShowsProcesses t n named' sent node'
      processes_chosen =
          record {
            seated = seated;
            there = placed;
            lent = λ b a l e f i. shown.lent b a l e (rests_before b a f (same_name y b) refl) i;
            passed = λ l q e f. (let i = shown.passed l q e f in
                (i.0, i.1, rests_now q.request.process i.1 i.2 (same_name y q.request.process) refl, i.3));
            lives = lives;
            population = (
              shown.population.0,
              g.rest (Population n) refl refl ∙ shown.population.1,
              subst (λ q. q ≤ shown.population.0) (sym many) shown.population.2,
            );
            interrupting = IfSome_then m.interrupted shown.interrupting (λ s e. run_stays 0 ∙ e);
            flags = λ e. record {
              error = g.rest (Error n) refl refl ∙ (shown.flags (keeps_back e)).error;
              halting = g.rest (HaltOnError n) refl refl ∙ (shown.flags (keeps_back e)).halting;
            };
            kept_flags = λ e. IfSome_then m.interrupted (shown.kept_flags (keeps_back e)) (λ s f. record {
              error = g.rest (Error n) refl refl ∙ f.error;
              halting = g.rest (HaltOnError n) refl refl ∙ f.halting;
            });
          }

    -- the halves that are taken
    half_stays : (a : ℕ) (sd : Side) → ((channel ≡ a) → (Input ≡ sd) → ⊥) → t (Half n a sd) ≡ v (Half n a sd)
    half_stays a sd f = by (same_place (Half n channel Input) (Half n a sd)) refl
      where
        by : (b : Bool) → same_place (Half n channel Input) (Half n a sd) ≡ b → t (Half n a sd) ≡ v (Half n a sd)
        by false e = g.rest (Half n a sd) refl e
        by true e = (let one = one_half p n channel a Input sd e in absurd (f one.0 one.1))

    not_taken_now : (a : ℕ) (sd : Side) (q : Request) → t (Half n a sd) ≡ IsHalf (TakenBy q) → channel ≡ a → Input ≡ sd
        → ⊥
    not_taken_now a sd q e f i =
        differ (sym g.input ∙ ap (λ z. t (Half n channel z)) i ∙ ap (λ z. t (Half n z sd)) f ∙ e)
      where
        differ : IsHalf (EnabledBy y) ≡ IsHalf (TakenBy q) → ⊥
        differ z = cc

    not_taken_before : (a : ℕ) (sd : Side) (q : Request) → v (Half n a sd) ≡ IsHalf (TakenBy q) → channel ≡ a
        → Input ≡ sd → ⊥
    not_taken_before a sd q e f i =
        differ (sym g.awaited ∙ ap half_in (ap (λ z. v (Half n channel z)) i ∙ ap (λ z. v (Half n z sd)) f ∙ e))
      where
        differ : AwaitedBy y ≡ TakenBy q → ⊥
        differ z = cc

    same_use : (i : ℕ) → use_of t n i ≡ use_of v n i
    same_use i = ap (λ (z : Value). (word_in z).used) (g.rest (WordAt n i) refl refl)

    not_that : (b a : ℕ) (sd : Side) (span : Span) → reason_of m b ≡ Some (reason_at sd a span) → b ≢ other
    not_that b a sd span e f = by sd (some_is (sym e ∙ ap (reason_of m) f ∙ g.reason))
      where
        some_is : {q r : Reason} → Some q ≡ Some r → q ≡ r
        some_is i = cc

        by : (sd : Side) → reason_at sd a span ≡ reasons.Chooses → ⊥
        by Input i = cc
        by Output i = cc

    pub channels_chosen : ShowsChannels v n named node.machine → ShowsChannels t n named' now
    channels_chosen shown =
        record {
          taken = λ a sd q e. taken a sd q (sym (half_stays a sd (not_taken_now a sd q e)) ∙ e);
          halves = λ a sd. half_by a sd (same_place (Half n channel Input) (Half n a sd)) refl;
          waiting = λ b a sd span e. waiting b a sd span e
              (waits_other b (subst (λ (z : Option Reason). is_some z ≡ true) (sym e) refl));
          engaged = λ i e. (let old = shown.engaged i (sym (same_use i) ∙ e) in (old.0, old.1, held old.0 old.2));
        }
      where
        taken : (a : ℕ) (sd : Side) (q : Request) → v (Half n a sd) ≡ IsHalf (TakenBy q)
            → IsTakenHalf t n named' now a sd q
        taken a sd q e =
            let old : IsTakenHalf v n named node.machine a sd q = shown.taken a sd q e in
            record {
              process = old.process;
              name = old.name;
              waits = reason_now old.process (not_that old.process a sd q.buffer old.waits) ∙ old.waits;
              channel_word = g.words a old.placed old.engaged ∙ old.channel_word;
              engaged = same_use (word_number a) ∙ old.engaged;
              placed = subst (λ z. word_place_break z a ≡ None) (sym g.size) old.placed;
            }

        half_by : (a : ℕ) (sd : Side) (b : Bool) → same_place (Half n channel Input) (Half n a sd) ≡ b
            → (r : Holder) × (t (Half n a sd) ≡ IsHalf r)
        half_by a sd true e =
            let one : (channel ≡ a) × (Input ≡ sd) = one_half p n channel a Input sd e in
            (EnabledBy y, sym (ap (λ z. t (Half n channel z)) one.1 ∙ ap (λ z. t (Half n z sd)) one.0) ∙ g.input)
        half_by a sd false e = ((shown.halves a sd).0, g.rest (Half n a sd) refl e ∙ (shown.halves a sd).1)

        waiting : (b a : ℕ) (sd : Side) (span : Span) → reason_of now.control b ≡ Some (reason_at sd a span) → b ≢ other
            → t (Half n a sd) ≡ IsHalf (TakenBy (record { process = named' (Waiting b); buffer = span }))
        waiting b a sd span e differs =
            let old : v (Half n a sd) ≡ IsHalf (TakenBy (record { process = named (Waiting b); buffer = span })) =
            shown.waiting b a sd span (sym (reason_now b differs) ∙ e) in
            half_stays a sd (not_taken_before a sd _ old) ∙ old

        held : (a : ℕ) → HasHolder v n named a → HasHolder t n named' a
        held a (inl (sd, q, e)) = inl (sd, q, half_stays a sd (not_taken_before a sd q e) ∙ e)
        held a (inr (z, e)) = by (same_place (Half n channel Input) (Half n a Input)) refl
          where
            by : (b : Bool) → same_place (Half n channel Input) (Half n a Input) ≡ b → HasHolder t n named' a
            by false f = inr (z, ap (λ (q : Value). enabler (half_in q)) (g.rest (Half n a Input) refl f) ∙ e)
            by true f =
                inr (
                  y,
                  ap (λ (q : Value). enabler (half_in q)) (ap (λ i. t (Half n i Input)) (sym
                      (one_half p n channel a Input
                      Input f).0) ∙ g.input),
                )

    -- the descriptors of those that have alternatives stay
    descriptors_stay : is_some d.choice ≡ true → (b : Name) → descriptor_at t n b ≡ descriptor_at v n b
    descriptors_stay under_way b = by (same_name y b) refl
      where
        descriptor : Value → Option ℕ
        descriptor z = option_map (λ (a : Alternative). a.wptr + a.priority) (alternative_of (stand_in z))

        same : (o : Option Choice) → d.choice ≡ o → is_some o ≡ true
            → descriptor (IsStand (Chosen (with_choice true d))) ≡ descriptor (IsStand (Chooses d))
        same (Some choice) e f =
            sym (ap (option_map (λ (a : Alternative). a.wptr + a.priority)) (alternative_with false true d choice e))
        same None e f = absurd (true≢false (sym f))

        by : (e : Bool) → same_name y b ≡ e → descriptor_at t n b ≡ descriptor_at v n b
        by true e =
            subst (λ a. descriptor_at t n a ≡ descriptor_at v n a) (one_name p y b e)
            (ap descriptor g.stands ∙ same d.choice refl under_way ∙ sym (ap descriptor g.stood))
        by false e = ap descriptor (stand_stays b e)

    pub link_chosen : is_some d.choice ≡ true → (l : ℕ) → ShowsLink v n named sent node l
        → ShowsLink t n named' sent node' l
    link_chosen under_way l shown =
        link_stays v t n named named' sent node node' l (λ b. refl) (λ sd. g.rest (LinkHalf (end_at n l) sd) refl refl)
        (g.rest (Unfinished (end_at n l)) refl refl) (λ b e. descriptors_stay under_way b) refl refl shown

    pub marks_chosen : AreMarked v n sent m → AreMarked t n sent now.control
    marks_chosen marks =
        marks_from v t n sent sent m now.control
        (λ a e. saved_words_stay v t n a (λ i f. g.rest (WordAt n i) refl refl)
        (All-contains (AreSavedWords v n) (descheduled m) a marks.saved
        (were_there m.registers other m reasons.Chooses g.reason g.distinct a e)))
        (λ l. refl) (λ i e. same_use i ∙ e) (λ i. g.rest (Sending n i) refl refl ∙ marks.outputs i)
        (λ i. ap awaits_successor (same_use i) ∙ marks.no_successor i) marks
