-- A process that has taken its half of an internal channel is shown, whatever else its step did to the words of
-- alternatives.
use Rattle.tseen.specs.Words.{is_set_aside}
use Rattle.tseen.specs.Choices.{ShowsChoices, alternative_at}
use Rattle.tproc.proofs.WordsApart.{LiesWord}
use Rattle.tproc.specs.Placement.{IsWorkspace, IsWord as IsMachineWord}
use Rattle.tseen.proofs.Built.{lies_below}
use Rattle.tseen.proofs.Staying.{used_one}
use Rattle.tproc.specs.declared.channels.Side.TheVariants.{Input}
use Rattle.tseen.specs.Halves.{HasHolder}
use Rattle.tseen.proofs.Taken.{not_aside, saved_of}
use Rattle.tseen.specs.Choices.{enabler, enabler_at}
use Rattle.std.proofs.Common.{◌*◌, ◌≡◌, ◌≢◌, ℕ, ◌+◌, ◌<◌, ◌≤◌, refl, sym, ap, subst, ◌∙◌, Bool, true, false}
use Rattle.std.proofs.Common.{true≢false}
use Rattle.std.proofs.Common.{length, length-append, [], ◌∷◌, ◌++◌, Contains, Option, Some, None, arith, ◌⊎◌, inl}
use Rattle.std.proofs.Common.{inr}
use Rattle.std.proofs.Common.{pos, cond, suc}
use Rattle.std.specs.Prelude.{◌==◌, is_some, IfSome}
use Rattle.std.proofs.lemmas.Bool.{eq-eqb, eqb-true, ne_eqb, cases_eq}
use Rattle.std.proofs.lemmas.List.Elements.{All-contains}
use Rattle.std.proofs.lemmas.List.Sums.{sum_by-append, sum_by_push}
use Rattle.std.proofs.lemmas.Option.{IfSome_then}
use Rattle.tword.specs.Words.{most_neg, word_below}
use Rattle.tword.specs.Stores.{Store, word_at, place}
use Rattle.tword.specs.declared.span.Span.{Span}
use Rattle.tword.specs.Touches.{word_place_break}
use Rattle.tcode.specs.declared.instruction.Operation.{Operation}
use Rattle.tproc.specs.Channels.{reason_for}
use Rattle.tproc.specs.declared.waiter.Waiter.{Waiter}
use Rattle.tproc.specs.declared.channels.Side.{Side}
use Rattle.tproc.specs.declared.offer.Offer.{Offer}
use Rattle.tproc.specs.declared.waiter.Reason.{Reason}
use Rattle.tproc.specs.declared.waiter.Reason.TheVariants.{LinkInput, LinkOutput}
use Rattle.tproc.specs.Machine.{Control, Machine, descheduled, workspace_of, priority_of}
use Rattle.tproc.specs.Placement.{WaitsFor, IsBuffer}
use Rattle.tproc.specs.ProcessStatus.{live, reason_of}
use Rattle.tproc.specs.LinkChannels.{link_end}
use Rattle.tproc.specs.Queues.{iptr_word}
use Rattle.tplan.specs.declared.plan.Plan.{Plan}
use Rattle.tplan.specs.Wires.{end_at}
use Rattle.tnet.specs.Rendezvous.{Node, Configuration}
use Rattle.tprocesses.specs.Places.{Place, Name, WordAt, Standing, Half, LinkHalf, Error, HaltOnError, Life}
use Rattle.tprocesses.specs.Places.{Population, Unfinished}
use Rattle.tprocesses.specs.Places.{HasRun, same_name, same_place}
use Rattle.tprocesses.specs.Values.{Holder, Nobody, TakenBy, Value, Saved, Engaged, Context, Stand, Rests, Runs, Waits}
use Rattle.tprocesses.specs.Values.{Request, IsStand}
use Rattle.tprocesses.specs.Values.{IsAmount, IsHalf, word_in, half_in}
use Rattle.tprocesses.specs.Touching.{Site, word_number}
use Rattle.tprocesses.specs.Standing.{forget}
use Rattle.tprocesses.specs.Machine.{site_of}
use Rattle.tseen.specs.Seats.{Seat, Current, Interrupted, Queued, Waiting, is_taken}
use Rattle.tseen.specs.Halves.{ShowsChannels, ShowsLink, IsTakenHalf, reason_at}
use Rattle.tseen.specs.Processes.{IsSeated, IsGone, ShowsProcesses}
use Rattle.tseen.specs.Shown.{ShowsNode}
use Rattle.tseen.specs.Steps.{IsCurrent}
use Rattle.tseen.proofs.FirstWords.{made, desch_now, marks_now}
use Rattle.tseen.proofs.FirstWords.{engaged_was, engaged_stays, IsLaid, is_firm}
use Rattle.tseen.proofs.TakenWords.{process, request, aligned, small, own_workspace, rank_is, at, channel_is}
use Rattle.tseen.proofs.TakenWords.{own_half, lies_here, alternative_now, alternative_before}
use Rattle.tseen.proofs.HalfTaken.{is_half_of}
use Rattle.tseen.proofs.Spans.{word_placed}
use Rattle.tseen.proofs.After.{State}
use Rattle.tseen.proofs.Cells.{use_of, shows_from}
use Rattle.tseen.proofs.Written.{is_word_of}
use Rattle.tseen.proofs.Writing.{word_lies}
use Rattle.tseen.proofs.Finished.{is_stand_of, one_name, place_itself}
use Rattle.tseen.proofs.Frames.{node_at}
use Rattle.tseen.proofs.Running.{RunsThere}
use Rattle.tseen.proofs.Counted.{count_at, beside, live_long, live_idle, lives_are, waits_descheduled}
use Rattle.tseen.proofs.Counted.{queued_descheduled}
use Rattle.tseen.proofs.Stepped.{shown_node, there, apart}
use Rattle.tseen.proofs.Others.{other_name, queued_seated, waiting_seated, is_running, queued_not_running}
use Rattle.tseen.proofs.Others.{waiting_not_running, interrupted_seated}
use Rattle.tseen.proofs.DispatchShown.{found_waiting}
use Rattle.tseen.proofs.Reasons.{push_other, push_new}
use Rattle.tseen.proofs.Renamed.{waiting_named, same_reason, one_reason, one_half}
use Rattle.tseen.proofs.Staying.{link_renamed}
use Rattle.tseen.proofs.AtOperation.{context_at}
use Rattle.tseen.proofs.Asked.{side_of, buffer_for}
use Rattle.tseen.proofs.Taken.{HasTaken, is_new, own_empty}
use Rattle.tseen.proofs.InputChannels.{descriptors_stay}
use Rattle.tseen.proofs.Choices.{stands_alike}

module _ (p : Plan) (c : Configuration) (s : State) (n : ℕ) (x : Name) (k : IsCurrent p c s n x) (v : State)
    (h : HasTaken p c s n x k v) (last : Store) (g : IsLaid p c s n x k v h last)
    (alone : (side : Side) (q : Request) → s (Half n k.node.machine.control.registers.b side) ≡ IsHalf (TakenBy q) → ⊥)
  where
    abbrev m : Control
    m = k.node.machine.control

    abbrev store : Store
    store = k.node.machine.store

    abbrev site : Site
    site = site_of n k.plan

    abbrev running : RunsThere s n k.plan k.node x
    running = there p c s n x k

    abbrev shown : ShowsNode s n k.plan (k.shows.named n) (k.shows.sent n) k.node
    shown = shown_node p c s n x k

    abbrev o : Operation
    o = h.operation

    abbrev side : Side
    side = side_of o

    abbrev channel : ℕ
    channel = m.registers.b

    abbrev w : ℕ
    w = m.registers.wptr

    abbrev buffer : Span
    buffer = buffer_for o m.registers

    abbrev own : ℕ
    own = process p c s n x k v h

    abbrev waits : Context
    waits = forget (context_at p c s n x k h.size)

    abbrev pub now : Machine
    now = record { control = (made p c s n x k v h).control; store = last }

    abbrev pub node' : Node
    node' = record k.node { machine = now }

    abbrev named : Seat → Name
    named = k.shows.named n

    abbrev pub named' : Seat → Name
    named' = waiting_named own x named

    pub stay : (q : Place) → is_word_of n q ≡ false → is_half_of n channel side q ≡ false → is_stand_of x q ≡ false
        → v q ≡ s q
    stay = at p c s n x k v h

    stood : v (Standing x) ≡ IsStand (Waits waits)
    stood = h.taken.waits.is

    half_now : v (Half n channel side) ≡ IsHalf (TakenBy (record { process = x; buffer = buffer }))
    half_now = own_half p c s n x k v h

    -- who waited waits still, and is another one
    waited_other : (b : ℕ) → is_some (reason_of m b) ≡ true → b ≢ own
    waited_other b g e =
        is_new p c s n x k v h (workspace_of b) (waits_descheduled m b g)
        (ap workspace_of e ∙ own_workspace p c s n x k v h)

    some_reason : (b : ℕ) (r : Reason) → reason_of m b ≡ Some r → is_some (reason_of m b) ≡ true
    some_reason b r e = subst (λ (z : Option Reason). is_some z ≡ true) (sym e) refl

    abbrev own_waiter : Waiter
    own_waiter = record { process = own; reason = reason_for (request p c s n x k v h) side }

    pub reason_other : (b : ℕ) → b ≢ own → reason_of now.control b ≡ reason_of m b
    reason_other b e =
        push_other m.waiting own_waiter b (λ f. e (sym f))

    not_waiting : reason_of m own ≡ None
    not_waiting = by (reason_of m own) refl
      where
        by : (r : Option Reason) → reason_of m own ≡ r → reason_of m own ≡ None
        by None e = e
        by (Some r) e = absurd (waited_other own (some_reason own r e) refl)

    pub reason_own : reason_of now.control own ≡ Some (reason_at side channel buffer)
    reason_own =
        push_new m.waiting own_waiter not_waiting
        ∙ ap Some (same_reason (request p c s n x k v h) side)

    name_own : named' (Waiting own) ≡ x
    name_own = rw (eq-eqb own own refl) refl

    pub name_other : (b : ℕ) → b ≢ own → named' (Waiting b) ≡ named (Waiting b)
    name_other b e = rw (ne_eqb b own e) refl

    -- the seats
    pub iptr_stays : (a : ℕ) → Contains (descheduled m) a
        → word_at last (word_below a iptr_word) ≡ word_at store (word_below a iptr_word)
    iptr_stays a inside =
        let used : use_of s n (word_number (word_below a 1)) ≡ Saved = used_one s n a
        (saved_of p c s n x k v h a inside) in
        g.words (word_below a 1)
        (subst (λ z. LiesWord z (word_below a 1)) shown.size (lies_below (length store) a 1 k.steady.placed.claimed.size
        (All-contains (IsWorkspace (length store)) (descheduled m) a k.steady.placed.claimed.saved inside)
        (All-contains IsMachineWord (descheduled m) a k.steady.placed.workspaces inside) (omega arith, omega arith)))
        (ap is_firm used)
        (λ e. true≢false (sym (ap is_set_aside used) ∙ ap (λ i. is_set_aside (use_of s n i)) e
        ∙ not_aside p c s n x k v h))

    not_this : (y : Name) (stand : Stand) → s (Standing y) ≡ IsStand stand → is_running (IsStand stand) ≡ false
        → same_name x y ≡ false
    not_this y stand e g = other_name p s x y (Runs running.context) stand is_running running.stood e refl g

    own_seated : IsSeated v n node' (Waiting own) x
    own_seated =
        record {
          home = running.home;
          stand = Waits waits;
          stands = stood;
          fits = (
            record {
              priority = running.registers.priority ∙ own_priority;
              wptr = sym (own_workspace p c s n x k v h);
              iptr = sym (ap (λ a. word_at last (word_below a iptr_word)) (own_workspace p c s n x k v h) ∙ g.iptr);
              a = tt;
              b = tt;
              c = tt;
            },
            running.registers.nothing_lent,
          );
          has_run = stay (HasRun n waits.priority) refl refl refl
              ∙ ap (λ q. s (HasRun n q)) running.registers.priority ∙ running.has_run;
        }
      where
        own_priority : running.level ≡ priority_of own
        own_priority =
            omega (arith, aligned p c s n x k v h, small p c s n x k v h, rank_is running.level running.small)

    seated : (q : Seat) → is_taken now.control q ≡ true → IsSeated v n node' q (named' q)
    seated Current g = absurd (true≢false (sym g))
    seated Interrupted g =
        interrupted_seated n x s v (λ y e. stay (Standing y) refl refl e) (λ q. stay (HasRun n q) refl refl refl) k.node
        node' (named Interrupted) (apart p c s n x k g) refl (shown.processes.seated Interrupted g)
    seated (Queued b) g =
        let old : IsSeated s n k.node (Queued b) (named (Queued b)) = shown.processes.seated (Queued b) g in
        queued_seated n x s v (λ y e. stay (Standing y) refl refl e) (λ q. stay
        (HasRun n q) refl refl refl) k.node node'
        b (named (Queued b))
        (not_this (named (Queued b)) old.stand old.stands (queued_not_running k.node b old.stand old.fits))
        (iptr_stays (workspace_of b) (queued_descheduled m b g)) old
    seated (Waiting b) g = by (cases_eq b own)
      where
        by : (b ≡ own) ⊎ (b ≡ own → ⊥) → IsSeated v n node' (Waiting b) (named' (Waiting b))
        by (inl e) =
            subst (λ a. IsSeated v n node' (Waiting a) (named' (Waiting a))) (sym e)
            (subst (IsSeated v n node' (Waiting own)) (sym name_own) own_seated)
        by (inr e) =
            let before : is_some (reason_of m b) ≡ true =
            subst (λ (z : Option Reason). is_some z ≡ true) (reason_other b e) g in
            let old : IsSeated s n k.node (Waiting b) (named (Waiting b)) = shown.processes.seated (Waiting b) before in
            subst (IsSeated v n node' (Waiting b)) (sym (name_other b e))
            (waiting_seated n x s v (λ y e. stay (Standing y) refl refl e) (λ q. stay
            (HasRun n q) refl refl refl) k.node
            node' b (named (Waiting b))
            (not_this (named (Waiting b)) old.stand old.stands (waiting_not_running k.node b old.stand old.fits))
            (λ f. (f.0, reason_other b e ∙ f.1, f.2)) (λ f. reason_other b e
            ∙ f) (iptr_stays (workspace_of b) (waits_descheduled m b before)) old)

    abbrev HasPlace : Name → Type 0
    HasPlace y = IsGone v n y ⊎ ((q : Seat) × (is_taken now.control q ≡ true) × (named' q ≡ y))

    placed : (y : Name) → y.node ≡ n → HasPlace y
    placed y g = by (same_name x y) refl
      where
        of : same_name x y ≡ false → IsGone s n y ⊎ ((q : Seat) × (is_taken m q ≡ true) × (named q ≡ y)) → HasPlace y
        of other (inl (inl e)) = inl (inl (stay (Standing y) refl refl other ∙ e))
        of other (inl (inr e)) = inl (inr (stay (Standing y) refl refl other ∙ e))
        of other (inr (Current, taken, e)) =
            absurd (true≢false (sym (place_itself p (Standing x)) ∙ ap (same_name x) (sym k.name ∙ e) ∙ other))
        of other (inr (Interrupted, taken, e)) = inr (Interrupted, taken, e)
        of other (inr (Queued b, taken, e)) = inr (Queued b, taken, e)
        of other (inr (Waiting b, taken, e)) =
            let differs : b ≢ own = waited_other b taken in
            inr (
              Waiting b,
              subst (λ (z : Option Reason). is_some z ≡ true) (sym (reason_other b differs)) taken,
              name_other b differs ∙ e,
            )

        by : (b : Bool) → same_name x y ≡ b → HasPlace y
        by true e =
            inr (
              Waiting own,
              subst (λ (z : Option Reason). is_some z ≡ true) (sym reason_own) refl,
              name_own ∙ one_name p x y e,
            )
        by false e = of e (shown.processes.there y g)

    -- how many live
    live_now : live now.control ≡ (descheduled m ++ w ∷ []) ++ beside m
    live_now = live_idle now.control refl ∙ ap (λ ws. ws ++ beside m) (desch_now p c s n x k v h)

    lives : (b : ℕ) → v (Life n b) ≡ IsAmount (pos (count_at b (live now.control)))
    lives b =
        stay (Life n b) refl refl refl ∙ shown.processes.lives b
        ∙ ap (λ z. IsAmount (pos z)) (lives_are m running.level b running.current
        (aligned p c s n x k v h) running.small
        ∙ ap (λ z. z + f w) (sum_by-append f (descheduled m) (beside m))
        ∙ sym (ap (count_at b) live_now ∙ sum_by-append f (descheduled m ++ w ∷ []) (beside m)
        ∙ ap (λ z. z + count_at b (beside m)) (sum_by_push f (descheduled m) w) ∙ omega arith))
      where
        f : ℕ → ℕ
        f a = cond (a == b) 1 0

    many : length (live now.control) ≡ length (live m)
    many =
        ap length live_now ∙ length-append (descheduled m ++ w ∷ []) (beside m)
        ∙ ap (λ z. z + length (beside m)) (length-append (descheduled m) (w ∷ []))
        ∙ sym (live_long m running.level running.current ∙ ap suc (length-append (descheduled m) (beside m))
        ∙ omega arith)

    pub processes_now : ShowsProcesses v n named' (k.shows.sent n) node'
    processes_now =
        record {
          seated = seated;
          there = placed;
          lent = λ y a l g e f. shown.processes.lent y a l g (rests_before y a e (same_name x y) refl) f;
          passed = λ l q e g. (let f = shown.processes.passed l q e g in (
            f.0,
            f.1,
            stay (Standing q.request.process) refl refl (not_this q.request.process (Rests f.1) f.2 refl) ∙ f.2,
            f.3,
          ));
          lives = lives;
          population = (
            shown.processes.population.0,
            stay (Population n) refl refl refl ∙ shown.processes.population.1,
            subst (λ z. z ≤ shown.processes.population.0) (sym many) shown.processes.population.2,
          );
          interrupting = IfSome_then m.interrupted shown.processes.interrupting
              (λ t e. stay (HasRun n 0) refl refl refl ∙ e);
          flags = λ g. record {
            error = stay (Error n) refl refl refl ∙ running.flags.error;
            halting = stay (HaltOnError n) refl refl refl ∙ running.flags.halting;
          };
          kept_flags = λ g. IfSome_then m.interrupted (shown.processes.kept_flags k.kept) (λ t f. record {
            error = stay (Error n) refl refl refl ∙ f.error;
            halting = stay (HaltOnError n) refl refl refl ∙ f.halting;
          });
        }
      where
        not_rests : (a : Context) → IsStand (Waits waits) ≡ IsStand (Rests a) → ⊥
        not_rests a e = cc

        rests_before : (y : Name) (a : Context) → v (Standing y) ≡ IsStand (Rests a) → (b : Bool) → same_name x y ≡ b
            → s (Standing y) ≡ IsStand (Rests a)
        rests_before y a e false other = sym (stay (Standing y) refl refl other) ∙ e
        rests_before y a e true same =
            absurd (not_rests a (sym stood ∙ ap (λ z. v (Standing z)) (one_name p x y same) ∙ e))

    -- the channels
    not_filled : (q : Request) → s (Half n channel side) ≡ IsHalf (TakenBy q) → ⊥
    not_filled q e = filled (sym (own_empty p c s n x k v h) ∙ ap half_in e)
      where
        filled : {r : Request} → Nobody ≡ TakenBy r → ⊥
        filled e = cc

    -- a half that is taken and was so is another one
    other_half : (a : ℕ) (t : Side) (q : Request) → s (Half n a t) ≡ IsHalf (TakenBy q)
        → is_half_of n channel side (Half n a t) ≡ false
    other_half a t q e = by (same_place (Half n channel side) (Half n a t)) refl
      where
        by : (b : Bool) → same_place (Half n channel side) (Half n a t) ≡ b
            → same_place (Half n channel side) (Half n a t) ≡ false
        by false f = f
        by true f =
            let one : (channel ≡ a) × (side ≡ t) = one_half p n channel a side t f in
            absurd (not_filled q (subst (λ z. s (Half n channel z) ≡ IsHalf (TakenBy q)) (sym one.1)
            (subst (λ z. s (Half n z t) ≡ IsHalf (TakenBy q)) (sym one.0) e)))

    -- a word in use as a channel lies where it is
    channel_lies : (a : ℕ) → word_place_break k.plan.memory a ≡ None → LiesWord k.plan.memory a
    channel_lies a there =
        let l : (place a ≡ 4 * word_number a) × (most_neg ≤ a) × (4 * word_number a + 4 ≤ k.plan.memory) =
        word_lies site running.whole a there in
        record {
          above = l.1;
          within = omega (arith, l.0, l.1, l.2);
          aligned = eqb-true _ _ (word_placed k.plan.memory a there).0;
        }

    old_taken : (a : ℕ) (t : Side) (q : Request) → (channel ≡ a → ⊥) → IsTakenHalf s n named k.node.machine a t q
        → IsTakenHalf v n named' now a t q
    old_taken a t q apart old =
        let differs : old.process ≢ own =
        waited_other old.process (some_reason old.process (reason_at t a q.buffer) old.waits) in
        let there : word_place_break k.plan.memory a ≡ None =
        subst (λ z. word_place_break z a ≡ None) shown.size old.placed in
        let l : LiesWord k.plan.memory a = channel_lies a there in
        let here : LiesWord k.plan.memory channel = lies_here p c s n x k v h in
        record {
          process = old.process;
          name = name_other old.process differs ∙ old.name;
          waits = reason_other old.process differs ∙ old.waits;
          channel_word = g.words a l (ap is_firm old.engaged)
              (λ e. apart (omega (arith, e, l.above, l.aligned, here.above, here.aligned))) ∙ old.channel_word;
          engaged = engaged_stays p c s n x k v h (word_number a) old.engaged;
          placed = subst (λ z. word_place_break z a ≡ None) (sym g.tells.length) there;
        }

    own_taken : IsTakenHalf v n named' now channel side (record { process = x; buffer = buffer })
    own_taken =
        record {
          process = own;
          name = name_own;
          waits = reason_own;
          channel_word = g.channel_word;
          engaged = ap (λ (z : Value). (word_in z).used) (channel_is p c s n x k v h);
          placed = subst (λ z. word_place_break z channel ≡ None) (sym g.tells.length) h.taken.placed;
        }

    -- the half of a channel that is enabled stays
    enabled_input : (a : ℕ) (y : Name) → enabler_at s n a ≡ Some y → v (Half n a Input) ≡ s (Half n a Input)
    enabled_input a y e = by (same_place (Half n channel side) (Half n a Input)) refl
      where
        nobody : {y : Name} → None ≡ Some y → ⊥
        nobody i = cc

        by : (b : Bool) → same_place (Half n channel side) (Half n a Input) ≡ b
            → v (Half n a Input) ≡ s (Half n a Input)
        by false f = stay (Half n a Input) refl f refl
        by true f =
            let one : (channel ≡ a) × (side ≡ Input) = one_half p n channel a side Input f in
            absurd (nobody (sym (ap enabler (subst (λ t. half_in (s (Half n channel t)) ≡ Nobody) one.1
            (own_empty p c s n x k v h))) ∙ ap (enabler_at s n) one.0 ∙ e))

    -- who has enabled a channel
    pub enabler_stays : (a : ℕ) → enabler_at v n a ≡ enabler_at s n a
    enabler_stays a = by (same_place (Half n channel side) (Half n a Input)) refl
      where
        by : (b : Bool) → same_place (Half n channel side) (Half n a Input) ≡ b → enabler_at v n a ≡ enabler_at s n a
        by false f = ap (λ (z : Value). enabler (half_in z)) (stay (Half n a Input) refl f refl)
        by true f =
            let one : (channel ≡ a) × (side ≡ Input) = one_half p n channel a side Input f in
            subst (λ b. enabler_at v n b ≡ enabler_at s n b) one.0
            (ap (λ (z : Value). enabler (half_in z)) (subst (λ t. v (Half n channel t)
            ≡ IsHalf (TakenBy (record { process = x; buffer = buffer }))) one.1 half_now)
            ∙ sym (ap enabler (subst (λ t. half_in (s (Half n channel t)) ≡ Nobody) one.1 (own_empty p c s n x k v h))))

    same_request : {q r : Request} → IsHalf (TakenBy q) ≡ IsHalf (TakenBy r) → q ≡ r
    same_request e = cc

    pub channels_now : ShowsChannels v n named' now
    channels_now =
        record {
          taken = λ a t q e. taken_by a t q e (same_place (Half n channel side) (Half n a t)) refl;
          halves = λ a t. half_by a t (same_place (Half n channel side) (Half n a t)) refl;
          waiting = λ b a t span e. waiting_by b a t span e (cases_eq b own);
          engaged = λ i e. engaged_by i (engaged_was p c s n x k v h i e);
        }
      where
        taken_by : (a : ℕ) (t : Side) (q : Request) → v (Half n a t) ≡ IsHalf (TakenBy q) → (b : Bool)
            → same_place (Half n channel side) (Half n a t) ≡ b → IsTakenHalf v n named' now a t q
        taken_by a t q e true f =
            let one : (channel ≡ a) × (side ≡ t) = one_half p n channel a side t f in
            subst (λ z. IsTakenHalf v n named' now z t q) one.0
            (subst (λ z. IsTakenHalf v n named' now channel z q) one.1
            (subst (IsTakenHalf v n named' now channel side) (same_request (sym half_now
            ∙ ap (λ z. v (Half n channel z)) one.1 ∙ ap (λ z. v (Half n z t)) one.0 ∙ e)) own_taken))
        taken_by a t q e false f =
            let old : s (Half n a t) ≡ IsHalf (TakenBy q) = sym (stay (Half n a t) refl f refl) ∙ e in
            old_taken a t q (λ i. alone t q (ap (λ z. s (Half n z t)) i ∙ old)) (shown.channels.taken a t q old)

        half_by : (a : ℕ) (t : Side) (b : Bool) → same_place (Half n channel side) (Half n a t) ≡ b
            → (r : Holder) × (v (Half n a t) ≡ IsHalf r)
        half_by a t true f =
            let one : (channel ≡ a) × (side ≡ t) = one_half p n channel a side t f in (
              TakenBy (record { process = x; buffer = buffer }),
              sym (ap (λ z. v (Half n channel z)) one.1 ∙ ap (λ z. v (Half n z t)) one.0) ∙ half_now,
            )
        half_by a t false f = (
          (shown.channels.halves a t).0,
          stay (Half n a t) refl f refl ∙ (shown.channels.halves a t).1,
        )

        waiting_by : (b a : ℕ) (t : Side) (span : Span) → reason_of now.control b ≡ Some (reason_at t a span)
            → (b ≡ own) ⊎ (b ≡ own → ⊥)
            → v (Half n a t) ≡ IsHalf (TakenBy (record { process = named' (Waiting b); buffer = span }))
        waiting_by b a t span e (inl f) =
            let one : (side ≡ t) × (channel ≡ a) × (buffer ≡ span) =
            one_reason side t channel a buffer span (some_is (sym reason_own ∙ ap (reason_of now.control) (sym f)
            ∙ e)) in
            sym (ap (λ z. v (Half n channel z)) one.0 ∙ ap (λ z. v (Half n z t)) one.1) ∙ half_now
            ∙ ap (λ (z : Span). IsHalf (TakenBy (record { process = x; buffer = z }))) one.2
            ∙ ap (λ y. IsHalf (TakenBy (record { process = y; buffer = span }))) (sym (ap (λ z. named' (Waiting z)) f
            ∙ name_own))
          where
            some_is : {q r : Reason} → Some q ≡ Some r → q ≡ r
            some_is e = cc
        waiting_by b a t span e (inr f) =
            let old : s (Half n a t) ≡ IsHalf (TakenBy (record { process = named (Waiting b); buffer = span })) =
            shown.channels.waiting b a t span (sym (reason_other b f) ∙ e) in
            stay (Half n a t) refl (other_half a t _ old) refl ∙ old
            ∙ ap (λ y. IsHalf (TakenBy (record { process = y; buffer = span }))) (sym (name_other b f))

        engaged_by : (i : ℕ) → (i ≡ word_number channel) ⊎ (use_of s n i ≡ Engaged)
            → (a : ℕ) × (word_number a ≡ i) × HasHolder v n named' a
        engaged_by i (inl e) = (channel, sym e, inl (side, record { process = x; buffer = buffer }, half_now))
        engaged_by i (inr e) = (let f = shown.channels.engaged i e in (f.0, f.1, held f.0 f.2))
          where
            held : (a : ℕ) → HasHolder s n named a → HasHolder v n named' a
            held a (inl (t, q, e)) = inl (t, q, stay (Half n a t) refl (other_half a t q e) refl ∙ e)
            held a (inr (y, e)) = inr (y, ap (λ (z : Value). enabler (half_in z)) (enabled_input a y e) ∙ e)

    -- the links
    pub links_now : (l : ℕ) → l < 4 → ShowsLink v n named' (k.shows.sent n) node' l
    links_now l g =
        link_renamed s v n named named' (k.shows.sent n) k.node node' l waits_there
        (λ t. stay (LinkHalf (end_at n l) t) refl refl refl) (stay (Unfinished (end_at n l)) refl refl refl)
        (descriptors_stay s v n m.links store shown.choices (λ y e. alternatives y) l g) refl refl (shown.links l g)
      where
        alternatives : (y : Name) → alternative_at v n y ≡ alternative_at s n y
        alternatives y =
            stands_alike p s v n x (λ z other. stay (Standing z) refl refl other)
            (alternative_now p c s n x k v h ∙ sym (alternative_before p c s n x k v h)) y

        waits_there : (e : Offer) → ((link_end m l).input ≡ Some e) ⊎ ((link_end m l).output ≡ Some e)
            → named' (Waiting e.wdesc) ≡ named (Waiting e.wdesc)
        waits_there e (inl f) =
            name_other e.wdesc (waited_other e.wdesc (found_waiting m.waiting e.wdesc (LinkInput l)
            (subst (λ (z : Option Offer). IfSome z (λ o. WaitsFor m o.wdesc (LinkInput l)
            × IsBuffer (length store) o)) f
            (k.steady.placed.claimed.inputs l)).0))
        waits_there e (inr f) =
            name_other e.wdesc (waited_other e.wdesc (found_waiting m.waiting e.wdesc (LinkOutput l)
            (subst (λ (z : Option Offer). IfSome z (λ o. WaitsFor m o.wdesc (LinkOutput l)
            × IsBuffer (length store) o)) f
            (k.steady.placed.claimed.outputs l)).0))

    -- so the node is shown, if its alternatives are
    pub node_now : ShowsChoices v n m.links last → ShowsNode v n k.plan named' (k.shows.sent n) node'
    node_now choices =
        record {
          role = shown.role;
          works = shown.works;
          runs_on = shown.runs_on;
          size = g.tells.length;
          kind = shown.kind;
          store = shows_from v n k.plan.memory last g.tells;
          marks = marks_now p c s n x k v h;
          channels = channels_now;
          links = links_now;
          processes = processes_now;
          choices = choices;
        }

    pub elsewhere : (q : Place) → node_at q ≢ n → v q ≡ s q
    elsewhere q g = stay q (word q g) (half q g) (stand q g)
      where
        not_n : (b : ℕ) → b ≢ n → (n == b) ≡ false
        not_n b g = ne_eqb n b (λ e. g (sym e))

        word : (q : Place) → node_at q ≢ n → is_word_of n q ≡ false
        word (WordAt b i) g = not_n b g
        word _ g = refl

        half : (q : Place) → node_at q ≢ n → is_half_of n channel side q ≡ false
        half (Half b a t) g = rw (not_n b g) refl
        half _ g = refl

        stand : (q : Place) → node_at q ≢ n → is_stand_of x q ≡ false
        stand (Standing y) g = rw (ne_eqb x.node y.node (λ e. g (sym e ∙ running.home))) refl
        stand _ g = refl
