-- What `altwt` leads to where its process has to wait is shown after its step.
use Rattle.tseen.proofs.AwaitedHalves.{IsShownBeside, node_awaits}
use Rattle.std.proofs.Common.{◌≡◌, ◌≢◌, ℕ, suc, ◌+◌, ◌<◌, ◌≤◌, refl, sym, ap, subst, ◌∙◌, Bool, true, false}
use Rattle.std.proofs.Common.{true≢false, length, length-append, [], ◌∷◌, ◌++◌, Contains, Option, Some, None, arith}
use Rattle.std.proofs.Common.{◌⊎◌}
use Rattle.std.proofs.Common.{inl, inr, pos, cond, option_map}
use Rattle.std.specs.Prelude.{◌==◌, is_some, IfSome}
use Rattle.std.proofs.lemmas.Bool.{eq-eqb, ne_eqb, cases_eq}
use Rattle.std.proofs.lemmas.List.Elements.{All-contains}
use Rattle.std.proofs.lemmas.List.Sums.{sum_by-append, sum_by_push}
use Rattle.std.proofs.lemmas.Option.{IfSome_then}
use Rattle.tword.specs.Words.{word_below}
use Rattle.tword.specs.Stores.{Store, word_at}
use Rattle.tword.specs.declared.span.Span.{Span}
use Rattle.tproc.specs.declared.waiter.Waiter.{Waiter}
use Rattle.tproc.specs.declared.channels.Side.{Side}
use Rattle.tproc.specs.declared.channels.Side.TheVariants.{Input, Output}
use Rattle.tproc.specs.declared.offer.Offer.{Offer}
use Rattle.tproc.specs.declared.ran.Ran.TheVariants as ran
use Rattle.tproc.specs.declared.waiter.Reason.{Reason}
use Rattle.tproc.specs.declared.waiter.Reason.TheVariants as reason
use Rattle.tproc.specs.Machine.{Control, Machine, descheduled, workspace_of, priority_of}
use Rattle.tproc.specs.Placement.{WaitsFor, IsBuffer}
use Rattle.tproc.specs.ProcessStatus.{live, reason_of}
use Rattle.tproc.specs.LinkChannels.{link_end}
use Rattle.tproc.specs.Queues.{iptr_word}
use Rattle.tproc.specs.SavedWords.{WordStands, SavedStand}
use Rattle.tproc.proofs.SavedWords.{saved_words_stand}
use Rattle.tplan.specs.declared.plan.Plan.{Plan}
use Rattle.tplan.specs.Wires.{end_at}
use Rattle.tnet.specs.Rendezvous.{Node, Configuration}
use Rattle.tprocesses.specs.Places.{Place, Name, WordAt, Standing, Half, LinkHalf, Error, HaltOnError, Life}
use Rattle.tprocesses.specs.Places.{Population, HasRun, Unfinished, same_name}
use Rattle.tprocesses.specs.Values.{Value, Context, Stand, Rests, Runs, Chooses}
use Rattle.tprocesses.specs.Values.{IsStand}
use Rattle.tprocesses.specs.Values.{IsAmount, stand_in}
use Rattle.tprocesses.specs.Touching.{Site}
use Rattle.tprocesses.specs.Standing.{forget}
use Rattle.tprocesses.specs.Machine.{site_of}
use Rattle.tseen.specs.Choices.{Alternative, alternative_of}
use Rattle.tseen.specs.Choices.{descriptor_at}
use Rattle.tseen.specs.Seats.{Seat, Current, Interrupted, Queued, Waiting, is_taken}
use Rattle.tseen.specs.Halves.{ShowsChannels, ShowsLink, reason_at}
use Rattle.tseen.specs.Processes.{IsSeated, IsGone, ShowsProcesses}
use Rattle.tseen.specs.Shown.{ShowsNode}
use Rattle.tseen.specs.Steps.{IsCurrent, LeadsTo}
use Rattle.tseen.proofs.After.{State}
use Rattle.tseen.proofs.AltwtMeets.{far, link_now}
use Rattle.tseen.proofs.AtOperation.{context_at}
use Rattle.tseen.proofs.AwaitingWords.{Awaits, r, process, aligned, small, own_workspace, made, stepped, desch_now}
use Rattle.tseen.proofs.AwaitingWords.{tells_now, iptr_there}
use Rattle.tseen.proofs.AwaitingWords.{hidden_still}
use Rattle.tseen.proofs.AwaitingWords.{engaged_was, is_new, marks_now}
use Rattle.tseen.proofs.Cells.{shows_from}
use Rattle.tseen.proofs.ChannelsKept.{channels_kept}
use Rattle.tseen.proofs.ChoiceChanged.{choices_changed}
use Rattle.tseen.proofs.Counted.{count_at, beside, live_long, live_idle, lives_are, waits_descheduled}
use Rattle.tseen.proofs.Counted.{queued_descheduled}
use Rattle.tseen.proofs.DispatchShown.{found_waiting}
use Rattle.tseen.proofs.Finished.{is_stand_of, one_name, place_itself}
use Rattle.tseen.proofs.Frames.{node_at}
use Rattle.tseen.proofs.NoticedOffers.{outputs_stay}
use Rattle.tseen.proofs.Others.{other_name, queued_seated, waiting_seated, is_running, queued_not_running}
use Rattle.tseen.proofs.Others.{waiting_not_running, interrupted_seated}
use Rattle.tseen.proofs.OwnChoice.{own_is, has}
use Rattle.tseen.proofs.Reasons.{push_other, push_new}
use Rattle.tseen.proofs.Renamed.{waiting_named}
use Rattle.tseen.proofs.Running.{RunsThere}
use Rattle.tseen.proofs.Staying.{link_renamed}
use Rattle.tseen.proofs.Stepped.{shown_node, there, apart, leads_there}
use Rattle.tseen.proofs.TakenWords.{rank_is}
use Rattle.tseen.proofs.Written.{is_word_of}
use Rattle.tseen.proofs.AwaitingChoices.{stay, stood, same_size, channel_at, engaged_still, half_same, old, new_is}
use Rattle.tseen.proofs.AwaitingChoices.{same_now, awaited_now, changed_choice}

module _ (p : Plan) (c : Configuration) (s : State) (n : ℕ) (x : Name) (k : IsCurrent p c s n x) (s' : State)
    (h : Awaits p c s n x k s') where
  abbrev m : Control
  m = k.node.machine.control

  abbrev store : Store
  store = k.node.machine.store

  abbrev site : Site
  site = site_of n k.plan

  abbrev running : RunsThere s n k.plan k.node x
  running = there p c s n x k

  abbrev shown : ShowsNode s n k.plan (k.shows.named n) (k.shows.sent n) k.node
  shown = shown_node p c s n x k

  abbrev w : ℕ
  w = m.registers.wptr

  abbrev v : State
  v = r p c s n x k s' h

  abbrev ours : ℕ
  ours = process p c s n x k s' h

  abbrev context : Context
  context = context_at p c s n x k h.operation.size

  abbrev waits : Context
  waits = forget context

  abbrev now : Machine
  now = made p c s n x k s' h

  abbrev node' : Node
  node' = record k.node { machine = now }

  abbrev named : Seat → Name
  named = k.shows.named n

  abbrev named' : Seat → Name
  named' = waiting_named ours x named

  -- who waited waits still, and is another one
  waited_other : (b : ℕ) → is_some (reason_of m b) ≡ true → b ≢ ours
  waited_other b g e =
      is_new p c s n x k s' h (workspace_of b) (waits_descheduled m b g)
      (ap workspace_of e ∙ own_workspace p c s n x k s' h)

  some_reason : (b : ℕ) (q : Reason) → reason_of m b ≡ Some q → is_some (reason_of m b) ≡ true
  some_reason b q e = subst (λ (z : Option Reason). is_some z ≡ true) (sym e) refl

  abbrev own_waiter : Waiter
  own_waiter = record { process = ours; reason = reason.Chooses }

  reason_other : (b : ℕ) → b ≢ ours → reason_of now.control b ≡ reason_of m b
  reason_other b e = push_other m.waiting own_waiter b (λ f. e (sym f))

  not_waiting : reason_of m ours ≡ None
  not_waiting = by (reason_of m ours) refl
    where
      by : (q : Option Reason) → reason_of m ours ≡ q → reason_of m ours ≡ None
      by None e = e
      by (Some q) e = absurd (waited_other ours (some_reason ours q e) refl)

  reason_own : reason_of now.control ours ≡ Some reason.Chooses
  reason_own = push_new m.waiting own_waiter not_waiting

  name_own : named' (Waiting ours) ≡ x
  name_own = rw (eq-eqb ours ours refl) refl

  name_other : (b : ℕ) → b ≢ ours → named' (Waiting b) ≡ named (Waiting b)
  name_other b e = rw (ne_eqb b ours e) refl

  -- the seats
  stands : SavedStand k.node.machine now
  stands =
      (saved_words_stand k.node.machine k.steady.placed).steps now ran.Instruction (stepped p c s n x k s' h)

  iptr_stays : (b : ℕ) → Contains (descheduled m) b
      → word_at now.store (word_below b iptr_word) ≡ word_at store (word_below b iptr_word)
  iptr_stays b g = All-contains (λ b. WordStands iptr_word b k.node.machine now) (descheduled m) b stands.iptrs g

  not_this : (y : Name) (stand : Stand) → s (Standing y) ≡ IsStand stand → is_running (IsStand stand) ≡ false
      → same_name x y ≡ false
  not_this y stand e g = other_name p s x y (Runs running.context) stand is_running running.stood e refl g

  stand_stays : (y : Name) → same_name x y ≡ false → v (Standing y) ≡ s (Standing y)
  stand_stays y e = stay p c s n x k s' h (Standing y) refl e

  run_stays : (q : ℕ) → v (HasRun n q) ≡ s (HasRun n q)
  run_stays q = stay p c s n x k s' h (HasRun n q) refl refl

  own_seated : IsSeated v n node' (Waiting ours) x
  own_seated =
      record {
        home = running.home;
        stand = Chooses waits;
        stands = stood p c s n x k s' h;
        fits = (
          record {
            priority = running.registers.priority ∙ own_priority;
            wptr = sym (own_workspace p c s n x k s' h);
            iptr = sym (ap (λ b. word_at now.store (word_below b iptr_word)) (own_workspace p c s n x k s' h)
                ∙ iptr_there p c s n x k s' h);
            a = tt;
            b = tt;
            c = tt;
          },
          running.registers.nothing_lent,
          reason_own,
        );
        has_run = run_stays waits.priority
            ∙ ap (λ q. s (HasRun n q)) running.registers.priority ∙ running.has_run;
      }
    where
      own_priority : running.level ≡ priority_of ours
      own_priority =
          omega (arith, aligned p c s n x k s' h, small p c s n x k s' h, rank_is running.level running.small)

  seated : (q : Seat) → is_taken now.control q ≡ true → IsSeated v n node' q (named' q)
  seated Current g = absurd (true≢false (sym g))
  seated Interrupted g =
      interrupted_seated n x s v stand_stays run_stays k.node node' (named Interrupted) (apart p c s n x k g) refl
      (shown.processes.seated Interrupted g)
  seated (Queued b) g =
      let old : IsSeated s n k.node (Queued b) (named (Queued b)) = shown.processes.seated (Queued b) g in
      queued_seated n x s v stand_stays run_stays k.node node' b (named (Queued b))
      (not_this (named (Queued b)) old.stand old.stands (queued_not_running k.node b old.stand old.fits))
      (iptr_stays (workspace_of b) (queued_descheduled m b g)) old
  seated (Waiting b) g = by (cases_eq b ours)
    where
      by : (b ≡ ours) ⊎ (b ≡ ours → ⊥) → IsSeated v n node' (Waiting b) (named' (Waiting b))
      by (inl e) =
          subst (λ i. IsSeated v n node' (Waiting i) (named' (Waiting i))) (sym e)
          (subst (IsSeated v n node' (Waiting ours)) (sym name_own) own_seated)
      by (inr e) =
          let before : is_some (reason_of m b) ≡ true =
          subst (λ (z : Option Reason). is_some z ≡ true) (reason_other b e) g in
          let old : IsSeated s n k.node (Waiting b) (named (Waiting b)) = shown.processes.seated (Waiting b) before in
          subst (IsSeated v n node' (Waiting b)) (sym (name_other b e))
          (waiting_seated n x s v stand_stays run_stays k.node node' b (named (Waiting b))
          (not_this (named (Waiting b)) old.stand old.stands (waiting_not_running k.node b old.stand old.fits))
          (λ f. (f.0, reason_other b e ∙ f.1, f.2)) (λ f. reason_other b e ∙ f)
          (iptr_stays (workspace_of b) (waits_descheduled m b before)) old)

  abbrev HasPlace : Name → Type 0
  HasPlace y = IsGone v n y ⊎ ((q : Seat) × (is_taken now.control q ≡ true) × (named' q ≡ y))

  placed : (y : Name) → y.node ≡ n → HasPlace y
  placed y g = by (same_name x y) refl
    where
      of : same_name x y ≡ false → IsGone s n y ⊎ ((q : Seat) × (is_taken m q ≡ true) × (named q ≡ y)) → HasPlace y
      of other (inl (inl e)) = inl (inl (stand_stays y other ∙ e))
      of other (inl (inr e)) = inl (inr (stand_stays y other ∙ e))
      of other (inr (Current, taken, e)) =
          absurd (true≢false (sym (place_itself p (Standing x)) ∙ ap (same_name x) (sym k.name ∙ e) ∙ other))
      of other (inr (Interrupted, taken, e)) = inr (Interrupted, taken, e)
      of other (inr (Queued b, taken, e)) = inr (Queued b, taken, e)
      of other (inr (Waiting b, taken, e)) =
          let differs : b ≢ ours = waited_other b taken in
          inr (
            Waiting b,
            subst (λ (z : Option Reason). is_some z ≡ true) (sym (reason_other b differs)) taken,
            name_other b differs ∙ e,
          )

      by : (b : Bool) → same_name x y ≡ b → HasPlace y
      by true e =
          inr (
            Waiting ours,
            subst (λ (z : Option Reason). is_some z ≡ true) (sym reason_own) refl,
            name_own ∙ one_name p x y e,
          )
      by false e = of e (shown.processes.there y g)

  -- how many live
  live_now : live now.control ≡ (descheduled m ++ w ∷ []) ++ beside m
  live_now = live_idle now.control refl ∙ ap (λ ws. ws ++ beside m) (desch_now p c s n x k s' h)

  lives : (b : ℕ) → v (Life n b) ≡ IsAmount (pos (count_at b (live now.control)))
  lives b =
      stay p c s n x k s' h (Life n b) refl refl ∙ shown.processes.lives b
      ∙ ap (λ z. IsAmount (pos z)) (lives_are m running.level b running.current (aligned p c s n x k s' h) running.small
      ∙ ap (λ z. z + f w) (sum_by-append f (descheduled m) (beside m))
      ∙ sym (ap (count_at b) live_now ∙ sum_by-append f (descheduled m ++ w ∷ []) (beside m)
      ∙ ap (λ z. z + count_at b (beside m)) (sum_by_push f (descheduled m) w) ∙ omega arith))
    where
      f : ℕ → ℕ
      f i = cond (i == b) 1 0

  many : length (live now.control) ≡ length (live m)
  many =
      ap length live_now ∙ length-append (descheduled m ++ w ∷ []) (beside m)
      ∙ ap (λ z. z + length (beside m)) (length-append (descheduled m) (w ∷ []))
      ∙ sym (live_long m running.level running.current ∙ ap suc (length-append (descheduled m) (beside m))
      ∙ omega arith)

  processes_now : ShowsProcesses v n named' (k.shows.sent n) node'
  processes_now =
      record {
        seated = seated;
        there = placed;
        lent = λ y b l g e f. shown.processes.lent y b l g (rests_before y b e (same_name x y) refl) f;
        passed = λ l q e g. (let f = shown.processes.passed l q e g in (
          f.0,
          f.1,
          stand_stays q.request.process (not_this q.request.process (Rests f.1) f.2 refl) ∙ f.2,
          f.3,
        ));
        lives = lives;
        population = (
          shown.processes.population.0,
          stay p c s n x k s' h (Population n) refl refl ∙ shown.processes.population.1,
          subst (λ z. z ≤ shown.processes.population.0) (sym many) shown.processes.population.2,
        );
        interrupting = IfSome_then m.interrupted shown.processes.interrupting (λ t e. run_stays 0 ∙ e);
        flags = λ g. record {
          error = stay p c s n x k s' h (Error n) refl refl ∙ running.flags.error;
          halting = stay p c s n x k s' h (HaltOnError n) refl refl ∙ running.flags.halting;
        };
        kept_flags = λ g. IfSome_then m.interrupted (shown.processes.kept_flags k.kept) (λ t f. record {
          error = stay p c s n x k s' h (Error n) refl refl ∙ f.error;
          halting = stay p c s n x k s' h (HaltOnError n) refl refl ∙ f.halting;
        });
      }
    where
      not_rests : (b : Context) → IsStand (Chooses waits) ≡ IsStand (Rests b) → ⊥
      not_rests b e = cc

      rests_before : (y : Name) (b : Context) → v (Standing y) ≡ IsStand (Rests b) → (t : Bool) → same_name x y ≡ t
          → s (Standing y) ≡ IsStand (Rests b)
      rests_before y b e false other = sym (stand_stays y other) ∙ e
      rests_before y b e true same =
          absurd (not_rests b (sym (stood p c s n x k s' h) ∙ ap (λ z. v (Standing z)) (one_name p x y same) ∙ e))

  -- the channels
  channels_now : ShowsChannels v n named' now
  channels_now =
      channels_kept s v n named named' k.node.machine now (record {
        waits = λ b d side buffer e. (let differs : b ≢ ours =
            waited_other b (some_reason b (reason_at side d buffer) e) in
            (reason_other b differs ∙ e, name_other b differs));
        waited = λ b d side buffer e. waited b d side buffer e (cases_eq b ours);
        engaged_to = engaged_still p c s n x k s' h;
        engaged_back = engaged_was p c s n x k s' h;
        halves = half_same p c s n x k s' h;
        size = same_size p c s n x k s' h;
        words = channel_at p c s n x k s' h;
      }) shown.channels
    where
      not_chooses : (d : ℕ) (side : Side) (buffer : Span) → Some reason.Chooses ≡ Some (reason_at side d buffer) → ⊥
      not_chooses d Input buffer e = cc
      not_chooses d Output buffer e = cc

      waited : (b d : ℕ) (side : Side) (buffer : Span) → reason_of now.control b ≡ Some (reason_at side d buffer)
          → (b ≡ ours) ⊎ (b ≡ ours → ⊥)
          → (reason_of m b ≡ Some (reason_at side d buffer)) × (named' (Waiting b) ≡ named (Waiting b))
      waited b d side buffer e (inl f) =
          absurd (not_chooses d side buffer (sym reason_own ∙ ap (reason_of now.control) (sym f) ∙ e))
      waited b d side buffer e (inr f) = (sym (reason_other b f) ∙ e, name_other b f)

  -- the links
  links_now : (l : ℕ) → l < 4 → ShowsLink v n named' (k.shows.sent n) node' l
  links_now l g =
      link_renamed s v n named named' (k.shows.sent n) k.node node' l waits_there
      (λ t. stay p c s n x k s' h (LinkHalf (end_at n l) t) refl refl)
      (stay p c s n x k s' h (Unfinished (end_at n l)) refl refl)
      (λ y e. described y (same_name x y) refl) refl refl (shown.links l g)
    where
      of : Option Alternative → Option ℕ
      of o = option_map (λ (a : Alternative). a.wptr + a.priority) o

      described : (y : Name) (b : Bool) → same_name x y ≡ b → descriptor_at v n y ≡ descriptor_at s n y
      described y false e = ap (λ (z : Value). of (alternative_of (stand_in z))) (stand_stays y e)
      described y true e =
          subst (λ z. descriptor_at v n z ≡ descriptor_at s n z) (one_name p x y e)
          (ap of (new_is p c s n x k s' h) ∙ sym (ap of (own_is p c s n x k h.choice h.way.is)))

      waits_there : (e : Offer) → ((link_end m l).input ≡ Some e) ⊎ ((link_end m l).output ≡ Some e)
          → named' (Waiting e.wdesc) ≡ named (Waiting e.wdesc)
      waits_there e (inl f) =
          name_other e.wdesc (waited_other e.wdesc (found_waiting m.waiting e.wdesc (reason.LinkInput l)
          (subst (λ (z : Option Offer). IfSome z (λ o. WaitsFor m o.wdesc (reason.LinkInput l)
          × IsBuffer (length store) o)) f (k.steady.placed.claimed.inputs l)).0))
      waits_there e (inr f) =
          name_other e.wdesc (waited_other e.wdesc (found_waiting m.waiting e.wdesc (reason.LinkOutput l)
          (subst (λ (z : Option Offer). IfSome z (λ o. WaitsFor m o.wdesc (reason.LinkOutput l)
          × IsBuffer (length store) o)) f (k.steady.placed.claimed.outputs l)).0))

  -- so the node is shown
  node_now : IsShownBeside v n k.plan named' (k.shows.sent n) node'
  node_now =
      record {
        role = shown.role;
        works = shown.works;
        runs_on = shown.runs_on;
        size = (tells_now p c s n x k s' h).length;
        kind = shown.kind;
        store = shows_from v n k.plan.memory now.store (tells_now p c s n x k s' h);
        marks = marks_now p c s n x k s' h;
        channels = channels_now;
        links = links_now;
        processes = processes_now;
      }

  pub waiting_leads : LeadsTo p c n s'
  waiting_leads =
      leads_there p c s n x k now s' named' (k.shows.sent n) (stepped p c s n x k s' h)
      (hidden_still p c s n x k s' h)
      (node_awaits v s' (same_now p c s n x k s' h) (awaited_now p c s n x k s' h) n k.plan named' (k.shows.sent n)
      node'
      (λ l b. link_now p c s n x k h.before h.operation h.choice h.written h.way s' h.waits _ l b) node_now
      (choices_changed p s s' n m.links m.links store now.store x (changed_choice p c s n x k s' h) shown.choices))
      elsewhere
      (outputs_stay s s' n k.node node'
      (λ l. far p c s n x k h.before h.operation h.choice h.written h.way s' h.waits (LinkHalf (end_at n l) Output) refl
      refl refl) (λ l. refl))
    where
      before_now : (q : Place) → node_at q ≢ n → v q ≡ s q
      before_now q g = stay p c s n x k s' h q (word q g) (stand q g)
        where
          word : (q : Place) → node_at q ≢ n → is_word_of n q ≡ false
          word (WordAt b i) g = ne_eqb n b (λ e. g (sym e))
          word _ g = refl

          stand : (q : Place) → node_at q ≢ n → is_stand_of x q ≡ false
          stand (Standing y) g = rw (ne_eqb x.node y.node (λ e. g (sym e ∙ running.home))) refl
          stand _ g = refl

      elsewhere : (q : Place) → node_at q ≢ n → s' q ≡ s q
      elsewhere (Half i e Input) g =
          far p c s n x k h.before h.operation h.choice h.written h.way s' h.waits (Half i e Input) refl refl
          (ne_eqb n i (λ f. g (sym f)))
      elsewhere (Half i e Output) g = before_now (Half i e Output) g
      elsewhere (LinkHalf e Input) g =
          far p c s n x k h.before h.operation h.choice h.written h.way s' h.waits (LinkHalf e Input) refl refl
          (ne_eqb n e.node (λ f. g (sym f)))
      elsewhere (LinkHalf e Output) g = before_now (LinkHalf e Output) g
      elsewhere q g = same_now p c s n x k s' h q refl ∙ before_now q g
