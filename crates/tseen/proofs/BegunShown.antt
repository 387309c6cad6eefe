-- A process has begun another one: the node is shown.
use Rattle.tprocesses.specs.Places.{Sending, Unfinished}
use Rattle.tprocesses.specs.Places.{Ports}
use Rattle.tseen.specs.Choices.{alternative_of, alternative_at, is_quiet}
use Rattle.tseen.proofs.Choices.{is_lasting, lasting_not_free, both_alike, both_quiet, alternative_alike, choices_stay}
use Rattle.std.proofs.Common.{◌≡◌, ◌≢◌, ℕ, ◌+◌, ◌<◌, refl, sym, ap, subst, ◌∙◌, Bool, true, false, true≢false}
use Rattle.std.proofs.Common.{Contains, cond}
use Rattle.std.proofs.Common.{Ok, Option, Some, None, arith, ◌⊎◌, inl, inr, pos, IfSome}
use Rattle.std.specs.Prelude.{◌==◌, is_some, if◌then◌else◌}
use Rattle.std.proofs.lemmas.Bool.{eq-eqb, eqb-true, ne_eqb, cases_eq}
use Rattle.std.proofs.lemmas.Option.{IfSome_then}
use Rattle.std.proofs.lemmas.List.Elements.{All-contains}
use Rattle.tword.specs.Words.{word_below}
use Rattle.tword.specs.Stores.{Store, word_at}
use Rattle.tproc.specs.declared.ran.Ran.TheVariants as ran
use Rattle.tproc.specs.Machine.{Control, Machine, descheduled, workspace_of, priority_of}
use Rattle.tproc.specs.ProcessStatus.{live, is_live, is_queued}
use Rattle.tproc.specs.Queues.{iptr_word}
use Rattle.tproc.specs.Steps.{step}
use Rattle.tproc.specs.SavedWords.{WordStands}
use Rattle.tproc.proofs.SavedWords.{saved_words_stand}
use Rattle.tplan.specs.declared.plan.Plan.{Plan}
use Rattle.tplan.specs.Wires.{end_at}
use Rattle.tnet.specs.Rendezvous.{Node, Configuration}
use Rattle.tprocesses.specs.Places.{Place, Name, WordAt, Standing, Half, LinkHalf, Error, HaltOnError, Life, Population}
use Rattle.tprocesses.specs.Places.{HasRun, same_name}
use Rattle.tprocesses.specs.Values.{Chosen, Listens, Chooses, Value, Use, Free, Saved, Engaged, Context, Lent, Stand}
use Rattle.tprocesses.specs.Values.{Absent}
use Rattle.tprocesses.specs.Values.{Rests, Runs, Waits}
use Rattle.tprocesses.specs.Values.{Ended, IsStand, IsAmount, IsFlag, word_in, stand_in, amount_in}
use Rattle.tprocesses.specs.Changes.{Add, Raise, apply}
use Rattle.tprocesses.specs.Touching.{is_zero}
use Rattle.tprocesses.specs.Standing.{is_absent, fresh}
use Rattle.tseen.specs.Known.{HasSaved}
use Rattle.tseen.specs.Seats.{Seat, Current, Interrupted, Queued, Waiting, is_taken}
use Rattle.tseen.specs.Processes.{Fits, IsSeated, IsGone, ShowsProcesses, context_in}
use Rattle.tseen.specs.Shown.{ShowsNode}
use Rattle.tseen.specs.Steps.{IsCurrent, LeadsTo}
use Rattle.tseen.proofs.After.{State}
use Rattle.tseen.proofs.Cells.{use_of, shows_from}
use Rattle.tseen.proofs.Written.{is_word_of}
use Rattle.tseen.proofs.Finished.{is_stand_of, place_itself, one_name}
use Rattle.tseen.proofs.Running.{RunsThere}
use Rattle.tseen.proofs.Frames.{node_at}
use Rattle.tseen.proofs.Staying.{channels_stay, link_stays}
use Rattle.tseen.proofs.Counted.{count_at, waits_descheduled, queued_descheduled}
use Rattle.tseen.proofs.Others.{saved_stays, other_name, is_running}
use Rattle.tseen.proofs.Stepped.{shown_node, there, apart, leads_there}
use Rattle.tseen.proofs.Saving.{no_word}
use Rattle.tseen.proofs.YieldShown.{renamed}
use Rattle.tseen.proofs.Coming.{is_coming}
use Rattle.tseen.proofs.Among.{none_among}
use Rattle.tseen.proofs.Missing.{is_missing, absent_is}
use Rattle.tseen.proofs.Counted.{one_more}
use Rattle.tseen.proofs.Joined.{counted_now, many_now, still_queued, was_queued, queued_now, own_workspace}
use Rattle.tseen.proofs.Joined.{own_priority}
use Rattle.tseen.proofs.BegunWords.{HasBegun, made, size_after, iptr_there, hidden_still, at, unfree, used, tells_now}
use Rattle.tseen.proofs.BegunWords.{lasting_stays, marks_now, new_there}
use Rattle.tseen.proofs.InputChannels.{descriptors_stay, inputs_stay}
use Rattle.tproc.specs.declared.channels.Side.TheVariants.{Input, Output}
use Rattle.tseen.proofs.NoticedOffers.{outputs_stay}

-- a flag that is raised
flag_cases : (v : Value) → ((b : Bool) × (v ≡ IsFlag b)) → (v ≡ IsFlag true) ⊎ (v ≡ IsFlag false)
flag_cases v (true, e) = inl e
flag_cases v (false, e) = inr e

raised : (v : Value) → (v ≡ IsFlag true) ⊎ (v ≡ IsFlag false) → apply Raise v ≡ IsFlag true
raised v (inl e) = ap (apply Raise) e
raised v (inr e) = ap (apply Raise) e

module _ (p : Plan) (c : Configuration) (s : State) (n : ℕ) (x : Name) (k : IsCurrent p c s n x) (s' : State)
    (b : HasBegun p c s n x k s') where
  abbrev m : Control
  m = k.node.machine.control

  abbrev w : ℕ
  w = b.workspace

  abbrev new : ℕ
  new = w + b.priority

  abbrev fresh_context : Context
  fresh_context = fresh b.priority w b.address

  abbrev running : RunsThere s n k.plan k.node x
  running = there p c s n x k

  abbrev shown : ShowsNode s n k.plan (k.shows.named n) (k.shows.sent n) k.node
  shown = shown_node p c s n x k

  abbrev now : Machine
  now = made p c s n x k s' b

  abbrev node' : Node
  node' = record k.node { machine = now }

  abbrev named : Seat → Name
  named = k.shows.named n

  abbrev named' : Seat → Name
  named' = renamed new b.child named

  workspace_is : workspace_of new ≡ w
  workspace_is = own_workspace m b.priority w b.registers b.count b.small b.aligned

  priority_is : priority_of new ≡ b.priority
  priority_is = own_priority m b.priority w b.registers b.count b.small b.aligned

  stay : (q : Place) → is_stand_of x q ≡ false → is_coming n b.child q ≡ false → is_word_of n q ≡ false → s' q ≡ s q
  stay = at p c s n x k s' b

  -- the new process was not there
  was_absent : s (Standing b.child) ≡ IsStand Absent
  was_absent =
      absent_is (s (Standing b.child))
      (subst (λ z. is_absent (stand_in z) ≡ true) (b.on.keeps.others (Standing b.child) refl) b.come.absent)

  not_parent : (y : Name) (stand : Stand) → s (Standing y) ≡ IsStand stand → is_running (IsStand stand) ≡ false
      → same_name x y ≡ false
  not_parent y stand e h = other_name p s x y (Runs running.context) stand is_running running.stood e refl h

  not_child : (y : Name) (stand : Stand) → s (Standing y) ≡ IsStand stand → is_missing (IsStand stand) ≡ false
      → same_name b.child y ≡ false
  not_child y stand e h = other_name p s b.child y Absent stand is_missing was_absent e refl h

  other_child : same_name x b.child ≡ false
  other_child = not_parent b.child Absent was_absent refl

  -- others stand as they stood
  other_stand : (y : Name) (stand : Stand) → s (Standing y) ≡ IsStand stand → is_running (IsStand stand) ≡ false
      → is_missing (IsStand stand) ≡ false → s' (Standing y) ≡ IsStand stand
  other_stand y stand e h i = stay (Standing y) (not_parent y stand e h) (not_child y stand e i) refl ∙ e

  child_stands : s' (Standing b.child) ≡ IsStand (Rests fresh_context)
  child_stands =
      b.goes.others (Standing b.child) other_child
      ∙ b.saved.set.rest (Standing b.child) (no_word n w (Standing b.child) refl) ∙ b.come.is

  -- which priorities have run
  run_now : (q : ℕ) → s' (HasRun n q) ≡ (if b.priority == q then apply Raise (s (HasRun n q)) else s (HasRun n q))
  run_now q =
      b.goes.others (HasRun n q) refl ∙ b.saved.set.rest (HasRun n q) (no_word n w (HasRun n q) refl)
      ∙ b.come.runs q
      ∙ ap (λ z. if b.priority == q then apply Raise z else z) (b.on.keeps.others (HasRun n q) refl)

  runs_on : (q : ℕ) → s (HasRun n q) ≡ IsFlag true → s' (HasRun n q) ≡ IsFlag true
  runs_on q e = run_now q ∙ by (b.priority == q)
    where
      by : (t : Bool) → (if t then apply Raise (s (HasRun n q)) else s (HasRun n q)) ≡ IsFlag true
      by true = raised (s (HasRun n q)) (inl e)
      by false = e

  runs_new : s' (HasRun n b.priority) ≡ IsFlag true
  runs_new =
      run_now b.priority
      ∙ ap (λ t. if t then apply Raise (s (HasRun n b.priority)) else s (HasRun n b.priority))
      (eq-eqb b.priority b.priority refl)
      ∙ raised (s (HasRun n b.priority))
      (flag_cases (s (HasRun n b.priority)) (b.told b.priority))

  has_run_stays : (stand : Stand) → IfSome (context_in stand) (λ d. s (HasRun n d.priority) ≡ IsFlag true)
      → IfSome (context_in stand) (λ d. s' (HasRun n d.priority) ≡ IsFlag true)
  has_run_stays stand h = IfSome_then (context_in stand) h (λ d e. runs_on d.priority e)

  iptr_stays : step k.node.machine ≡ Ok (now, ran.Instruction) → (a : ℕ) → Contains (descheduled m) a
      → word_at now.store (word_below a iptr_word) ≡ word_at k.node.machine.store (word_below a iptr_word)
  iptr_stays stepped a h =
      All-contains (λ a. WordStands iptr_word a k.node.machine now) (descheduled m) a
      ((saved_words_stand k.node.machine k.steady.placed).steps now ran.Instruction stepped).iptrs h

  -- there are as many with each workspace, and one more with its own
  pub lives_now : (a : ℕ) → s' (Life n a) ≡ IsAmount (pos (count_at a (live m) + cond (w == a) 1 0))
  lives_now a =
      b.goes.others (Life n a) refl ∙ b.saved.set.rest (Life n a) (no_word n w (Life n a) refl) ∙ b.come.lives a
      ∙ ap (λ z. if w == a then apply (Add (pos 1)) z else z)
      (b.on.keeps.others (Life n a) refl ∙ shown.processes.lives a)
      ∙ one_more (count_at a (live m)) (w == a)

  -- there were as many processes, and one more
  pub population_now : s' (Population n) ≡ IsAmount (pos (shown.processes.population.0 + 1))
  population_now =
      b.goes.others (Population n) refl ∙ b.saved.set.rest (Population n) (no_word n w (Population n) refl)
      ∙ b.come.population
      ∙ ap (apply (Add (pos 1))) (b.on.keeps.others (Population n) refl ∙ shown.processes.population.1)
      ∙ one_more shown.processes.population.0 true

  -- nobody lives with the workspace
  pub no_life : is_live m w ≡ false
  no_life =
      none_among w (live m)
      (eqb-true _ _ (subst (λ z. is_zero (amount_in z) ≡ true)
      (b.on.keeps.others (Life n w) refl ∙ shown.processes.lives w) b.come.alone))

  -- the seats of the two
  current_seated : IsSeated s' n node' Current x
  current_seated =
      record {
        home = running.home;
        stand = Runs b.context;
        stands = b.goes.is;
        fits = rw running.current b.knows;
        has_run = ap (λ q. s' (HasRun n q)) b.knows.priority ∙ runs_on running.level running.has_run;
      }

  new_seated : (process : ℕ) → process ≡ new → IsSeated s' n node' (Queued process) b.child
  new_seated process e =
      record {
        home = b.home;
        stand = Rests fresh_context;
        stands = child_stands;
        fits = record {
          priority = sym (ap priority_of e ∙ priority_is);
          wptr = sym (ap workspace_of e ∙ workspace_is);
          iptr = sym (ap (λ a. word_at now.store (word_below a iptr_word)) (ap workspace_of e ∙ workspace_is)
              ∙ iptr_there p c s n x k s' b);
          a = refl;
          b = refl;
          c = refl;
        };
        has_run = runs_new;
      }

  module _ (stepped : step k.node.machine ≡ Ok (now, ran.Instruction)) where
    -- those of others
    queued_seated : (process : ℕ) (y : Name) → is_queued m process ≡ true → IsSeated s n k.node (Queued process) y
        → IsSeated s' n node' (Queued process) y
    queued_seated process y taken q = by q.stand q.stands q.fits q.has_run
      where
        by : (stand : Stand) → s (Standing y) ≡ IsStand stand → Fits k.node (Queued process) stand
            → IfSome (context_in stand) (λ d. s (HasRun n d.priority) ≡ IsFlag true)
            → IsSeated s' n node' (Queued process) y
        by (Rests d) e f r =
            record {
              home = q.home;
              stand = Rests d;
              stands = other_stand y (Rests d) e refl refl;
              fits = saved_stays k.node.machine.store now.store process d
                  (iptr_stays stepped (workspace_of process) (queued_descheduled m process taken)) f;
              has_run = has_run_stays (Rests d) r;
            }
        by (Chosen d) e f r =
            record {
              home = q.home;
              stand = Chosen d;
              stands = other_stand y (Chosen d) e refl refl;
              fits = (
                saved_stays k.node.machine.store now.store process d
                    (iptr_stays stepped (workspace_of process) (queued_descheduled m process taken)) f.0,
                f.1,
              );
              has_run = has_run_stays (Chosen d) r;
            }
        by Absent e f r = absurd f
        by (Runs d) e f r = absurd f
        by (Waits d) e f r = absurd f
        by Ended e f r = absurd f
        by (Chooses d) e f r = absurd f
        by (Listens channel d) e f r = absurd f

    waiting_seated : (process : ℕ) (y : Name) → is_taken m (Waiting process) ≡ true
        → IsSeated s n k.node (Waiting process) y → IsSeated s' n node' (Waiting process) y
    waiting_seated process y taken q = by q.stand q.stands q.fits q.has_run
      where
        stays : (d : Context) → HasSaved k.node.machine.store process d → HasSaved now.store process d
        stays d f =
            saved_stays k.node.machine.store now.store process d
            (iptr_stays stepped (workspace_of process) (waits_descheduled m process taken)) f

        by : (stand : Stand) → s (Standing y) ≡ IsStand stand → Fits k.node (Waiting process) stand
            → IfSome (context_in stand) (λ d. s (HasRun n d.priority) ≡ IsFlag true)
            → IsSeated s' n node' (Waiting process) y
        by (Rests d) e f r =
            record {
              home = q.home;
              stand = Rests d;
              stands = other_stand y (Rests d) e refl refl;
              fits = (stays d f.0, f.1);
              has_run = has_run_stays (Rests d) r;
            }
        by (Waits d) e f r =
            record {
              home = q.home;
              stand = Waits d;
              stands = other_stand y (Waits d) e refl refl;
              fits = (stays d f.0, f.1);
              has_run = has_run_stays (Waits d) r;
            }
        by (Chooses d) e f r =
            record {
              home = q.home;
              stand = Chooses d;
              stands = other_stand y (Chooses d) e refl refl;
              fits = (stays d f.0, f.1, f.2);
              has_run = has_run_stays (Chooses d) r;
            }
        by Absent e f r = absurd f
        by (Runs d) e f r = absurd f
        by Ended e f r = absurd f
        by (Chosen d) e f r = absurd f
        by (Listens channel d) e f r = absurd f

    interrupted_seated : is_some m.interrupted ≡ true → IsSeated s' n node' Interrupted (named Interrupted)
    interrupted_seated h = with_seat (shown.processes.seated Interrupted h)
      where
        by : IsSeated s n k.node Interrupted (named Interrupted) → (stand : Stand)
            → s (Standing (named Interrupted)) ≡ IsStand stand → Fits k.node Interrupted stand
            → IfSome (context_in stand) (λ d. s (HasRun n d.priority) ≡ IsFlag true)
            → IsSeated s' n node' Interrupted (named Interrupted)
        by q (Runs d) e f r =
            record {
              home = q.home;
              stand = Runs d;
              stands = stay (Standing (named Interrupted)) (apart p c s n x k h)
                  (not_child (named Interrupted) (Runs d) e refl) refl ∙ e;
              fits = f;
              has_run = has_run_stays (Runs d) r;
            }
        by q Absent e f r = absurd f
        by q (Rests d) e f r = absurd f
        by q (Waits d) e f r = absurd f
        by q Ended e f r = absurd f
        by q (Chooses d) e f r = absurd f
        by q (Chosen d) e f r = absurd f
        by q (Listens channel d) e f r = absurd f

        with_seat : IsSeated s n k.node Interrupted (named Interrupted)
            → IsSeated s' n node' Interrupted (named Interrupted)
        with_seat q = by q q.stand q.stands q.fits q.has_run

    seated : (q : Seat) → is_taken now.control q ≡ true → IsSeated s' n node' q (named' q)
    seated Current h = subst (IsSeated s' n node' Current) (sym k.name) current_seated
    seated Interrupted h = interrupted_seated h
    seated (Queued process) h = by (cases_eq process new)
      where
        by : (process ≡ new) ⊎ (process ≡ new → ⊥) → IsSeated s' n node' (Queued process) (named' (Queued process))
        by (inl e) = rw (eq-eqb process new e) (new_seated process e)
        by (inr e) =
            let taken : is_queued m process ≡ true =
            was_queued m b.priority w b.registers b.count b.small b.aligned process e h in
            rw (ne_eqb process new e)
            (queued_seated process (named (Queued process)) taken (shown.processes.seated (Queued process) taken))
    seated (Waiting process) h =
        waiting_seated process (named (Waiting process)) h (shown.processes.seated (Waiting process) h)

    -- who is there
    abbrev HasPlace : Name → Type 0
    HasPlace y = IsGone s' n y ⊎ ((q : Seat) × (is_taken now.control q ≡ true) × (named' q ≡ y))

    placed : (y : Name) → y.node ≡ n → HasPlace y
    placed y h = by (same_name b.child y) refl (same_name x y) refl
      where
        itself : (z : Name) → same_name z z ≡ true
        itself z = place_itself p (Standing z)

        of : same_name b.child y ≡ false → same_name x y ≡ false
            → IsGone s n y ⊎ ((q : Seat) × (is_taken m q ≡ true) × (named q ≡ y)) → HasPlace y
        of one two (inl (inl e)) = inl (inl (stay (Standing y) two one refl ∙ e))
        of one two (inl (inr e)) = inl (inr (stay (Standing y) two one refl ∙ e))
        of one two (inr (Current, taken, e)) =
            absurd (true≢false (sym (itself x) ∙ ap (same_name x) (sym k.name ∙ e) ∙ two))
        of one two (inr (Interrupted, taken, e)) =
            inr (Interrupted, taken, e)
        of one two (inr (Waiting process, taken, e)) = inr (Waiting process, taken, e)
        of one two (inr (Queued process, taken, e)) =
            inr (
              Queued process,
              still_queued m b.priority w b.registers b.count process taken,
              rw (ne_eqb process new (λ f. new_there p c s n x k s' b (workspace_of process)
                  (queued_descheduled m process taken) (ap workspace_of f ∙ workspace_is))) e,
            )

        by : (t : Bool) → same_name b.child y ≡ t → (u : Bool) → same_name x y ≡ u → HasPlace y
        by true e u f =
            inr (
              Queued new,
              queued_now m b.priority w b.registers b.count b.small b.aligned,
              rw (eq-eqb new new refl) (one_name p b.child y e),
            )
        by false e true f =
            inr (Current, ap is_some running.current, k.name ∙ one_name p x y f)
        by false e false f = of e f (shown.processes.there y h)

    -- how many live
    lives : (a : ℕ) → s' (Life n a) ≡ IsAmount (pos (count_at a (live now.control)))
    lives a =
        lives_now a
        ∙ ap (λ z. IsAmount (pos z)) (sym (counted_now m b.priority w b.registers b.count running.level running.current
        running.small b.same_wptr (eqb-true _ _ k.steady.placed.words.aligned) a))

    -- an output that was not ended
    lent : (y : Name) (a : Context) (l : Lent) → y.node ≡ n → s' (Standing y) ≡ IsStand (Rests a)
        → a.lent ≡ Some l → (l.link < 4)
        × (k.shows.sent n l.link
        ≡ Some (record { request = record { process = y; buffer = l.buffer }; copied = true }))
    lent y a l h e f = by (same_name b.child y) refl (same_name x y) refl
      where
        lent_in : Value → Option Lent
        lent_in (IsStand (Rests d)) = d.lent
        lent_in _ = None

        runs_not : IsStand (Runs b.context) ≡ IsStand (Rests a) → ⊥
        runs_not g = cc

        by : (t : Bool) → same_name b.child y ≡ t → (u : Bool) → same_name x y ≡ u → (l.link < 4)
            × (k.shows.sent n l.link
            ≡ Some (record { request = record { process = y; buffer = l.buffer }; copied = true }))
        by true g u i =
            let none : None ≡ Some l =
            ap lent_in (sym child_stands ∙ ap (λ z. s' (Standing z)) (one_name p b.child y g) ∙ e) ∙ f in cc
        by false g true i =
            absurd (runs_not (sym b.goes.is ∙ ap (λ z. s' (Standing z)) (one_name p x y i) ∙ e))
        by false g false i = shown.processes.lent y a l h (sym (stay (Standing y) i g refl) ∙ e) f

    -- the processes
    processes_now : ShowsProcesses s' n named' (k.shows.sent n) node'
    processes_now =
        record {
          seated = seated;
          there = placed;
          lent = lent;
          passed = λ l q e h. (let f = shown.processes.passed l q e h in
              (f.0, f.1, other_stand q.request.process (Rests f.1) f.2 refl refl, f.3));
          lives = lives;
          population = (
            shown.processes.population.0 + 1,
            population_now,
            omega (
              arith,
              shown.processes.population.2,
              many_now m b.priority w b.registers b.count running.level running.current running.small b.same_wptr
                  (eqb-true _ _ k.steady.placed.words.aligned),
            ),
          );
          interrupting = IfSome_then m.interrupted shown.processes.interrupting (λ t e. runs_on 0 e);
          flags = λ h. record {
            error = stay (Error n) refl refl refl ∙ running.flags.error ∙ ap IsFlag (sym b.same_error);
            halting = stay (HaltOnError n) refl refl refl ∙ running.flags.halting ∙ ap IsFlag (sym b.same_halting);
          };
          kept_flags = λ h. IfSome_then m.interrupted (shown.processes.kept_flags k.kept) (λ t f. record {
            error = stay (Error n) refl refl refl ∙ f.error;
            halting = stay (HaltOnError n) refl refl refl ∙ f.halting;
          });
        }

    -- uses of words
    not_engaged : {a : Use} → a ≡ Saved → a ≡ Engaged → ⊥
    not_engaged e f = differ (sym e ∙ f)
      where
        differ : Saved ≡ Engaged → ⊥
        differ e = cc

    engaged_free : {a : Use} → a ≡ Engaged → a ≡ Free → ⊥
    engaged_free e f = differ (sym e ∙ f)
      where
        differ : Engaged ≡ Free → ⊥
        differ e = cc

    engaged_back : (j : ℕ) → use_of s' n j ≡ Engaged
        → (use_of s' n j ≡ Saved) ⊎ (use_of s' n j ≡ use_of s n j) → use_of s n j ≡ Engaged
    engaged_back j e (inl f) = absurd (not_engaged f e)
    engaged_back j e (inr f) = sym f ∙ e

    -- so the node is shown
    node_now : ShowsNode s' n k.plan named' (k.shows.sent n) node'
    node_now =
        record {
          role = shown.role;
          works = shown.works;
          runs_on = shown.runs_on;
          size = size_after p c s n x k s' b;
          kind = shown.kind;
          store = shows_from s' n k.plan.memory now.store (tells_now p c s n x k s' b);
          marks = marks_now p c s n x k s' b;
          channels = channels_stay s s' n named named' k.node.machine now (λ a. refl)
              (λ j e. ap (λ (z : Value). (word_in z).used) (unfree p c s n x k s' b j (engaged_free e)) ∙ e)
              (λ j e. engaged_back j e (used p c s n x k s' b j))
              (λ a side. stay (Half n a side) refl refl refl) (λ q. refl)
              (size_after p c s n x k s' b ∙ sym shown.size)
              (λ a h e. lasting_stays p c s n x k s' b a h (ap is_lasting e)) shown.channels;
          links = λ l h. link_stays s s' n named named' (k.shows.sent n) k.node node' l (λ a. refl)
              (λ side. stay (LinkHalf (end_at n l) side) refl refl refl)
              (stay (Unfinished (end_at n l)) refl refl refl)
              (descriptors_stay s s' n m.links k.node.machine.store shown.choices alternatives l h) refl refl
              (shown.links l h);
          processes = processes_now;
          choices = choices_stay s s' n m.links m.links k.node.machine.store now.store
              (inputs_stay s s' n m.links m.links (λ l. stay (LinkHalf (end_at n l) Input) refl refl refl) refl)
              alternatives
              (λ y h e. both_quiet p s s' n x b.child stand_stays parent_quiet child_quiet y e)
              (λ y h. stay (Ports y) refl refl refl) (λ a side. stay (Half n a side) refl refl refl)
              (λ j e z. ap amount_in (stay (Sending n j) refl refl refl) ∙ z)
              (λ j e. unfree p c s n x k s' b j (lasting_not_free e))
              (size_after p c s n x k s' b ∙ sym shown.size) (lasting_stays p c s n x k s' b) shown.choices;
        }
      where
        stand_stays : (y : Name) → same_name x y ≡ false → same_name b.child y ≡ false
            → s' (Standing y) ≡ s (Standing y)
        stand_stays y e f = stay (Standing y) e f refl

        parent_alternative : alternative_at s' n x ≡ alternative_at s n x
        parent_alternative =
            ap (λ (z : Value). alternative_of (stand_in z)) b.goes.is
            ∙ alternative_alike running.context b.context b.same_choice
            (b.knows.priority ∙ sym running.registers.priority)
            (inr (b.knows.wptr ∙ b.same_wptr ∙ sym running.registers.wptr))
            ∙ sym (ap (λ (z : Value). alternative_of (stand_in z)) running.stood)

        child_now : alternative_at s' n b.child ≡ None
        child_now = ap (λ (z : Value). alternative_of (stand_in z)) child_stands

        child_before : alternative_at s n b.child ≡ None
        child_before = ap (λ (z : Value). alternative_of (stand_in z)) was_absent

        parent_quiet : is_quiet (stand_in (s' (Standing x))) ≡ true
        parent_quiet = ap (λ (z : Value). is_quiet (stand_in z)) b.goes.is

        child_quiet : is_quiet (stand_in (s' (Standing b.child))) ≡ true
        child_quiet = ap (λ (z : Value). is_quiet (stand_in z)) child_stands

        alternatives : (y : Name) → y.node ≡ n → alternative_at s' n y ≡ alternative_at s n y
        alternatives y h =
            both_alike p s s' n x b.child stand_stays parent_alternative (child_now ∙ sym child_before) y

    -- places of other nodes stay
    elsewhere : (q : Place) → node_at q ≢ n → s' q ≡ s q
    elsewhere q h = stay q (parent q h) (child q h) (word q h)
      where
        not_n : (i : ℕ) → i ≢ n → (n == i) ≡ false
        not_n i h = ne_eqb n i (λ e. h (sym e))

        other_home : (y z : Name) → y.node ≡ n → z.node ≢ n → same_name y z ≡ false
        other_home y z home h = rw (ne_eqb y.node z.node (λ e. h (sym e ∙ home))) refl

        word : (q : Place) → node_at q ≢ n → is_word_of n q ≡ false
        word (WordAt i j) h = not_n i h
        word _ h = refl

        parent : (q : Place) → node_at q ≢ n → is_stand_of x q ≡ false
        parent (Standing y) h = other_home x y running.home h
        parent _ h = refl

        child : (q : Place) → node_at q ≢ n → is_coming n b.child q ≡ false
        child (Standing y) h = other_home b.child y b.home h
        child (Life i a) h = not_n i h
        child (Population i) h = not_n i h
        child (HasRun i q) h = not_n i h
        child _ h = refl

    -- the node's own step leads there
    pub begun_leads : LeadsTo p c n s'
    begun_leads =
        leads_there p c s n x k now s' named' (k.shows.sent n) stepped
        (ap (λ (z : Store). record { control = now.control; store = z }) (hidden_still p c s n x k s' b))
        node_now elsewhere
        (outputs_stay s s' n k.node node' (λ l. stay (LinkHalf (end_at n l) Output) refl refl refl) (λ l. refl))
