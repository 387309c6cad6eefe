-- A node whose current process went on is shown again.
use Rattle.tprocesses.specs.Values.{amount_in}
use Rattle.std.proofs.Common.{◌≡◌, ℕ, ◌+◌, ◌*◌, ◌<◌, ◌≤◌, ◌/◌, ◌%◌, refl, sym, ap, subst, ◌∙◌, Bool, true, false}
use Rattle.std.proofs.Common.{true≢false, length, Contains, Option, Some, None, Ok, arith, ◌⊎◌, inl, inr, pos, get_or}
use Rattle.std.specs.Prelude.{IfSome, is_some, slice_range}
use Rattle.std.specs.Int.{w32, from_le_bytes}
use Rattle.std.specs.Prelude.{◌==◌, is_none}
use Rattle.std.proofs.lemmas.Bool.{eqb-true, or_cases}
use Rattle.std.proofs.lemmas.Option.{IfSome_then}
use Rattle.std.proofs.lemmas.List.{ext_get_or}
use Rattle.std.proofs.lemmas.List.Elements.{All-contains}
use Rattle.tword.specs.Words.{most_neg}
use Rattle.tword.specs.Stores.{Store, place, word_at, shown}
use Rattle.tword.specs.Touches.{word_place_break}
use Rattle.tcpu.specs.declared.registers.Registers.{Registers}
use Rattle.tplan.specs.declared.plan.Plan.{Plan}
use Rattle.tplan.specs.declared.plan.NodePlan.{NodePlan}
use Rattle.tproc.specs.declared.ran.Ran.{Ran}
use Rattle.tproc.specs.declared.waiter.Suspended.{Suspended}
use Rattle.tproc.specs.Machine.{Control, Machine, workspace_of, descheduled}
use Rattle.tproc.specs.ProcessStatus.{live}
use Rattle.tproc.specs.Queues.{iptr_word}
use Rattle.tproc.specs.Placement.{IsPlaced}
use Rattle.tproc.specs.declared.channels.Side.TheVariants.{Input}
use Rattle.tproc.specs.SavedWords.{WordStands, SavedStand}
use Rattle.tproc.specs.Steps.{step}
use Rattle.tproc.proofs.Placed.{step_keeps_placed}
use Rattle.tproc.proofs.SavedWords.{saved_words_stand}
use Rattle.tnet.specs.Rendezvous.{Node}
use Rattle.tplan.specs.Wires.{end_at}
use Rattle.tprocesses.specs.Places.{Place, Name, WordAt, Sending, Standing, Ports}
use Rattle.tprocesses.specs.Places.{Half, LinkHalf, Unfinished, Life, Population, HasRun}
use Rattle.tprocesses.specs.Places.{Error, HaltOnError, same_name}
use Rattle.tprocesses.specs.Values.{Chosen, Listens, Chooses, Value, Free, Context, Stand, Absent, Rests, Runs}
use Rattle.tprocesses.specs.Values.{Waits, Ended}
use Rattle.tprocesses.specs.Values.{IsStand, IsFlag, IsAmount, word_in, stand_in}
use Rattle.tprocesses.specs.Touching.{word_number}
use Rattle.tprocesses.specs.Machine.{site_of, awaits_successor}
use Rattle.tseen.specs.Known.{HasRegisters, HasSaved}
use Rattle.tseen.specs.Seats.{Seat, Current, Interrupted, Queued, Waiting, is_taken}
use Rattle.tseen.specs.Outputs.{Pending}
use Rattle.tseen.specs.Words.{AreSavedWords, use_at, is_set_aside}
use Rattle.tseen.specs.Choices.{alternative_of, alternative_at, is_quiet}
use Rattle.tseen.specs.Processes.{Fits, IsSeated, IsGone, HasFlags, KeepsFlags, ShowsProcesses, context_in}
use Rattle.tseen.specs.Shown.{ShowsNode}
use Rattle.tseen.proofs.After.{State}
use Rattle.tseen.proofs.Choices.{is_lasting, lasting_not_free, stands_alike, quiet_alike, alternative_alike, none_is}
use Rattle.tseen.proofs.Choices.{choices_stay}
use Rattle.tseen.proofs.InputChannels.{descriptors_stay, inputs_stay}
use Rattle.tseen.proofs.Unclaimed.{aside_not_free}
use Rattle.tseen.proofs.Cells.{use_of, Knows, IsWhole, Tells, shows_from, range-at, range-length}
use Rattle.tseen.proofs.Written.{is_word_of}
use Rattle.tseen.proofs.Writing.{word_lies}
use Rattle.tseen.proofs.Stored.{GoesOn, DiffersInFree}
use Rattle.tseen.proofs.Finished.{IsNoted, one_name, moved}
use Rattle.tseen.proofs.Completed.{is_own, WentOn}
use Rattle.tseen.proofs.Staying.{saved_words_stay, marks_from, channels_stay, link_stays}
use Rattle.tseen.proofs.Counted.{waits_descheduled, queued_descheduled, live_long, settled, count_at, lives_are}
use Rattle.tseen.proofs.Counted.{moved_count}
use Rattle.tseen.proofs.Others.{interrupted_seated}

-- a word that is not free stays in the store
pub word_stays : (s : State) (n size : ℕ) (store store' : Store) (a : ℕ) → DiffersInFree s n store store'
    → length store ≡ size → length store' ≡ size → place a ≡ 4 * word_number a → 4 * word_number a + 4 ≤ size
    → (use_of s n (word_number a) ≡ Free → ⊥) → word_at store' a ≡ word_at store a
word_stays s n size store store' a only e e' at within used =
    ap (λ (xs : Store). from_le_bytes w32 (shown xs))
    (ext_get_or None (slice_range store' (place a) (place a + 4)) (slice_range store (place a) (place a + 4))
    (range-length store' (place a) 4 (omega (arith, at, within, e')) ∙ sym (range-length store (place a) 4
    (omega (arith, at, within, e)))) (λ i h.
    let small : i < 4 = omega (arith, range-length store' (place a) 4 (omega (arith, at, within, e')), h) in
    let word : (place a + i) / 4 ≡ word_number a = omega (arith, at, small) in
    range-at store' (place a) 4 i small
    ∙ only (place a + i) (λ f. used (sym (ap (use_of s n) word) ∙ f))
    ∙ sym (range-at store (place a) 4 i small)))

-- a process runs there
abbrev is_running : Value → Bool
is_running (IsStand (Runs c)) = true
is_running _ = false

module _ (p : Plan) (plan : NodePlan) (n : ℕ) (s t s' : State) (named : Seat → Name) (sent : ℕ → Option Pending)
    (node : Node) (shown : ShowsNode s n plan named sent node) (placed : IsPlaced node.machine)
    (whole : plan.memory % 4 ≡ 0) (x : Name) (home : x.node ≡ n) (level : ℕ)
    (current : node.machine.control.current ≡ Some level) (name : named Current ≡ x)
    (apart : is_some node.machine.control.interrupted ≡ true → same_name x (named Interrupted) ≡ false)
    (kept : KeepsFlags s n) (after : Registers) (count : ℕ) (store' : Store) (c c' : Context)
    (stood : s (Standing x) ≡ IsStand (Runs c)) (level_is : c.priority ≡ level)
    (same_wptr : c.wptr ≡ node.machine.control.registers.wptr) (knows : HasRegisters level after c')
    (same_choice : c'.choice ≡ c.choice)
    (on : GoesOn n plan.memory s t node.machine.store store')
    (went : WentOn (site_of n plan) x node.machine.control.registers.wptr after c' t s') (ran : Ran)
    (stepped : step node.machine ≡ Ok (
      record {
        control = record node.machine.control { registers = after; count = count };
        store = store';
      },
      ran,
    )) where
  abbrev m : Control
  m = node.machine.control

  abbrev m' : Machine
  m' = record { control = record m { registers = after; count = count }; store = store' }

  abbrev node' : Node
  node' = record node { machine = m' }

  placed' : IsPlaced m'
  placed' = step_keeps_placed node.machine m' ran placed stepped

  stand_words : SavedStand node.machine m'
  stand_words = (saved_words_stand node.machine placed).steps m' ran stepped

  -- what is neither a word nor of the process stays
  at : (q : Place) → is_own n x q ≡ false → is_word_of n q ≡ false → s' q ≡ s q
  at q h k = went.others q h ∙ on.keeps.others q k

  uses : (k : ℕ) → use_of s' n k ≡ use_of s n k
  uses k = ap (λ (v : Value). (word_in v).used) (went.others (WordAt n k) refl) ∙ on.keeps.uses k

  tells' : Tells s' n plan.memory store'
  tells' =
      record {
        length = on.tells.length;
        words = λ k h. subst IsWhole (sym (went.others (WordAt n k) refl)) (on.tells.words k h);
        cells = λ i h.
            subst (λ (y : Option ℕ). Knows y (get_or store' i None))
            (ap (λ (v : Value). get_or (word_in v).cells (i % 4) None) (sym (went.others (WordAt n (i / 4)) refl)))
            (on.tells.cells i h);
      }

  -- a word in use as a channel or for an alternative stays
  lasting_word : (a : ℕ) → word_place_break (length node.machine.store) a ≡ None → is_lasting (use_at s n a) ≡ true
      → word_at store' a ≡ word_at node.machine.store a
  lasting_word a h e =
      let l : (place a ≡ 4 * word_number a) × (most_neg ≤ a) × (4 * word_number a + 4 ≤ plan.memory) =
      word_lies (site_of n plan) whole a (subst (λ z. word_place_break z a ≡ None) shown.size h) in
      word_stays s n plan.memory node.machine.store store' a on.only shown.size on.tells.length l.0 l.2
      (lasting_not_free e)

  -- another process stays where it was
  other_stand : (y : Name) (stand : Stand) → s (Standing y) ≡ IsStand stand → is_running (IsStand stand) ≡ false
      → s' (Standing y) ≡ IsStand stand
  other_stand y stand e h = by (same_name x y) refl
    where
      by : (b : Bool) → same_name x y ≡ b → s' (Standing y) ≡ IsStand stand
      by true f =
          let same : IsStand (Runs c) ≡ IsStand stand =
          sym stood ∙ ap (λ z. s (Standing z)) (one_name p x y f) ∙ e in
          absurd (true≢false (ap is_running same ∙ h))
      by false f = at (Standing y) f refl ∙ e

  other_back : (y : Name) (stand : Stand) → s' (Standing y) ≡ IsStand stand → is_running (IsStand stand) ≡ false
      → s (Standing y) ≡ IsStand stand
  other_back y stand e h = by (same_name x y) refl
    where
      by : (b : Bool) → same_name x y ≡ b → s (Standing y) ≡ IsStand stand
      by true f =
          let same : IsStand (Runs c') ≡ IsStand stand =
          sym went.stand ∙ ap (λ z. s' (Standing z)) (one_name p x y f) ∙ e in
          absurd (true≢false (ap is_running same ∙ h))
      by false f = sym (at (Standing y) f refl) ∙ e

  -- what a process will go on with
  saved_stays : (process : ℕ) (k : Context) → Contains (descheduled m) (workspace_of process)
      → HasSaved node.machine.store process k → HasSaved store' process k
  saved_stays process k h w =
      record {
        priority = w.priority;
        wptr = w.wptr;
        iptr = w.iptr ∙ sym (All-contains (λ v. WordStands iptr_word v node.machine m') (descheduled m)
            (workspace_of process) stand_words.iptrs h);
        a = w.a;
        b = w.b;
        c = w.c;
      }

  has_run_stays : (stand : Stand) → IfSome (context_in stand) (λ k. s (HasRun n k.priority) ≡ IsFlag true)
      → IfSome (context_in stand) (λ k. s' (HasRun n k.priority) ≡ IsFlag true)
  has_run_stays stand h =
      IfSome_then (context_in stand) h (λ k e. at (HasRun n k.priority) refl refl ∙ e)

  -- the seats of the others
  rests_seated : (process : ℕ) (y : Name) → is_taken m (Queued process) ≡ true
      → IsSeated s n node (Queued process) y → IsSeated s' n node' (Queued process) y
  rests_seated process y taken k = by k.stand k.stands k.fits k.has_run
    where
      by : (stand : Stand) → s (Standing y) ≡ IsStand stand → Fits node (Queued process) stand
          → IfSome (context_in stand) (λ k. s (HasRun n k.priority) ≡ IsFlag true)
          → IsSeated s' n node' (Queued process) y
      by (Rests d) e f r =
          record {
            home = k.home;
            stand = Rests d;
            stands = other_stand y (Rests d) e refl;
            fits = saved_stays process d (queued_descheduled m process taken) f;
            has_run = has_run_stays (Rests d) r;
          }
      by (Chosen d) e f r =
          record {
            home = k.home;
            stand = Chosen d;
            stands = other_stand y (Chosen d) e refl;
            fits = (saved_stays process d (queued_descheduled m process taken) f.0, f.1);
            has_run = has_run_stays (Chosen d) r;
          }
      by Absent e f r = absurd f
      by (Runs d) e f r = absurd f
      by (Waits d) e f r = absurd f
      by Ended e f r = absurd f
      by (Chooses d) e f r = absurd f
      by (Listens channel d) e f r = absurd f

  waits_seated : (process : ℕ) (y : Name) → is_taken m (Waiting process) ≡ true
      → IsSeated s n node (Waiting process) y → IsSeated s' n node' (Waiting process) y
  waits_seated process y taken k = by k.stand k.stands k.fits k.has_run
    where
      by : (stand : Stand) → s (Standing y) ≡ IsStand stand → Fits node (Waiting process) stand
          → IfSome (context_in stand) (λ k. s (HasRun n k.priority) ≡ IsFlag true)
          → IsSeated s' n node' (Waiting process) y
      by (Rests d) e f r =
          record {
            home = k.home;
            stand = Rests d;
            stands = other_stand y (Rests d) e refl;
            fits = (saved_stays process d (waits_descheduled m process taken) f.0, f.1);
            has_run = has_run_stays (Rests d) r;
          }
      by (Waits d) e f r =
          record {
            home = k.home;
            stand = Waits d;
            stands = other_stand y (Waits d) e refl;
            fits = (saved_stays process d (waits_descheduled m process taken) f.0, f.1);
            has_run = has_run_stays (Waits d) r;
          }
      by (Chooses d) e f r =
          record {
            home = k.home;
            stand = Chooses d;
            stands = other_stand y (Chooses d) e refl;
            fits = (saved_stays process d (waits_descheduled m process taken) f.0, f.1, f.2);
            has_run = has_run_stays (Chooses d) r;
          }
      by Absent e f r = absurd f
      by (Runs d) e f r = absurd f
      by Ended e f r = absurd f
      by (Chosen d) e f r = absurd f
      by (Listens channel d) e f r = absurd f

  current_seated : IsSeated s' n node' Current x
  current_seated =
      record {
        home = home;
        stand = Runs c';
        stands = went.stand;
        fits = rw current knows;
        has_run = at (HasRun n c'.priority) refl refl ∙ ran_before;
      }
    where
      seat : IsSeated s n node Current x
      seat = subst (IsSeated s n node Current) name (shown.processes.seated Current (rw current refl))

      stand_is : seat.stand ≡ Runs c
      stand_is = stand_of (sym seat.stands ∙ stood)
        where
          stand_of : {a b : Stand} → IsStand a ≡ IsStand b → a ≡ b
          stand_of e = cc

      ran_before : s (HasRun n c'.priority) ≡ IsFlag true
      ran_before =
          let h : s (HasRun n c.priority) ≡ IsFlag true =
          subst (λ (z : Stand). IfSome (context_in z) (λ k. s (HasRun n k.priority) ≡ IsFlag true)) stand_is
          seat.has_run in
          let e : c.priority ≡ c'.priority = level_is ∙ sym knows.priority in
          ap (λ q. s (HasRun n q)) (sym e) ∙ h

  seated : (q : Seat) → is_taken m q ≡ true → IsSeated s' n node' q (named q)
  seated Current h = subst (IsSeated s' n node' Current) (sym name) current_seated
  seated Interrupted h =
      interrupted_seated n x s s' (λ y other. at (Standing y) other refl) (λ q. at (HasRun n q) refl refl) node node'
      (named Interrupted) (apart h) refl (shown.processes.seated Interrupted h)
  seated (Queued process) h =
      rests_seated process (named (Queued process)) h (shown.processes.seated (Queued process) h)
  seated (Waiting process) h =
      waits_seated process (named (Waiting process)) h (shown.processes.seated (Waiting process) h)

  there : (y : Name) → y.node ≡ n → IsGone s' n y ⊎ ((q : Seat) × (is_taken m q ≡ true) × (named q ≡ y))
  there y h = by (shown.processes.there y h)
    where
      by : IsGone s n y ⊎ ((q : Seat) × (is_taken m q ≡ true) × (named q ≡ y))
          → IsGone s' n y ⊎ ((q : Seat) × (is_taken m q ≡ true) × (named q ≡ y))
      by (inl (inl e)) = inl (inl (other_stand y Absent e refl))
      by (inl (inr e)) = inl (inr (other_stand y Ended e refl))
      by (inr q) = inr q

  -- how many live
  lives : (w : ℕ) → s' (Life n w) ≡ IsAmount (pos (count_at w (live m'.control)))
  lives w =
      went.lives w
      ∙ ap (moved (site_of n plan) m.registers.wptr after.wptr w)
      (on.keeps.others (Life n w) refl ∙ shown.processes.lives w
      ∙ ap (λ k. IsAmount (pos k)) (lives_are m level w current aligned small))
      ∙ moved_count (site_of n plan) m.registers.wptr after.wptr w (count_at w (settled m))
      ∙ ap (λ k. IsAmount (pos k)) (sym (lives_are m'.control level w current aligned' small))
    where
      aligned : m.registers.wptr % 4 ≡ 0
      aligned = eqb-true _ _ placed.words.aligned

      aligned' : after.wptr % 4 ≡ 0
      aligned' = eqb-true _ _ placed'.words.aligned

      small : level < 2
      small = rw current at placed.priority

  processes' : ShowsProcesses s' n named sent node'
  processes' =
      record {
        seated = seated;
        there = there;
        lent = λ y k l h e f. shown.processes.lent y k l h (rests_back y k e) f;
        passed = λ l q e h. (let f = shown.processes.passed l q e h in
            (f.0, f.1, rests_on q.request.process f.1 f.2, f.3));
        lives = lives;
        population = (
          shown.processes.population.0,
          at (Population n) refl refl ∙ shown.processes.population.1,
          omega (arith, many, shown.processes.population.2),
        );
        interrupting = ran_high;
        flags = λ h. record { error = went.error; halting = went.halting };
        kept_flags = λ h. flags_beside h went.noted;
      }
    where
      ran_high : IfSome m.interrupted (λ t. s' (HasRun n 0) ≡ IsFlag true)
      ran_high = IfSome_then m.interrupted shown.processes.interrupting (λ t e. at (HasRun n 0) refl refl ∙ e)

      -- where one was interrupted, low ones have run
      low_ran : (t : Suspended) → m.interrupted ≡ Some t → s' (HasRun n 1) ≡ IsFlag true
      low_ran t e = with_seat (seated Interrupted (rw e refl))
        where
          by_stand : (stand : Stand) → Fits node' Interrupted stand
              → IfSome (context_in stand) (λ k. s' (HasRun n k.priority) ≡ IsFlag true) → s' (HasRun n 1) ≡ IsFlag true
          by_stand (Runs d) f h =
              let g : HasRegisters 1 t.registers d =
              subst (λ (o : Option Suspended). IfSome o (λ t. HasRegisters 1 t.registers d)) e f in
              ap (λ q. s' (HasRun n q)) (sym g.priority) ∙ h
          by_stand Absent f h = absurd f
          by_stand (Rests d) f h = absurd f
          by_stand (Waits d) f h = absurd f
          by_stand Ended f h = absurd f
          by_stand (Chooses d) f h = absurd f
          by_stand (Chosen d) f h = absurd f
          by_stand (Listens channel d) f h = absurd f

          with_seat : IsSeated s' n node' Interrupted (named Interrupted) → s' (HasRun n 1) ≡ IsFlag true
          with_seat q = by_stand q.stand q.fits q.has_run

      -- so no flag was changed
      flags_beside : KeepsFlags s' n → IsNoted n t s' → IfSome m.interrupted (λ t. HasFlags s' n t.registers)
      flags_beside h (inr same) =
          IfSome_then m.interrupted (shown.processes.kept_flags kept) (λ i f. record {
            error = same.0 ∙ on.keeps.others (Error n) refl ∙ f.error;
            halting = same.1 ∙ on.keeps.others (HaltOnError n) refl ∙ f.halting;
          })
      flags_beside h (inl noted) = by m.interrupted refl
        where
          both : (t : Suspended) → m.interrupted ≡ Some t → ⊥
          both t e =
              let high : s' (HasRun n 0) ≡ IsFlag true =
              subst (λ (o : Option Suspended). IfSome o (λ t. s' (HasRun n 0) ≡ IsFlag true)) e ran_high in
              let f : true ≡ false = rw (noted, high, low_ran t e) at h in true≢false f

          by : (o : Option Suspended) → m.interrupted ≡ o → IfSome o (λ t. HasFlags s' n t.registers)
          by None e = tt
          by (Some t) e = absurd (both t e)

      rests_back : (y : Name) (k : Context) → s' (Standing y) ≡ IsStand (Rests k) → s (Standing y) ≡ IsStand (Rests k)
      rests_back y k e = other_back y (Rests k) e refl

      rests_on : (y : Name) (k : Context) → s (Standing y) ≡ IsStand (Rests k) → s' (Standing y) ≡ IsStand (Rests k)
      rests_on y k e = other_stand y (Rests k) e refl

      many : length (live m'.control) ≡ length (live m)
      many =
          live_long m'.control level current ∙ sym (live_long m level current)

  -- a saved word stays
  used_stays : (j : ℕ) → is_set_aside (use_of s n j) ≡ true → s' (WordAt n j) ≡ s (WordAt n j)
  used_stays j e = went.others (WordAt n j) refl ∙ on.keeps.kept j (aside_not_free e)

  -- so the node is shown
  pub own_shown : ShowsNode s' n plan named sent node'
  own_shown =
      record {
        role = shown.role;
        works = shown.works;
        runs_on = shown.runs_on;
        size = on.tells.length;
        kind = shown.kind;
        store = shows_from s' n plan.memory store' tells';
        marks = marks_from s s' n sent sent m m'.control
            (λ v h. saved_words_stay s s' n v used_stays
            (All-contains (AreSavedWords s n) (descheduled m) v shown.marks.saved h)) (λ l. refl) (λ j e. uses j ∙ e)
            (λ j. at (Sending n j) refl refl ∙ shown.marks.outputs j)
            (λ j. ap awaits_successor (uses j) ∙ shown.marks.no_successor j) shown.marks;
        channels = channels_stay s s' n named named node.machine m' (λ w. refl) (λ j e. uses j ∙ e)
            (λ j e. sym (uses j) ∙ e) (λ a side. at (Half n a side) refl refl) (λ q. refl)
            (on.tells.length ∙ sym shown.size) (λ a h e. lasting_word a h (ap is_lasting e)) shown.channels;
        links = λ l h. link_stays s s' n named named sent node node' l (λ w. refl)
            (λ side. at (LinkHalf (end_at n l) side) refl refl) (at (Unfinished (end_at n l)) refl refl)
            (descriptors_stay s s' n m.links node.machine.store shown.choices alternatives l h) refl refl
            (shown.links l h);
        processes = processes';
        choices = choices_stay s s' n m.links m.links node.machine.store store'
            (inputs_stay s s' n m.links m.links (λ l. at (LinkHalf (end_at n l) Input) refl refl) refl) alternatives
            (λ y h e. quiet_alike p s s' n x (λ y other. at (Standing y) other refl) quiet_now y e)
            (λ y h. at (Ports y) refl refl) (λ a side. at (Half n a side) refl refl)
            (λ j e z. ap amount_in (at (Sending n j) refl refl) ∙ z) (λ j e. went.others (WordAt n j) refl
            ∙ on.keeps.kept j (lasting_not_free e))
            (on.tells.length ∙ sym shown.size) lasting_word shown.choices;
      }
    where
      quiet_now : is_quiet (stand_in (s' (Standing x))) ≡ true
      quiet_now = ap (λ (v : Value). is_quiet (stand_in v)) went.stand

      alternative_stays : alternative_at s' n x ≡ alternative_at s n x
      alternative_stays =
          ap (λ (v : Value). alternative_of (stand_in v)) went.stand
          ∙ alternative_alike c c' same_choice (knows.priority ∙ sym level_is)
          (by (or_cases (is_none c'.choice) (node.machine.control.registers.wptr == after.wptr) went.stays))
          ∙ sym (ap (λ (v : Value). alternative_of (stand_in v)) stood)
        where
          by : (is_none c'.choice ≡ true) ⊎ ((node.machine.control.registers.wptr == after.wptr) ≡ true)
              → (c'.choice ≡ None) ⊎ (c'.wptr ≡ c.wptr)
          by (inl e) = inl (none_is c'.choice e)
          by (inr e) = inr (knows.wptr ∙ sym (eqb-true _ _ e) ∙ sym same_wptr)

      alternatives : (y : Name) → y.node ≡ n → alternative_at s' n y ≡ alternative_at s n y
      alternatives y h = stands_alike p s s' n x (λ y other. at (Standing y) other refl) alternative_stays y
