-- A node at which no process runs is shown once a new one has come and runs.
use Rattle.tprocesses.specs.Values.{amount_in}
use Rattle.tseen.proofs.Choices.{stands_alike, quiet_alike, alternative_none, choices_stay}
use Rattle.tprocesses.specs.Values.{stand_in}
use Rattle.tprocesses.specs.Places.{Ports, Unfinished}
use Rattle.tseen.specs.Choices.{alternative_of, alternative_at, is_quiet}
use Rattle.std.proofs.Common.{◌≡◌, ℕ, suc, ◌+◌, ◌<◌, ◌≤◌, ◌%◌, refl, sym, ap, subst, ◌∙◌, Bool, true, false, true≢false}
use Rattle.std.proofs.Common.{length, cond, Option, Some, None, arith, ◌⊎◌, inl, inr, pos}
use Rattle.std.specs.Prelude.{◌==◌, is_some, if◌then◌else◌}
use Rattle.std.proofs.lemmas.Int.{ints}
use Rattle.std.proofs.lemmas.Option.{IfSome_then}
use Rattle.std.proofs.lemmas.List.Elements.{All-contains}
use Rattle.tcpu.specs.declared.registers.Registers.{Registers}
use Rattle.tproc.specs.Machine.{Control, Machine, descheduled}
use Rattle.tproc.specs.ProcessStatus.{live}
use Rattle.tplan.specs.declared.plan.NodePlan.{NodePlan}
use Rattle.tplan.specs.declared.plan.Plan.{Plan}
use Rattle.tplan.specs.Wires.{end_at}
use Rattle.tnet.specs.Rendezvous.{Node}
use Rattle.tprocesses.specs.Places.{Place, Name, WordAt, Sending, Standing, Half, LinkHalf, Life, Successions}
use Rattle.tprocesses.specs.Places.{Population, HasRun, Error, HaltOnError, same_name}
use Rattle.tprocesses.specs.Values.{Value, Context, Stand, Absent, Rests, Runs, IsStand, IsFlag, IsAmount, word_in}
use Rattle.tprocesses.specs.Changes.{Add, apply}
use Rattle.tprocesses.specs.Machine.{awaits_successor}
use Rattle.tseen.specs.Known.{HasRegisters}
use Rattle.tseen.specs.Seats.{Seat, Current, Interrupted, Queued, Waiting, is_taken}
use Rattle.tseen.specs.Outputs.{Pending}
use Rattle.tseen.specs.Words.{ShowsWord, AreSavedWords}
use Rattle.tseen.specs.Processes.{IsSeated, IsGone, HasFlags, KeepsFlags, ShowsProcesses}
use Rattle.tseen.specs.Shown.{ShowsNode}
use Rattle.tseen.proofs.After.{State}
use Rattle.tseen.proofs.Cells.{use_of}
use Rattle.tseen.proofs.Finished.{one_name}
use Rattle.tseen.proofs.Staying.{saved_words_stay, marks_from, channels_stay, link_stays}
use Rattle.tseen.proofs.Counted.{count_at, settled, live_long, live_idle, lives_are, one_more}
use Rattle.tseen.proofs.Missing.{is_missing, queued_there, waiting_there, interrupted_there}
use Rattle.tseen.proofs.Others.{other_name, queued_seated, waiting_seated, interrupted_seated}
use Rattle.tseen.proofs.DispatchShown.{running_named}
use Rattle.tseen.proofs.InputChannels.{descriptors_stay, inputs_stay}
use Rattle.tproc.specs.declared.channels.Side.TheVariants.{Input}

-- a place that changes where a process comes
abbrev pub is_new : ℕ → Name → Place → Bool
is_new n y (Standing z) = same_name y z
is_new n y (Life a w) = n == a
is_new n y (Successions a w) = n == a
is_new n y (Population a) = n == a
is_new n y _ = false

-- a process has come with this context, and runs
pub record HasArrived (n : ℕ) (y : Name) (d : Context) (s s' : State) : Type 0 where
  pub home : y.node ≡ n
  pub absent : s (Standing y) ≡ IsStand Absent
  pub ran : s (HasRun n d.priority) ≡ IsFlag true
  pub stand : s' (Standing y) ≡ IsStand (Runs d)
  pub lives : (w : ℕ) → s' (Life n w) ≡ (if d.wptr == w then apply (Add (pos 1)) (s (Life n w)) else s (Life n w))
  pub population : s' (Population n) ≡ apply (Add (pos 1)) (s (Population n))
  pub others : (q : Place) → is_new n y q ≡ false → s' q ≡ s q

module _ (p : Plan) (plan : NodePlan) (n : ℕ) (s s' : State) (named : Seat → Name) (sent : ℕ → Option Pending)
    (node : Node) (shown : ShowsNode s n plan named sent node) (idle : node.machine.control.current ≡ None)
    (kept : KeepsFlags s n) (y : Name) (level : ℕ) (small : level < 2) (after : Registers)
    (aligned : after.wptr % 4 ≡ 0) (count : ℕ) (d : Context) (knows : HasRegisters level after d)
    (flags : HasFlags s' n after) (plain : d.choice ≡ None) (new : HasArrived n y d s s') where
  abbrev m : Control
  m = node.machine.control

  abbrev m' : Machine
  m' =
      record {
        control = record m { registers = after; current = Some level; count = count };
        store = node.machine.store;
      }

  abbrev node' : Node
  node' = record node { machine = m' }

  abbrev named' : Seat → Name
  named' = running_named y named

  stay : (q : Place) → is_new n y q ≡ false → s' q ≡ s q
  stay q h = new.others q h

  uses : (j : ℕ) → use_of s' n j ≡ use_of s n j
  uses j = ap (λ (v : Value). (word_in v).used) (stay (WordAt n j) refl)

  not_new : (z : Name) (stand : Stand) → s (Standing z) ≡ IsStand stand → is_missing (IsStand stand) ≡ false
      → same_name y z ≡ false
  not_new z stand e h = other_name p s y z Absent stand is_missing new.absent e refl h

  stand_stays : (z : Name) → same_name y z ≡ false → s' (Standing z) ≡ s (Standing z)
  stand_stays z other = stay (Standing z) other

  run_stays : (q : ℕ) → s' (HasRun n q) ≡ s (HasRun n q)
  run_stays q = stay (HasRun n q) refl

  seated : (q : Seat) → is_taken m'.control q ≡ true → IsSeated s' n node' q (named' q)
  seated Current h =
      record {
        home = new.home;
        stand = Runs d;
        stands = new.stand;
        fits = knows;
        has_run = run_stays d.priority ∙ new.ran;
      }
  seated Interrupted h =
      let old : IsSeated s n node Interrupted (named Interrupted) = shown.processes.seated Interrupted h in
      interrupted_seated n y s s' stand_stays run_stays node node' (named Interrupted)
      (not_new (named Interrupted) old.stand old.stands (interrupted_there node old.stand old.fits)) refl old
  seated (Queued b) h =
      let old : IsSeated s n node (Queued b) (named (Queued b)) = shown.processes.seated (Queued b) h in
      queued_seated n y s s' stand_stays run_stays node node' b (named (Queued b))
      (not_new (named (Queued b)) old.stand old.stands (queued_there node b old.stand old.fits)) refl old
  seated (Waiting b) h =
      let old : IsSeated s n node (Waiting b) (named (Waiting b)) = shown.processes.seated (Waiting b) h in
      waiting_seated n y s s' stand_stays run_stays node node' b (named (Waiting b))
      (not_new (named (Waiting b)) old.stand old.stands (waiting_there node b old.stand old.fits))
      (λ f. f) (λ f. f) refl old

  abbrev HasPlace : Name → Type 0
  HasPlace z = IsGone s' n z ⊎ ((q : Seat) × (is_taken m'.control q ≡ true) × (named' q ≡ z))

  placed : (z : Name) → z.node ≡ n → HasPlace z
  placed z h = by (same_name y z) refl
    where
      of : same_name y z ≡ false → IsGone s n z ⊎ ((q : Seat) × (is_taken m q ≡ true) × (named q ≡ z)) → HasPlace z
      of other (inl (inl e)) = inl (inl (stand_stays z other ∙ e))
      of other (inl (inr e)) = inl (inr (stand_stays z other ∙ e))
      of other (inr (Current, taken, e)) =
          let f : false ≡ true = subst (λ (o : Option ℕ). is_some o ≡ true) idle taken in
          absurd (true≢false (sym f))
      of other (inr (Interrupted, taken, e)) = inr (Interrupted, taken, e)
      of other (inr (Queued b, taken, e)) = inr (Queued b, taken, e)
      of other (inr (Waiting b, taken, e)) = inr (Waiting b, taken, e)

      by : (b : Bool) → same_name y z ≡ b → HasPlace z
      by true e = inr (Current, refl, one_name p y z e)
      by false e = of e (shown.processes.there z h)

  lives : (w : ℕ) → s' (Life n w) ≡ IsAmount (pos (count_at w (live m'.control)))
  lives w =
      new.lives w
      ∙ ap (λ (z : Value). if d.wptr == w then apply (Add (pos 1)) z else z)
      (shown.processes.lives w ∙ ap (λ z. IsAmount (pos (count_at w z))) (live_idle m idle))
      ∙ one_more (count_at w (settled m)) (d.wptr == w)
      ∙ ap (λ z. IsAmount (pos (count_at w (settled m) + cond (z == w) 1 0))) knows.wptr
      ∙ ap (λ z. IsAmount (pos z)) (sym (lives_are m'.control level w refl aligned small))

  many : length (live m'.control) ≤ suc (length (live m))
  many =
      omega (
        arith,
        ap length (live_idle m idle),
        live_long m'.control level refl,
      )

  processes_now : ShowsProcesses s' n named' sent node'
  processes_now =
      record {
        seated = seated;
        there = placed;
        lent = λ z a l h e f. shown.processes.lent z a l h (rests_before z a e (same_name y z) refl) f;
        passed = λ l q e h. (let f = shown.processes.passed l q e h in (
          f.0,
          f.1,
          stand_stays q.request.process (not_new q.request.process (Rests f.1) f.2 refl) ∙ f.2,
          f.3,
        ));
        lives = lives;
        population = (
          suc shown.processes.population.0,
          new.population ∙ ap (apply (Add (pos 1))) shown.processes.population.1 ∙ ap IsAmount (omega (arith, ints)),
          omega (arith, many, shown.processes.population.2),
        );
        interrupting = IfSome_then m.interrupted shown.processes.interrupting (λ t e. run_stays 0 ∙ e);
        flags = λ h. flags;
        kept_flags = λ h. IfSome_then m.interrupted (shown.processes.kept_flags kept) (λ t f. record {
          error = stay (Error n) refl ∙ f.error;
          halting = stay (HaltOnError n) refl ∙ f.halting;
        });
      }
    where
      not_rests : (a : Context) → IsStand (Runs d) ≡ IsStand (Rests a) → ⊥
      not_rests a e = cc

      rests_before : (z : Name) (a : Context) → s' (Standing z) ≡ IsStand (Rests a) → (b : Bool) → same_name y z ≡ b
          → s (Standing z) ≡ IsStand (Rests a)
      rests_before z a e false other = sym (stand_stays z other) ∙ e
      rests_before z a e true same =
          absurd (not_rests a (sym new.stand ∙ ap (λ z. s' (Standing z)) (one_name p y z same) ∙ e))

  -- so the node is shown, with the new process as the current one
  pub arrived_shown : ShowsNode s' n plan named' sent node'
  arrived_shown =
      record {
        role = shown.role;
        works = shown.works;
        runs_on = shown.runs_on;
        size = shown.size;
        kind = shown.kind;
        store = λ j h. subst (ShowsWord node.machine.store j) (sym (stay (WordAt n j) refl)) (shown.store j h);
        marks = marks_from s s' n sent sent m m'.control
            (λ w h. saved_words_stay s s' n w (λ j e. stay (WordAt n j) refl)
            (All-contains (AreSavedWords s n) (descheduled m) w shown.marks.saved h))
            (λ l. refl) (λ j e. uses j ∙ e) (λ j. stay (Sending n j) refl ∙ shown.marks.outputs j)
            (λ j. ap awaits_successor (uses j) ∙ shown.marks.no_successor j) shown.marks;
        channels = channels_stay s s' n named named' node.machine m' (λ b. refl) (λ j e. uses j ∙ e)
            (λ j e. sym (uses j) ∙ e) (λ a side. stay (Half n a side) refl) (λ q. refl) refl (λ a h e. refl)
            shown.channels;
        links = λ l h. link_stays s s' n named named' sent node node' l (λ b. refl)
            (λ side. stay (LinkHalf (end_at n l) side) refl) (stay (Unfinished (end_at n l)) refl)
            (descriptors_stay s s' n m.links node.machine.store shown.choices alternatives l h) refl refl
            (shown.links l h);
        processes = processes_now;
        choices = choices_stay s s' n m.links m.links node.machine.store node.machine.store
            (inputs_stay s s' n m.links m.links (λ l. stay (LinkHalf (end_at n l) Input) refl) refl) alternatives
            (λ z h e. quiet_alike p s s' n y stand_stays quiet_now z e) (λ z h. stay (Ports z) refl)
            (λ a side. stay (Half n a side) refl) (λ j e z. ap amount_in (stay (Sending n j) refl) ∙ z)
            (λ j e. stay (WordAt n j) refl) refl (λ a e f. refl) shown.choices;
      }
    where
      standing_now : alternative_at s' n y ≡ None
      standing_now = ap (λ (v : Value). alternative_of (stand_in v)) new.stand ∙ alternative_none true false d plain

      standing_before : alternative_at s n y ≡ None
      standing_before = ap (λ (v : Value). alternative_of (stand_in v)) new.absent

      quiet_now : is_quiet (stand_in (s' (Standing y))) ≡ true
      quiet_now = ap (λ (v : Value). is_quiet (stand_in v)) new.stand

      alternatives : (z : Name) → z.node ≡ n → alternative_at s' n z ≡ alternative_at s n z
      alternatives z h = stands_alike p s s' n y stand_stays (standing_now ∙ sym standing_before) z
