-- A jump at which a process yields is seen as the jump alone.
use Rattle.tprocesses.specs.Places.{Sending, Unfinished}
use Rattle.tprocesses.specs.Values.{amount_in}
use Rattle.tseen.proofs.YieldWords.{words}
use Rattle.tseen.proofs.SavedThen.{third_free}
use Rattle.std.proofs.Common.{is_none, ◌||◌}
use Rattle.tprocesses.specs.Values.{stand_in}
use Rattle.tprocesses.specs.Places.{Ports}
use Rattle.tseen.specs.Choices.{alternative_of, alternative_at, is_quiet}
use Rattle.tseen.proofs.Choices.{is_lasting, lasting_not_free, stands_alike, quiet_alike}
use Rattle.tseen.proofs.Choices.{alternative_none, no_choice_moved, choices_stay}
use Rattle.std.proofs.Common.{◌≡◌, ◌≢◌, ℕ, zero, suc, ◌+◌, ◌<◌, ◌≤◌, ◌%◌, refl, sym, ap, subst, ◌∙◌, List, [], ◌∷◌}
use Rattle.std.proofs.Common.{◌++◌, Bool, true, false, true≢false, length, length-append, Contains, Ok, Option, Some}
use Rattle.std.proofs.Common.{None, arith, ◌⊎◌, inl, inr, map, pos, cond}
use Rattle.std.specs.Prelude.{◌==◌}
use Rattle.std.specs.List.{sum_by}
use Rattle.std.proofs.lemmas.Bool.{eq-eqb, eqb-true, ne_eqb, cases_eq, or_cases, or_left, or_right}
use Rattle.std.proofs.lemmas.List.Folds.{list_any-append}
use Rattle.std.proofs.lemmas.List.Sums.{sum_by-append}
use Rattle.std.proofs.lemmas.List.Elements.{All-contains}
use Rattle.tword.specs.Words.{word_below}
use Rattle.tword.specs.Stores.{Store, word_at}
use Rattle.tword.specs.Actions.{run}
use Rattle.tcode.specs.declared.instruction.Instruction.{Instruction}
use Rattle.tcode.specs.Decoding.{decode}
use Rattle.tcpu.specs.declared.registers.Next.TheVariants.{Jumped}
use Rattle.tcpu.specs.Outcomes.{Outcome}
use Rattle.tproc.specs.declared.ran.Ran.TheVariants as ran
use Rattle.tproc.specs.Machine.{Control, Machine, claims_of, descheduled, workspace_of, priority_of}
use Rattle.tproc.specs.ProcessStatus.{live, queue, is_among, is_queued}
use Rattle.tproc.specs.Queues.{iptr_word}
use Rattle.tproc.specs.SavedWords.{WordStands, SavedStand}
use Rattle.tproc.proofs.SavedWords.{saved_words_stand}
use Rattle.tplan.specs.declared.plan.Plan.{Plan}
use Rattle.tplan.specs.Wires.{end_at}
use Rattle.tnet.specs.Rendezvous.{Node, Configuration}
use Rattle.tprocesses.specs.Places.{Place, Name, Standing, Half, LinkHalf, Error, HaltOnError, Life, Population, HasRun}
use Rattle.tprocesses.specs.Places.{same_name}
use Rattle.tprocesses.specs.Values.{Value, Use, Free, Saved, Engaged, Context, Lent, Stand, Rests, Runs, IsStand}
use Rattle.tprocesses.specs.Values.{IsAmount, word_in}
use Rattle.tprocesses.specs.Performing.{Performed}
use Rattle.tprocesses.specs.Touching.{Site, save, kept}
use Rattle.tprocesses.specs.Instructions.{jumped}
use Rattle.tprocesses.specs.Standing.{forget}
use Rattle.tprocesses.specs.Machine.{site_of}
use Rattle.tseen.specs.Seats.{Seat, Current, Interrupted, Queued, Waiting, is_taken}
use Rattle.tseen.specs.Processes.{IsSeated, IsGone, ShowsProcesses}
use Rattle.tseen.specs.Shown.{ShowsNode}
use Rattle.tseen.specs.Steps.{IsCurrent, LeadsTo, yields, YieldsAreSeen}
use Rattle.tseen.proofs.After.{State, After, after_bind, after_step}
use Rattle.tseen.proofs.Cells.{use_of, shows_from}
use Rattle.tseen.proofs.Written.{is_word_of}
use Rattle.tseen.proofs.Finished.{is_stand_of, IsFlagged, HasMoved, StandsNow, moved, stands_then, place_itself}
use Rattle.tseen.proofs.Finished.{one_name}
use Rattle.tseen.proofs.Completed.{is_own}
use Rattle.tseen.proofs.Running.{RunsThere, low_alone}
use Rattle.tseen.proofs.Nets.{chosen}
use Rattle.tseen.proofs.Staying.{channels_stay, link_stays}
use Rattle.tseen.proofs.Counted.{count_at, live_long, live_idle, lives_are, settled_alone, moved_count}
use Rattle.tseen.proofs.Counted.{waits_descheduled, queued_descheduled}
use Rattle.tseen.proofs.Stepped.{shown_node, there, step_then, Executed, left, next_is, one_next, leads_there}
use Rattle.tseen.proofs.Stepped.{elsewhere_if}
use Rattle.tseen.proofs.Saving.{no_word, IsSaved, save_then}
use Rattle.tseen.proofs.Jumps.{resting, go_not_jumped, scheduled_not_jumped, same_level}
use Rattle.tseen.proofs.Others.{other_name, queued_seated, waiting_seated, is_running, queued_not_running}
use Rattle.tseen.proofs.Others.{waiting_not_running}
use Rattle.tseen.proofs.Yielding.{made, stepped, aligned, iptr_there, hidden_still, size_after}
use Rattle.tseen.proofs.YieldWords.{at, used, unfree, tells_now, lasting_stays, marks_now, new_there}
use Rattle.tseen.proofs.InputChannels.{descriptors_stay, inputs_stay}
use Rattle.tproc.specs.declared.channels.Side.TheVariants.{Input, Output}
use Rattle.tseen.proofs.NoticedOffers.{outputs_stay}

-- names where a process has another seat
abbrev pub renamed : (process : ℕ) → Name → (Seat → Name) → Seat → Name
renamed process x named (Queued q) = chosen (q == process) x (named (Queued q))
renamed process x named q = named q

module _ (p : Plan) (c : Configuration) (s : State) (n : ℕ) (x : Name) (k : IsCurrent p c s n x) (i : Instruction)
    (decodes : run (decode k.node.machine.control.kind k.node.machine.control.registers.iptr) k.node.machine.store
    (claims_of k.node.machine.control) ≡ Ok (i, k.node.machine.store)) (pp : Performed Outcome) (t : State)
    (d : Executed p c s n x k i pp t) (jumps : d.next ≡ Jumped) (low : (there p c s n x k).level ≡ 1)
    (yields_now : yields k.node.machine.control ≡ true) (u v : State)
    (moved_on : HasMoved (site_of n k.plan) (there p c s n x k).context.wptr d.after.wptr t u)
    (saved : IsSaved (site_of n k.plan) (there p c s n x k).whole u v d.after.wptr kept) (s' : State)
    (rests : StandsNow (site_of n k.plan) x (Rests (resting p c s n x k i decodes pp t d jumps low)) v s')
    (still : (is_none (there p c s n x k).context.choice || ((there p c s n x k).context.wptr == d.after.wptr)) ≡ true)
    (flagged : IsFlagged n d.after.error d.after.halt_on_error t t) where
  abbrev m : Control
  m = k.node.machine.control

  abbrev w : ℕ
  w = d.after.wptr

  abbrev site : Site
  site = site_of n k.plan

  abbrev running : RunsThere s n k.plan k.node x
  running = there p c s n x k

  none : m.interrupted ≡ None
  none = low_alone k.node.machine k.steady.placed (running.current ∙ ap Some low)

  abbrev rest : Context
  rest = resting p c s n x k i decodes pp t d jumps low

  abbrev now : Machine
  now = made p c s n x k i decodes pp t d jumps low yields_now u v moved_on saved

  abbrev node' : Node
  node' = record k.node { machine = now }

  abbrev named : Seat → Name
  named = k.shows.named n

  abbrev named' : Seat → Name
  named' = renamed (w + 1) x named

  aligned_now : w % 4 ≡ 0
  aligned_now = aligned p c s n x k i decodes pp t d jumps low yields_now u v moved_on saved

  own_workspace : workspace_of (w + 1) ≡ w
  own_workspace = omega (arith, aligned_now)

  own_priority : priority_of (w + 1) ≡ 1
  own_priority = omega (arith, aligned_now)

  stay : (q : Place) → is_own n x q ≡ false → is_word_of n q ≡ false → s' q ≡ s q
  stay = at p c s n x k i decodes pp t d jumps low yields_now u v moved_on saved rest s' rests

  stands : SavedStand k.node.machine now
  stands =
      (saved_words_stand k.node.machine k.steady.placed).steps now ran.Instruction
      (stepped p c s n x k i decodes pp t d jumps low yields_now u v moved_on saved)

  iptr_stays : (a : ℕ) → Contains (descheduled m) a
      → word_at now.store (word_below a iptr_word) ≡ word_at k.node.machine.store (word_below a iptr_word)
  iptr_stays a h = All-contains (λ a. WordStands iptr_word a k.node.machine now) (descheduled m) a stands.iptrs h

  -- a process that was queued is queued still, and no other but this one is new
  still_queued : (process : ℕ) → is_queued m process ≡ true → is_queued now.control process ≡ true
  still_queued process h = by (priority_of process) h
    where
      by : (q : ℕ) → is_among (workspace_of process) (queue m q) ≡ true
          → is_among (workspace_of process) (queue now.control q) ≡ true
      by zero h = h
      by (suc q) h =
          list_any-append (λ a. a == workspace_of process) m.low (w ∷ [])
          ∙ or_left (is_among (workspace_of process) m.low) _ h

  was_queued : (process : ℕ) → process ≢ w + 1 → is_queued now.control process ≡ true → is_queued m process ≡ true
  was_queued process other h = by (priority_of process) refl h
    where
      of_low : (q : ℕ) → priority_of process ≡ suc q
          → (is_among (workspace_of process) m.low ≡ true) ⊎ (is_among (workspace_of process) (w ∷ []) ≡ true)
          → is_among (workspace_of process) m.low ≡ true
      of_low q e (inl h) = h
      of_low q e (inr h) = by_own (or_cases (w == workspace_of process) false h)
        where
          by_own : ((w == workspace_of process) ≡ true) ⊎ (false ≡ true)
              → is_among (workspace_of process) m.low ≡ true
          by_own (inl f) = absurd (other (omega (arith, eqb-true _ _ f, e)))
          by_own (inr f) = absurd (true≢false (sym f))

      by : (q : ℕ) → priority_of process ≡ q → is_among (workspace_of process) (queue now.control q) ≡ true
          → is_among (workspace_of process) (queue m q) ≡ true
      by zero e h = h
      by (suc q) e h =
          of_low q e (or_cases _ _ (sym (list_any-append (λ a. a == workspace_of process) m.low (w ∷ [])) ∙ h))

  queued_now : is_queued now.control (w + 1) ≡ true
  queued_now =
      subst (λ a. is_among a (queue now.control (priority_of (w + 1))) ≡ true) (sym own_workspace)
      (subst (λ q. is_among w (queue now.control q) ≡ true) (sym own_priority)
      (list_any-append (λ a. a == w) m.low (w ∷ [])
      ∙ or_right (is_among w m.low) _ (or_left (w == w) false (eq-eqb w w refl))))

  -- its own seat
  own_seated : (process : ℕ) → process ≡ w + 1 → IsSeated s' n node' (Queued process) x
  own_seated process e =
      record {
        home = running.home;
        stand = Rests rest;
        stands = rests.is;
        fits = record {
          priority = d.knows.priority ∙ low ∙ sym (ap priority_of e ∙ own_priority);
          wptr = d.knows.wptr ∙ sym (ap workspace_of e ∙ own_workspace);
          iptr = d.knows.iptr
              ∙ sym (ap (λ a. word_at now.store (word_below a iptr_word)) (ap workspace_of e ∙ own_workspace)
              ∙ iptr_there p c s n x k i decodes pp t d jumps low yields_now u v moved_on saved);
          a = tt;
          b = tt;
          c = tt;
        };
        has_run = stay (HasRun n rest.priority) refl refl
            ∙ ap (λ q. s (HasRun n q)) d.knows.priority ∙ running.has_run;
      }

  not_this : (y : Name) (stand : Stand) → s (Standing y) ≡ IsStand stand → is_running (IsStand stand) ≡ false
      → same_name x y ≡ false
  not_this y stand e h = other_name p s x y (Runs running.context) stand is_running running.stood e refl h

  seated : (q : Seat) → is_taken now.control q ≡ true → IsSeated s' n node' q (named' q)
  seated Current h = absurd (true≢false (sym h))
  seated Interrupted h = let f : false ≡ true = rw none at h in absurd (true≢false (sym f))
  seated (Queued process) h = by (cases_eq process (w + 1))
    where
      by : (process ≡ w + 1) ⊎ (process ≡ w + 1 → ⊥) → IsSeated s' n node' (Queued process) (named' (Queued process))
      by (inl e) = rw (eq-eqb process (w + 1) e) (own_seated process e)
      by (inr e) =
          let taken : is_queued m process ≡ true = was_queued process e h in
          let old : IsSeated s n k.node (Queued process) (named (Queued process)) =
          (shown_node p c s n x k).processes.seated (Queued process) taken in
          rw (ne_eqb process (w + 1) e)
          (queued_seated n x s s' (λ y h. stay (Standing y) h refl) (λ q. stay (HasRun n q) refl refl)
          k.node node' process (named (Queued process))
          (not_this (named (Queued process)) old.stand old.stands
          (queued_not_running k.node process old.stand old.fits))
          (iptr_stays (workspace_of process) (queued_descheduled m process taken)) old)
  seated (Waiting process) h =
      let old : IsSeated s n k.node (Waiting process) (named (Waiting process)) =
      (shown_node p c s n x k).processes.seated (Waiting process) h in
      waiting_seated n x s s' (λ y h. stay (Standing y) h refl) (λ q. stay (HasRun n q) refl refl)
      k.node node' process (named (Waiting process))
      (not_this (named (Waiting process)) old.stand old.stands (waiting_not_running k.node process old.stand old.fits))
      (λ f. f) (λ f. f) (iptr_stays (workspace_of process) (waits_descheduled m process h)) old

  abbrev HasPlace : Name → Type 0
  HasPlace y = IsGone s' n y ⊎ ((q : Seat) × (is_taken now.control q ≡ true) × (named' q ≡ y))

  placed : (y : Name) → y.node ≡ n → HasPlace y
  placed y h = by (same_name x y) refl
    where
      itself : (z : Name) → same_name z z ≡ true
      itself z = place_itself p (Standing z)

      of : same_name x y ≡ false
          → IsGone s n y ⊎ ((q : Seat) × (is_taken m q ≡ true) × (named q ≡ y)) → HasPlace y
      of other (inl (inl e)) = inl (inl (stay (Standing y) other refl ∙ e))
      of other (inl (inr e)) = inl (inr (stay (Standing y) other refl ∙ e))
      of other (inr (Current, taken, e)) =
          absurd (true≢false (sym (itself x) ∙ ap (same_name x) (sym k.name ∙ e) ∙ other))
      of other (inr (Interrupted, taken, e)) =
          let f : false ≡ true = rw none at taken in absurd (true≢false (sym f))
      of other (inr (Waiting process, taken, e)) = inr (Waiting process, taken, e)
      of other (inr (Queued process, taken, e)) =
          inr (
            Queued process,
            still_queued process taken,
            rw (ne_eqb process (w + 1)
                (λ f. new_there p c s n x k i decodes pp t d jumps low yields_now u v moved_on saved rest s' rests
                (workspace_of process) (queued_descheduled m process taken) (ap workspace_of f ∙ own_workspace))) e,
          )

      by : (b : Bool) → same_name x y ≡ b → HasPlace y
      by true e =
          inr (Queued (w + 1), queued_now, rw (eq-eqb (w + 1) (w + 1) refl) (one_name p x y e))
      by false e = of e ((shown_node p c s n x k).processes.there y h)

  -- how many live
  counted_now : (a : ℕ) → count_at a (live now.control) ≡ count_at a (descheduled m) + cond (w == a) 1 0
  counted_now a =
      ap (count_at a) live_now
      ∙ sum_by-append f (m.high ++ (m.low ++ w ∷ [])) waiting
      ∙ ap (λ z. z + sum_by f waiting) (sum_by-append f m.high (m.low ++ w ∷ [])
      ∙ ap (λ z. sum_by f m.high + z) (sum_by-append f m.low (w ∷ [])))
      ∙ sym (ap (λ z. z + cond (w == a) 1 0) (sum_by-append f (m.high ++ m.low) waiting
      ∙ ap (λ z. z + sum_by f waiting) (sum_by-append f m.high m.low)) ∙ omega arith)
    where
      f : ℕ → ℕ
      f v = cond (v == a) 1 0

      waiting : List ℕ
      waiting = map (λ y. workspace_of y.process) m.waiting

      live_now : live now.control ≡ (m.high ++ (m.low ++ w ∷ [])) ++ waiting
      live_now = live_idle now.control refl ∙ settled_alone now.control none

  lives : (a : ℕ) → s' (Life n a) ≡ IsAmount (pos (count_at a (live now.control)))
  lives a =
      rests.others (Life n a) refl ∙ saved.set.rest (Life n a) (no_word n w (Life n a) refl) ∙ moved_on.lives a
      ∙ ap (moved site running.context.wptr w a)
      (d.on.keeps.others (Life n a) refl ∙ (shown_node p c s n x k).processes.lives a
      ∙ ap (λ z. IsAmount (pos z)) (lives_are m running.level a running.current aligned_before
      running.small
      ∙ ap (λ (ws : List ℕ). count_at a ws + cond (m.registers.wptr == a) 1 0) (settled_alone m none)
      ∙ ap (λ z. count_at a (descheduled m) + cond (z == a) 1 0) (sym running.registers.wptr)))
      ∙ moved_count site running.context.wptr w a (count_at a (descheduled m))
      ∙ ap (λ z. IsAmount (pos z)) (sym (counted_now a))
    where
      aligned_before : m.registers.wptr % 4 ≡ 0
      aligned_before = eqb-true _ _ k.steady.placed.words.aligned

  many : length (live now.control) ≡ length (live m)
  many =
      ap length (live_idle now.control refl ∙ settled_alone now.control none)
      ∙ length-append (m.high ++ (m.low ++ w ∷ [])) waiting
      ∙ ap (λ z. z + length waiting) (length-append m.high (m.low ++ w ∷ [])
      ∙ ap (λ z. length m.high + z) (length-append m.low (w ∷ [])))
      ∙ sym (live_long m running.level running.current ∙ ap (λ (ws : List ℕ). suc (length ws)) (settled_alone m none)
      ∙ ap suc (length-append (m.high ++ m.low) waiting
      ∙ ap (λ z. z + length waiting) (length-append m.high m.low)) ∙ omega arith)
    where
      waiting : List ℕ
      waiting = map (λ y. workspace_of y.process) m.waiting

  -- the processes
  processes_now : ShowsProcesses s' n named' (k.shows.sent n) node'
  processes_now =
      record {
        seated = seated;
        there = placed;
        lent = λ y a l h e f. lent y a l h e f (same_name x y) refl;
        passed = λ l q e h. (let f = (shown_node p c s n x k).processes.passed l q e h in (
          f.0,
          f.1,
          stay (Standing q.request.process) (not_this q.request.process (Rests f.1) f.2 refl) refl ∙ f.2,
          f.3,
        ));
        lives = lives;
        population = (
          (shown_node p c s n x k).processes.population.0,
          stay (Population n) refl refl ∙ (shown_node p c s n x k).processes.population.1,
          subst (λ z. z ≤ (shown_node p c s n x k).processes.population.0) (sym many)
              (shown_node p c s n x k).processes.population.2,
        );
        interrupting = rw none tt;
        flags = λ h. record {
          error = to_jump (Error n) refl refl ∙ moved_on.others (Error n) refl ∙ flagged.error;
          halting = to_jump (HaltOnError n) refl refl ∙ moved_on.others (HaltOnError n) refl ∙ flagged.halting;
        };
        kept_flags = λ h. rw none tt;
      }
    where
      to_jump : (q : Place) → is_stand_of x q ≡ false → is_word_of n q ≡ false → s' q ≡ u q
      to_jump q a b = rests.others q a ∙ saved.set.rest q (no_word n w q b)

      same_lent : (a : Context) → IsStand (Rests rest) ≡ IsStand (Rests a) → a.lent ≡ rest.lent
      same_lent a e = sym (ap lent_in e)
        where
          lent_in : Value → Option Lent
          lent_in (IsStand (Rests b)) = b.lent
          lent_in _ = None

      lent : (y : Name) (a : Context) (l : Lent) → y.node ≡ n → s' (Standing y) ≡ IsStand (Rests a)
          → a.lent ≡ Some l → (b : Bool) → same_name x y ≡ b
          → (l.link < 4) × (k.shows.sent n l.link
          ≡ Some (record { request = record { process = y; buffer = l.buffer }; copied = true }))
      lent y a l h e f false other =
          (shown_node p c s n x k).processes.lent y a l h
          (sym (stay (Standing y) other refl) ∙ e) f
      lent y a l h e f true same =
          let g : None ≡ Some l =
          sym running.registers.nothing_lent
          ∙ sym (same_lent a (sym rests.is ∙ ap (λ z. s' (Standing z)) (one_name p x y same) ∙ e)) ∙ f in cc

  not_engaged : {a : Use} → a ≡ Saved → a ≡ Engaged → ⊥
  not_engaged e f = differ (sym e ∙ f)
    where
      differ : Saved ≡ Engaged → ⊥
      differ e = cc

  engaged_free : {a : Use} → a ≡ Engaged → a ≡ Free → ⊥
  engaged_free e f = differ (sym e ∙ f)
    where
      differ : Engaged ≡ Free → ⊥
      differ e = cc

  engaged_back : (j : ℕ) → use_of s' n j ≡ Engaged
      → (use_of s' n j ≡ Saved) ⊎ (use_of s' n j ≡ use_of s n j) → use_of s n j ≡ Engaged
  engaged_back j e (inl f) = absurd (not_engaged f e)
  engaged_back j e (inr f) = sym f ∙ e

  -- so the node is shown
  node_now : ShowsNode s' n k.plan named' (k.shows.sent n) node'
  node_now =
      record {
        role = (shown_node p c s n x k).role;
        works = (shown_node p c s n x k).works;
        runs_on = (shown_node p c s n x k).runs_on;
        size = size_after p c s n x k i decodes pp t d jumps low yields_now u v moved_on saved;
        kind = (shown_node p c s n x k).kind;
        store = shows_from s' n k.plan.memory now.store
            (tells_now p c s n x k i decodes pp t d jumps low yields_now u v moved_on saved rest s' rests);
        marks = marks_now p c s n x k i decodes pp t d jumps low yields_now u v moved_on saved rest s' rests;
        channels = channels_stay s s' n named named' k.node.machine now (λ a. refl)
            (λ j e. ap (λ (z : Value). (word_in z).used)
            (unfree p c s n x k i decodes pp t d jumps low yields_now u v moved_on saved rest s' rests j
            (engaged_free e)) ∙ e)
            (λ j e. engaged_back j e
            (used p c s n x k i decodes pp t d jumps low yields_now u v moved_on saved rest s' rests j))
            (λ a side. stay (Half n a side) refl refl) (λ q. refl)
            (size_after p c s n x k i decodes pp t d jumps low yields_now u v moved_on saved
            ∙ sym (shown_node p c s n x k).size)
            (λ a h e. lasting_stays p c s n x k i decodes pp t d jumps low yields_now u v moved_on saved rest s' rests
            a h (ap is_lasting e))
            (shown_node p c s n x k).channels;
        links = λ l h. link_stays s s' n named named' (k.shows.sent n) k.node node' l (λ a. refl)
            (λ side. stay (LinkHalf (end_at n l) side) refl refl) (stay (Unfinished (end_at n l)) refl refl)
            (descriptors_stay s s' n m.links k.node.machine.store (shown_node p c s n x k).choices alternatives l h)
            refl refl ((shown_node p c s n x k).links l h);
        processes = processes_now;
        choices = choices_stay s s' n m.links m.links k.node.machine.store now.store
            (inputs_stay s s' n m.links m.links (λ l. stay (LinkHalf (end_at n l) Input) refl refl) refl) alternatives
            (λ y h e. quiet_alike p s s' n x (λ y other. stay (Standing y) other refl) quiet_now y e)
            (λ y h. stay (Ports y) refl refl) (λ a side. stay (Half n a side) refl refl)
            (λ j e z. ap amount_in (stay (Sending n j) refl refl) ∙ z)
            (λ j e. unfree p c s n x k i decodes pp t d jumps low yields_now u v moved_on saved rest s' rests j
            (lasting_not_free e))
            (size_after p c s n x k i decodes pp t d jumps low yields_now u v moved_on saved
            ∙ sym (shown_node p c s n x k).size)
            (lasting_stays p c s n x k i decodes pp t d jumps low yields_now u v moved_on saved rest s' rests)
            (shown_node p c s n x k).choices;
      }
    where
      no_alternative : running.context.choice ≡ None
      no_alternative =
          no_choice_moved s n m.links k.node.machine.store x running.context d.after.wptr
          (shown_node p c s n x k).choices running.home running.stood still
          (third_free (words p c s n x k i decodes pp t d jumps low yields_now u v moved_on saved rest s' rests))

      alternative_now : alternative_at s' n x ≡ None
      alternative_now = ap (λ (z : Value). alternative_of (stand_in z)) rests.is

      alternative_before : alternative_at s n x ≡ None
      alternative_before =
          ap (λ (z : Value). alternative_of (stand_in z)) running.stood
          ∙ alternative_none true false running.context no_alternative

      quiet_now : is_quiet (stand_in (s' (Standing x))) ≡ true
      quiet_now = ap (λ (z : Value). is_quiet (stand_in z)) rests.is ∙ ap is_none no_alternative

      alternatives : (y : Name) → y.node ≡ n → alternative_at s' n y ≡ alternative_at s n y
      alternatives y h =
          stands_alike p s s' n x (λ y other. stay (Standing y) other refl)
          (alternative_now ∙ sym alternative_before) y

  pub yield_leads : LeadsTo p c n s'
  yield_leads =
      leads_there p c s n x k now s' named' (k.shows.sent n)
      (stepped p c s n x k i decodes pp t d jumps low yields_now u v moved_on saved)
      (ap (λ (z : Store). record { control = now.control; store = z })
      (hidden_still p c s n x k i decodes pp t d jumps low yields_now u v moved_on saved))
      node_now (elsewhere_if n x s s' running.home stay)
      (outputs_stay s s' n k.node node' (λ l. stay (LinkHalf (end_at n l) Output) refl refl) (λ l. refl))

-- jumps at which a process yields are seen
pub yields_are_seen : YieldsAreSeen
yields_are_seen p c s s' n x k next low yields_now makes =
    after_step p x s s' (λ _ s'. LeadsTo p c n s') makes (step_then p c s n x k (λ _ s'. LeadsTo p c n s')
    (λ i decodes pp t. record {
      goes = λ d e u f. absurd (go_not_jumped (sym e ∙ one_next (sym (next_is p c s n x k i pp t decodes d) ∙ next)));
      schedules = λ d o e u f.
          absurd (scheduled_not_jumped o (sym e ∙ one_next (sym (next_is p c s n x k i pp t decodes d) ∙ next)));
      jumps = λ d e u m f still.
          subst (λ q. After (jumped q (site_of n k.plan) x (left p c s n x k i pp)) u (λ _ s'. LeadsTo p c n s'))
          (sym (d.knows.priority ∙ level))
          (after_bind (save (site_of n k.plan) (left p c s n x k i pp).wptr kept) _ u (λ _ s'. LeadsTo p c n s')
          (save_then (site_of n k.plan) (there p c s n x k).whole (left p c s n x k i pp).wptr kept u _ (λ v saved.
          stands_then (site_of n k.plan) p x (Rests (forget (left p c s n x k i pp))) v (λ _ s'. LeadsTo p c n s')
          (λ s' rests.
          yield_leads p c s n x k i decodes pp t d e level yields_now u v m
          (subst (λ w. IsSaved (site_of n k.plan) (there p c s n x k).whole u v w kept) d.knows.wptr saved) s' rests
          still f))));
    }))
  where
    level : (there p c s n x k).level ≡ 1
    level = same_level (sym (there p c s n x k).current ∙ low)
