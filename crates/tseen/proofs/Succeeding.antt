-- The last `endp` at a count, and the step of the successor, are seen.
use Rattle.std.proofs.Common.{◌≡◌, ◌≢◌, ℕ, suc, ◌+◌, ◌*◌, ◌<◌, ◌≤◌, ◌%◌, ◌^◌, refl, sym, ap, subst, ◌∙◌, [], Bool, true}
use Rattle.std.proofs.Common.{false, true≢false, Ok, Option, Some, None, arith, ◌⊎◌, inl, inr, ◌||◌, not, cond}
use Rattle.std.specs.Prelude.{◌==◌, if◌then◌else◌}
use Rattle.std.specs.Int.{w32, from_le_bytes}
use Rattle.std.proofs.lemmas.Bool.{eq-eqb, eqb-true, ne_eqb}
use Rattle.tword.specs.Words.{most_neg, plus}
use Rattle.tword.specs.Stores.{Store, place, word_at, with_word, shown}
use Rattle.tword.specs.Touches.{Reads}
use Rattle.tcpu.specs.declared.registers.Registers.{Registers}
use Rattle.tproc.specs.declared.ran.Ran.TheVariants as ran
use Rattle.tproc.specs.Machine.{Control, Machine, claims_of}
use Rattle.tproc.specs.ProcessStatus.{is_live, live}
use Rattle.tproc.specs.Queues.{at_rest}
use Rattle.tproc.specs.Steps.{step}
use Rattle.tplan.specs.declared.plan.Plan.{Plan}
use Rattle.tnet.specs.Rendezvous.{Configuration}
use Rattle.tprocesses.specs.Places.{Place, Name, After as Succeeds, WordAt, Standing, Life, Successions, Population}
use Rattle.tprocesses.specs.Places.{HasRun, Error, HaltOnError, FlagChanged, LinkHalf}
use Rattle.tprocesses.specs.Values.{Value, Free, Last, Spoilt, Runs, IsWord, IsFlag, IsCount, word_in, amount_in}
use Rattle.tprocesses.specs.Values.{count_in}
use Rattle.tprocesses.specs.Changes.{Put, Raise, apply, are_known, known_word, free_word, used_word}
use Rattle.tprocesses.specs.Parts.{Doing, see, change, ◌>>=◌, ◌>>◌}
use Rattle.tprocesses.specs.Touching.{word_number, touch_word_at, unsent, is_zero}
use Rattle.tprocesses.specs.Standing.{known, fresh, comes}
use Rattle.tprocesses.specs.Scheduling.{successor_workspace, goes_on_after, successor_step}
use Rattle.tprocesses.specs.Machine.{Successor, step_of}
use Rattle.tseen.specs.Known.{HasRegisters}
use Rattle.tseen.specs.Processes.{KeepsFlags}
use Rattle.tseen.specs.Steps.{IsCurrent, LeadsTo}
use Rattle.tseen.specs.Ended.{LastEndsAreSeen, SuccessorsAreDue}
use Rattle.tseen.specs.AgentSteps.{HasStep}
use Rattle.tseen.proofs.After.{State, changed, After, after_bind, after_agent_step}
use Rattle.tseen.proofs.Among.{none_among}
use Rattle.tseen.proofs.Missing.{absent_is}
use Rattle.tseen.proofs.Cells.{word_of, use_of}
use Rattle.tseen.proofs.Spans.{word_placed}
use Rattle.tseen.proofs.Written.{changed_there}
use Rattle.tseen.proofs.Writing.{touch_word_at_then}
use Rattle.tseen.proofs.Stored.{word_known}
use Rattle.tseen.proofs.Frames.{node_at}
use Rattle.tseen.proofs.Counted.{count_at, settled, lives_are}
use Rattle.tseen.proofs.Stepped.{leads_there}
use Rattle.tseen.proofs.Leaving.{HasLeft, left_shown, left_hides, left_elsewhere, left_lives, left_stays, iptrs_stay}
use Rattle.tseen.proofs.Coming.{HasCome, comes_then}
use Rattle.tseen.proofs.Arriving.{HasArrived, is_new, arrived_shown}
use Rattle.tseen.proofs.Ends.{HasCounted, number, a, m, store, site, running, left, at_end, last_run, ends_counted}
use Rattle.tseen.proofs.Ends.{unsent_then, other_word_counted, count_lies, counted, lowered}
use Rattle.tseen.proofs.DispatchShown.{running_named}
use Rattle.tseen.proofs.Ended.{has_left, reads_there, writes_there, due, spoilt_then}
use Rattle.tseen.proofs.NoticedOffers.{outputs_stay}
use Rattle.tproc.specs.declared.channels.Side.TheVariants.{Output}
use Rattle.tplan.specs.Wires.{end_at}

-- a word that is known is that of its bytes
known_is : (cells : Store) (v : ℕ) → known_word cells ≡ Some v
    → (are_known cells ≡ true) × (v ≡ from_le_bytes w32 (shown cells))
known_is cells v = by (are_known cells) refl
  where
    by : (b : Bool) → are_known cells ≡ b → (if b then Some (from_le_bytes w32 (shown cells)) else None) ≡ Some v
        → (are_known cells ≡ true) × (v ≡ from_le_bytes w32 (shown cells))
    by true e f = (e, sym (same f))
      where
        same : {i j : ℕ} → Some i ≡ Some j → i ≡ j
        same e = cc
    by false e f = cc

-- the workspace of the successor, from the number of its count
workspace_is : (b number : ℕ) → b < 2 ^ 32 → most_neg ≤ b → most_neg ≤ plus b 4 → place (plus b 4) ≡ 4 * number
    → (successor_workspace number ≡ b) × (4 * number ≡ place b + 4)
workspace_is b number small from above at =
    (omega (arith, small, from, above, at), omega (arith, small, from, above, at))

module _ (p : Plan) (c : Configuration) (s : State) (n : ℕ) (x : Name) (k : IsCurrent p c s n x) (z : State)
    (h : HasCounted p c s n x k z) (free : use_of h.before n (number p c s n x k) ≡ Free)
    (is_last : z (WordAt n (number p c s n x k)) ≡ IsWord (used_word (Last (running p c s n x k).level)))
    (one : left p c s n x k ≡ 1) where
  abbrev here : ℕ
  here = number p c s n x k

  abbrev level : ℕ
  level = (running p c s n x k).level

  abbrev control : Control
  control = m p c s n x k

  abbrev old : Store
  old = store p c s n x k

  abbrev last : Store
  last = with_word old (plus (a p c s n x k) 4) 0

  -- the workspace and the name of the successor
  abbrev w : ℕ
  w = successor_workspace here

  abbrev earlier : ℕ
  earlier = count_in (z (Successions n w))

  abbrev successor : Name
  successor = record { node = n; root = Succeeds w earlier; path = [] }

  workspace : (w ≡ a p c s n x k) × (4 * here ≡ place (a p c s n x k) + 4)
  workspace =
      let lies = count_lies p c s n x k z h in
      workspace_is (a p c s n x k) here k.steady.placed.words.a h.read.above lies.1 lies.0

  -- the states of its step: the count is freed, and the successor counted
  abbrev freed : State
  freed = changed (WordAt n here) (Put (IsWord (free_word 0))) z

  abbrev counted_on : State
  counted_on = changed (Successions n w) (Put (IsCount (suc earlier))) freed

  the_left : HasLeft p c s n x k freed last
  the_left =
      has_left p c s n x k z h free freed 0 (changed_there n here (Put (IsWord (free_word 0))) z) (λ q e. rw e refl)

  -- it goes on at the address that the store has
  iptr_there : (iptr : ℕ) → known_word (word_of z n (word_number w)).cells ≡ Some iptr
      → iptr ≡ word_at old (a p c s n x k)
  iptr_there iptr e =
      (known_is (word_of z n (word_number w)).cells iptr e).1
      ∙ ap (λ (v : Value). from_le_bytes w32 (shown (word_in v).cells)) same
      ∙ word_known n k.plan.memory h.before old (word_number (a p c s n x k)) h.on.tells h.read.within
      (ap (λ (v : Value). are_known (word_in v).cells) (sym same)
      ∙ (known_is (word_of z n (word_number w)).cells iptr e).0)
      ∙ ap (word_at old) at_a
    where
      at_a : most_neg + 4 * word_number (a p c s n x k) ≡ a p c s n x k
      at_a = omega (arith, h.read.at, h.read.above)

      apart : here ≡ word_number (a p c s n x k) → ⊥
      apart f = omega (arith, f, h.read.at, workspace.1)

      same : z (WordAt n (word_number w)) ≡ h.before (WordAt n (word_number (a p c s n x k)))
      same =
          ap (λ b. z (WordAt n (word_number b))) workspace.0
          ∙ other_word_counted p c s n x k z h (word_number (a p c s n x k)) apart

  -- its step
  succeed_then : (Q : Unit {0} → State → Type 0) → ((iptr : ℕ) → iptr ≡ word_at old (a p c s n x k) → (t : State)
      → HasCome (site p c s n x k) successor (fresh level w iptr) (Runs (fresh level w iptr)) counted_on t → Q tt t)
      → After (step_of p (Successor n here)) z Q
  succeed_then Q f = rw (k.planned, After) at_node
    where
      rest : ℕ → Doing
      rest iptr = do
        unsent (site p c s n x k) here
        change (WordAt n here) (Put (IsWord (free_word 0)))
        before ← see (Successions n w)
        change (Successions n w) (Put (IsCount (suc (count_in before))))
        comes (site p c s n x k) (record { node = n; root = Succeeds w (count_in before); path = [] })
            (fresh level w iptr) Runs

      by : (o : Option ℕ) → known_word (word_of z n (word_number w)).cells ≡ o → After (known o >>= rest) z Q
      by None e = tt
      by (Some iptr) e =
          after_bind (unsent (site p c s n x k) here) _ z Q (unsent_then (site p c s n x k) here z _ (λ clear.
          comes_then (site p c s n x k) p successor (fresh level w iptr) Runs counted_on Q (λ t come.
          f iptr (iptr_there iptr e) t come)))

      goes_on : After (goes_on_after (site p c s n x k) here (Last level)) z Q
      goes_on =
          after_bind (touch_word_at (site p c s n x k) Reads w) _ z Q
          (touch_word_at_then (site p c s n x k) (running p c s n x k).whole Reads w z _ (λ read.
          by (known_word (word_of z n (word_number w)).cells) refl))

      at_node : After (successor_step here (site p c s n x k)) z Q
      at_node =
          subst (λ (v : Value). After (goes_on_after (site p c s n x k) here (word_in v).used) z Q) (sym is_last)
          goes_on

  -- what it leaves
  module _ (iptr : ℕ) (iptr_is : iptr ≡ word_at old (a p c s n x k)) (t : State)
      (come : HasCome (site p c s n x k) successor (fresh level w iptr) (Runs (fresh level w iptr)) counted_on t) where
    -- no other process has its workspace
    alone : ((a p c s n x k == control.registers.wptr)
        || not (is_live (at_end p c s n x k h.size) (a p c s n x k))) ≡ true
    alone = by (a p c s n x k == control.registers.wptr) refl
      where
        none_has_it : count_at (a p c s n x k) (settled control) ≡ 0
        none_has_it =
            eqb-true _ _ (ap (λ v. is_zero (amount_in v))
            (sym (left_lives p c s n x k freed last the_left (a p c s n x k)))
            ∙ ap (λ b. is_zero (amount_in (counted_on (Life n b)))) (sym workspace.0) ∙ come.alone)

        not_live : (a p c s n x k == control.registers.wptr) ≡ false
            → is_live control (a p c s n x k) ≡ false
        not_live e =
            let other : (control.registers.wptr == a p c s n x k) ≡ false =
            ne_eqb control.registers.wptr (a p c s n x k)
            (λ f. true≢false (sym (eq-eqb (a p c s n x k) control.registers.wptr (sym f)) ∙ e)) in
            none_among (a p c s n x k) (live control)
            (lives_are control level (a p c s n x k) (running p c s n x k).current
            (eqb-true _ _ k.steady.placed.words.aligned) (running p c s n x k).small
            ∙ ap (λ z. z + cond (control.registers.wptr == a p c s n x k) 1 0) none_has_it
            ∙ ap (λ (b : Bool). 0 + cond b 1 0) other)

        by : (b : Bool) → (a p c s n x k == control.registers.wptr) ≡ b
            → ((a p c s n x k == control.registers.wptr)
            || not (is_live (at_end p c s n x k h.size) (a p c s n x k))) ≡ true
        by true e = rw e refl
        by false e = rw e (ap not (not_live e))

    -- the registers of the successor
    abbrev after : Registers
    after =
        record control.registers {
          a = 0;
          b = 0;
          c = 0;
          iptr = word_at old (a p c s n x k);
          wptr = a p c s n x k;
        }

    abbrev made : Machine
    made =
        record {
          control = record (at_rest control) { registers = after; current = Some level; count = control.count };
          store = last;
        }

    stepped : step k.node.machine ≡ Ok (made, ran.Instruction)
    stepped =
        h.steps (record control { registers = after }) last
        (last_run (at_end p c s n x k h.size) old (claims_of control) (reads_there p c s n x k z h free)
        (writes_there p c s n x k z h free) one alone)
        ∙ ap (λ o. Ok (
          record { control = record control { registers = after; current = o }; store = last },
          ran.Instruction,
        )) (running p c s n x k).current

    ran_there : freed (HasRun n level) ≡ IsFlag true
    ran_there =
        left_stays p c s n x k freed last the_left (HasRun n level) refl refl refl ∙ (running p c s n x k).has_run

    arrived : HasArrived n successor (fresh level w iptr) freed t
    arrived =
        record {
          home = refl;
          absent = absent_is (freed (Standing successor)) come.absent;
          ran = ran_there;
          stand = come.is;
          lives = come.lives;
          population = come.population;
          others = others;
        }
      where
        still_runs : (i : ℕ) → t (HasRun n i) ≡ freed (HasRun n i)
        still_runs i = by (level == i) refl
          where
            by : (b : Bool) → (level == i) ≡ b → t (HasRun n i) ≡ freed (HasRun n i)
            by true e =
                let is : level ≡ i = eqb-true _ _ e in
                subst (λ j. t (HasRun n j) ≡ freed (HasRun n j)) is
                (come.runs level ∙ rw (eq-eqb level level refl) (ap (apply Raise) ran_there) ∙ sym ran_there)
            by false e = come.runs i ∙ rw e refl

        uncounted : (q : Place) → is_new n successor q ≡ false → counted_on q ≡ freed q
        uncounted (Successions b v) e = rw e refl
        uncounted _ e = refl

        run_of : (b i : ℕ) (o : Bool) → (n == b) ≡ o → t (HasRun b i) ≡ freed (HasRun b i)
        run_of b i true e =
            subst (λ j. t (HasRun j i) ≡ freed (HasRun j i)) (eqb-true n b e) (still_runs i)
        run_of b i false e = come.others (HasRun b i) e

        others : (q : Place) → is_new n successor q ≡ false → t q ≡ freed q
        others (HasRun b i) e = run_of b i (n == b) refl
        others (Standing y) e = come.others (Standing y) e ∙ uncounted (Standing y) e
        others (Life b v) e = come.others (Life b v) e ∙ uncounted (Life b v) e
        others (Population b) e = come.others (Population b) e ∙ uncounted (Population b) e
        others (Successions b v) e = come.others (Successions b v) refl ∙ uncounted (Successions b v) e
        others q e = come.others q refl ∙ uncounted q e

    knows : HasRegisters level after (fresh level w iptr)
    knows =
        record {
          priority = refl;
          wptr = workspace.0;
          iptr = iptr_is;
          a = refl;
          b = refl;
          c = refl;
          nothing_lent = refl;
        }

    -- a place of another node
    elsewhere : (q : Place) → node_at q ≢ n → t q ≡ s q
    elsewhere q e = arrived.others q (not_new q e) ∙ left_elsewhere p c s n x k freed last the_left q e
      where
        not_n : (b : ℕ) → b ≢ n → (n == b) ≡ false
        not_n b e = ne_eqb n b (λ f. e (sym f))

        not_new : (q : Place) → node_at q ≢ n → is_new n successor q ≡ false
        not_new (Standing y) e = rw (not_n y.node e) refl
        not_new (Life b v) e = not_n b e
        not_new (Successions b v) e = not_n b e
        not_new (Population b) e = not_n b e
        not_new _ e = refl

    kept_there : KeepsFlags freed n
    kept_there =
        rw (
          left_stays p c s n x k freed last the_left (FlagChanged n) refl refl refl,
          left_stays p c s n x k freed last the_left (HasRun n 0) refl refl refl,
          left_stays p c s n x k freed last the_left (HasRun n 1) refl refl refl,
        ) k.kept

    pub last_leads : LeadsTo p c n t
    last_leads =
        leads_there p c s n x k made t (running_named successor (k.shows.named n)) (k.shows.sent n) stepped
        (ap (λ (i : Store). record { control = made.control; store = i })
        (left_hides p c s n x k freed last the_left))
        (arrived_shown p k.plan n freed t (k.shows.named n) (k.shows.sent n)
        (record k.node { machine = record { control = at_rest control; store = last } })
        (left_shown p c s n x k freed last the_left (iptrs_stay p c s n x k made stepped)) refl
        kept_there successor level (running p c s n x k).small after aligned control.count
        (fresh level w iptr) knows (record {
          error = arrived.others (Error n) refl ∙ left_stays p c s n x k freed last the_left (Error n) refl refl refl
              ∙ (running p c s n x k).flags.error;
          halting = arrived.others (HaltOnError n) refl
              ∙ left_stays p c s n x k freed last the_left (HaltOnError n) refl refl refl
              ∙ (running p c s n x k).flags.halting;
        }) refl arrived) elsewhere
        (outputs_stay s t n k.node (record k.node { machine = made })
        (λ l. arrived.others (LinkHalf (end_at n l) Output) refl
        ∙ left_stays p c s n x k freed last the_left (LinkHalf (end_at n l) Output) refl refl refl) (λ l. refl))
      where
        aligned : a p c s n x k % 4 ≡ 0
        aligned = eqb-true _ _ (word_placed k.plan.memory (a p c s n x k) h.read.placed).0

-- the last `endp` leaves its priority, or a count that is spoilt
last_or_spoilt : (p : Plan) (c : Configuration) (s s' : State) (n : ℕ) (x : Name) (k : IsCurrent p c s n x)
    → left p c s n x k ≡ 1 → (h : HasCounted p c s n x k s')
    → (s' (WordAt n (number p c s n x k)) ≡ IsWord (used_word Spoilt))
    ⊎ ((use_of h.before n (number p c s n x k) ≡ Free)
    × (s' (WordAt n (number p c s n x k)) ≡ IsWord (used_word (Last (running p c s n x k).level))))
last_or_spoilt p c s s' n x k one h = by (counted p c s n x k s' h)
  where
    is_one : lowered (running p c s n x k).level (left p c s n x k)
        ≡ used_word (Last (running p c s n x k).level)
    is_one = rw (eq-eqb (left p c s n x k) 1 one) refl

    by : (s' (WordAt n (number p c s n x k)) ≡ IsWord (used_word Spoilt))
        ⊎ ((use_of h.before n (number p c s n x k) ≡ Free)
        × (s' (WordAt n (number p c s n x k))
        ≡ IsWord (lowered (running p c s n x k).level (left p c s n x k))))
        → (s' (WordAt n (number p c s n x k)) ≡ IsWord (used_word Spoilt))
        ⊎ ((use_of h.before n (number p c s n x k) ≡ Free)
        × (s' (WordAt n (number p c s n x k)) ≡ IsWord (used_word (Last (running p c s n x k).level))))
    by (inl e) = inl e
    by (inr e) = inr (e.0, e.1 ∙ ap IsWord is_one)

-- so the last one is seen
pub last_ends_are_seen : LastEndsAreSeen
last_ends_are_seen p c s s' s'' n x k next one makes succeeds = by (last_or_spoilt p c s s' n x k one h)
  where
    h : HasCounted p c s n x k s'
    h = ends_counted p c s s' n x k next makes

    by : (s' (WordAt n (number p c s n x k)) ≡ IsWord (used_word Spoilt))
        ⊎ ((use_of h.before n (number p c s n x k) ≡ Free)
        × (s' (WordAt n (number p c s n x k)) ≡ IsWord (used_word (Last (running p c s n x k).level))))
        → LeadsTo p c n s''
    by (inl e) =
        after_agent_step p (Successor n (number p c s n x k)) s' s'' (λ _ t. LeadsTo p c n t) succeeds
        (spoilt_then p k.plan n (number p c s n x k) s' (λ _ t. LeadsTo p c n t) k.planned e)
    by (inr e) =
        after_agent_step p (Successor n (number p c s n x k)) s' s'' (λ _ t. LeadsTo p c n t) succeeds
        (succeed_then p c s n x k s' h e.0 e.1 one (λ _ t. LeadsTo p c n t) (λ iptr is t come.
        last_leads p c s n x k s' h e.0 e.1 one iptr is t come))

-- and its successor has a step
pub successors_are_due : SuccessorsAreDue
successors_are_due p c s s' n x k next one makes = by (last_or_spoilt p c s s' n x k one h)
  where
    h : HasCounted p c s n x k s'
    h = ends_counted p c s s' n x k next makes

    by : (s' (WordAt n (number p c s n x k)) ≡ IsWord (used_word Spoilt))
        ⊎ ((use_of h.before n (number p c s n x k) ≡ Free)
        × (s' (WordAt n (number p c s n x k)) ≡ IsWord (used_word (Last (running p c s n x k).level))))
        → HasStep p (Successor n (number p c s n x k)) s'
    by (inl e) = due p n (number p c s n x k) s' (used_word Spoilt) e refl
    by (inr e) = due p n (number p c s n x k) s' (used_word (Last (running p c s n x k).level)) e.1 refl
