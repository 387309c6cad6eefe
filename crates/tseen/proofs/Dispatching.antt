-- A dispatch is seen as that the process goes on from its rest: what is known before it, and what its step leaves.
use Rattle.tprocesses.specs.Values.{IsWord as a_word}
use Rattle.tseen.proofs.Cells.{use_of}
use Rattle.tprocesses.specs.Changes.{used_word}
use Rattle.tprocesses.specs.Values.{Saved, Awaiting, Choosing}
use Rattle.tprocesses.specs.Machine.{is_ready}
use Rattle.std.proofs.Common.{inl, inr, ◌⊎◌}
use Rattle.std.proofs.Common.{◌≡◌, ◌≢◌, ℕ, suc, ◌<◌, ◌≤◌, ◌%◌, ◌^◌, refl, sym, ap, subst, ◌∙◌, List, true, false}
use Rattle.std.proofs.Common.{length, Contains, AllPairs, Ok, Option, Some, None, arith, map}
use Rattle.std.specs.Prelude.{◌==◌, IfSome, option_map}
use Rattle.std.proofs.lemmas.Bool.{eqb-true, ne_eqb}
use Rattle.std.proofs.lemmas.List.Elements.{All-contains}
use Rattle.tword.specs.Words.{word_below}
use Rattle.tword.specs.Stores.{Store, word_at, hiding}
use Rattle.tword.specs.Claims.{is_input, overlap, saved_words}
use Rattle.tword.specs.Touches.{byte_span}
use Rattle.tproc.specs.declared.ran.Ran.TheVariants as ran
use Rattle.tproc.specs.declared.waiter.LinkEnd.{LinkEnd}
use Rattle.tproc.specs.Machine.{Control, Machine, claims_of, descheduled, workspace_of, priority_of, buffer_of}
use Rattle.tproc.specs.Hidden.{hidden}
use Rattle.tproc.specs.ProcessStatus.{queue, is_among}
use Rattle.tproc.specs.Placement.{IsWord, IsWorkspace, IsPlaced}
use Rattle.tproc.specs.Steps.{step}
use Rattle.tplan.specs.declared.plan.Plan.{Plan}
use Rattle.tnet.specs.Rendezvous.{Node, Configuration}
use Rattle.tprocesses.specs.Places.{Place, Name, WordAt, Sending, Standing, Unfinished, HasRun}
use Rattle.tprocesses.specs.Values.{Chosen, Listens, Chooses, Context, Lent, Stand, Absent, Rests, Runs, Waits, Ended}
use Rattle.tprocesses.specs.Values.{IsStand}
use Rattle.tprocesses.specs.Values.{IsFlag}
use Rattle.tprocesses.specs.Touching.{Site}
use Rattle.tprocesses.specs.Machine.{site_of}
use Rattle.tseen.specs.Known.{HasSaved}
use Rattle.tseen.specs.Seats.{Queued, is_taken}
use Rattle.tseen.specs.Words.{AreSavedWords}
use Rattle.tseen.specs.Processes.{Fits, IsSeated, context_in}
use Rattle.tseen.specs.Shown.{ShowsNode}
use Rattle.tseen.specs.Steps.{IsNext}
use Rattle.tseen.proofs.After.{State}
use Rattle.tseen.proofs.Written.{is_word_of}
use Rattle.tseen.proofs.Finished.{is_stand_of, StandsNow}
use Rattle.tseen.proofs.Frames.{node_at}
use Rattle.tseen.proofs.Saving.{below, no_word}
use Rattle.tseen.proofs.Freed.{IsFreed}
use Rattle.tseen.proofs.Adding.{among}
use Rattle.tseen.proofs.Dispatched.{IsPopped, popped, begun}
use Rattle.tseen.proofs.TakenBack.{IsTakenBack, is_sending_of, is_lent, is_flag_of}
use Rattle.tseen.proofs.Resumed.{first_other, other_words}

module _ (p : Plan) (c : Configuration) (s : State) (n : ℕ) (x : Name) (k : IsNext p c s n x) where
  abbrev m : Control
  m = k.node.machine.control

  abbrev store : Store
  store = k.node.machine.store

  abbrev site : Site
  site = site_of n k.plan

  abbrev placed : IsPlaced k.node.machine
  placed = k.steady.placed

  -- what is shown of the node
  pub shown_next : ShowsNode s n k.plan (k.shows.named n) (k.shows.sent n) k.node
  shown_next =
      let old = k.shows.processors n k.plan k.planned in
      subst (λ (z : Node). ShowsNode s n k.plan (k.shows.named n) (k.shows.sent n) z)
      (some_is (sym old.1 ∙ k.here)) old.2
    where
      some_is : {a b : Node} → Some a ≡ Some b → a ≡ b
      some_is e = cc

  pub pop : IsPopped m k.process
  pop = popped m k.process k.next

  abbrev pub w : ℕ
  w = pop.workspace

  -- it is one of those that are queued or wait
  pub w_there : Contains (descheduled m) w
  w_there = subst (λ (ds : List ℕ). Contains ds w) (sym pop.first) (0, omega arith, refl)

  pub w_space : IsWorkspace (length store) w
  w_space = All-contains (IsWorkspace (length store)) (descheduled m) w placed.claimed.saved w_there

  pub w_small : w < 2 ^ 32
  w_small = All-contains IsWord (descheduled m) w placed.workspaces w_there

  pub aligned : w % 4 ≡ 0
  aligned = eqb-true _ _ w_space.0

  pub same_workspace : workspace_of k.process ≡ w
  same_workspace = omega (arith, aligned, pop.process_is, pop.small)

  pub same_priority : priority_of k.process ≡ pop.level
  same_priority = omega (arith, aligned, pop.process_is, pop.small)

  pub taken : is_taken m (Queued k.process) ≡ true
  taken =
      subst (λ a. is_among a (queue m (priority_of k.process)) ≡ true) (sym same_workspace)
      (subst (λ q. is_among w (queue m q) ≡ true) (sym same_priority) pop.own)

  -- another one that is queued or waits has another workspace, and other words
  pub still_there : (v : ℕ) → Contains (descheduled pop.rest) v → Contains (descheduled m) v
  still_there v h =
      subst (λ (ds : List ℕ). Contains ds v) (sym pop.first) (suc h.0, omega (arith, h.1), h.2)

  pub other_workspace : (v : ℕ) → Contains (descheduled pop.rest) v → w ≢ v
  other_workspace v h =
      first_other (λ a b. a ≢ b) w (descheduled pop.rest)
      (subst (λ (ds : List ℕ). AllPairs (λ a b. a ≢ b) ds) pop.first placed.claimed.distinct) v h

  words_apart : (v : ℕ) → Contains (descheduled pop.rest) v → overlap (saved_words w) (saved_words v) ≡ false
  words_apart v h =
      first_other (λ a b. overlap (saved_words a) (saved_words b) ≡ false) w (descheduled pop.rest)
      (subst (λ (ds : List ℕ). AllPairs (λ a b. overlap (saved_words a) (saved_words b) ≡ false) ds) pop.first
      placed.apart.workspaces) v h

  pub other_below : (v i j : ℕ) → Contains (descheduled pop.rest) v → 1 ≤ i → i ≤ 3 → 1 ≤ j → j ≤ 3
      → below v i ≢ below w j
  other_below v i j h a b c d =
      other_words (length store) w v i j placed.claimed.size w_space w_small
      (All-contains (IsWorkspace (length store)) (descheduled m) v placed.claimed.saved (still_there v h))
      (All-contains IsWord (descheduled m) v placed.workspaces (still_there v h)) (words_apart v h) a b c d

  -- its words are saved
  pub own_words : AreSavedWords s n w
  own_words = All-contains (AreSavedWords s n) (descheduled m) w shown_next.marks.saved w_there

  -- the process rests, or its alternative was made to go on
  pub record IsResting : Type 0 where
    pub context : Context
    pub stand : Stand
    pub stood : s (Standing x) ≡ IsStand stand
    pub how : (stand ≡ Rests context) ⊎ ((stand ≡ Chosen context) × (context.lent ≡ None))
    pub ready : is_ready stand ≡ true
    pub saved : HasSaved store k.process context
    pub home : x.node ≡ n
    pub has_run : s (HasRun n pop.level) ≡ IsFlag true

  pub rests_there : IsResting
  rests_there = with_seat (shown_next.processes.seated (Queued k.process) taken)
    where
      by_stand : IsSeated s n k.node (Queued k.process) (k.shows.named n (Queued k.process)) → (stand : Stand)
          → s (Standing (k.shows.named n (Queued k.process))) ≡ IsStand stand → Fits k.node (Queued k.process) stand
          → IfSome (context_in stand) (λ d. s (HasRun n d.priority) ≡ IsFlag true) → IsResting
      by_stand q (Rests d) e f r =
          record {
            context = d;
            stand = Rests d;
            stood = ap (λ y. s (Standing y)) (sym k.name) ∙ e;
            how = inl refl;
            ready = refl;
            saved = f;
            home = subst (λ (y : Name). y.node ≡ n) k.name q.home;
            has_run = ap (λ z. s (HasRun n z)) (sym (f.priority ∙ same_priority)) ∙ r;
          }
      by_stand q (Chosen d) e f r =
          record {
            context = d;
            stand = Chosen d;
            stood = ap (λ y. s (Standing y)) (sym k.name) ∙ e;
            how = inr (refl, f.1);
            ready = refl;
            saved = f.0;
            home = subst (λ (y : Name). y.node ≡ n) k.name q.home;
            has_run = ap (λ z. s (HasRun n z)) (sym (f.0.priority ∙ same_priority)) ∙ r;
          }
      by_stand q Absent e f r = absurd f
      by_stand q (Runs d) e f r = absurd f
      by_stand q (Waits d) e f r = absurd f
      by_stand q Ended e f r = absurd f
      by_stand q (Chooses d) e f r = absurd f
      by_stand q (Listens channel d) e f r = absurd f

      with_seat : IsSeated s n k.node (Queued k.process) (k.shows.named n (Queued k.process)) → IsResting
      with_seat q = by_stand q q.stand q.stands q.fits q.has_run

  -- the machine after the step
  abbrev pub now : Machine
  now = record { control = begun pop.rest w pop.level (word_at store (word_below w 1)); store = store }

  pub stepped : step k.node.machine ≡ Ok (now, ran.Dispatch)
  stepped = pop.steps store shown_next.runs_on k.idle (among (descheduled m) w w_there)

  -- pending inputs stay hidden
  pub hidden_now : hidden now ≡ now
  hidden_now =
      ap (λ (z : Store). record { control = now.control; store = z })
      (ap (λ (ls : List LinkEnd). hiding (λ a. is_input (record (claims_of m) {
        inputs = map (λ e. option_map buffer_of e.input) ls;
      }) (byte_span a)) store) pop.links
      ∙ ap (λ (z : Machine). z.store) k.steady.hides)

  -- the states of the step: words freed, an output taken back, and where the process stands
  pub record AreResumed (d : Context) (v v2 s' : State) : Type 0 where
    pub freed : IsFreed n w s v
    -- the third word was saved, or has the state of its alternative
    pub third : ((rests_there.stand ≡ Rests d) × (use_of s n (below w 3) ≡ Saved))
        ⊎ ((rests_there.stand ≡ Chosen d) × (use_of s n (below w 3) ≡ Awaiting)
        × (v (WordAt n (below w 3)) ≡ a_word (used_word Choosing)))
    pub back : IsTakenBack site d.lent v v2
    pub runs : StandsNow site x (Runs (record d { lent = None })) v2 s'

  module _ (d : Context) (v v2 s' : State) (a : AreResumed d v v2 s') where
    -- a place that none of them changes stays
    pub stays : (q : Place) → is_word_of n q ≡ false → is_sending_of n q ≡ false → is_lent site d.lent q ≡ false
        → is_stand_of x q ≡ false → s' q ≡ s q
    stays q word sending lent stand =
        a.runs.others q stand ∙ a.back.others q sending lent ∙ a.freed.rest q (no_word n w q word)

    -- one where nothing is lent by what it is
    pub not_lent : (l : Option Lent) (q : Place) → ((j : ℕ) → is_flag_of n j q ≡ false) → is_lent site l q ≡ false
    not_lent None q h = refl
    not_lent (Some l) q h = h l.link

    -- words change by the first alone
    pub word_then : (j : ℕ) → s' (WordAt n j) ≡ v (WordAt n j)
    word_then j =
        a.runs.others (WordAt n j) refl
        ∙ a.back.others (WordAt n j) refl (not_lent d.lent (WordAt n j) (λ l. refl))

    -- the places of other nodes stay
    pub others_stay : x.node ≡ n → (q : Place) → node_at q ≢ n → s' q ≡ s q
    others_stay home q h =
        stays q (word q h) (sending q h) (not_lent d.lent q (λ l. flag l q h)) (stand q h)
      where
        not_n : (b : ℕ) → b ≢ n → (n == b) ≡ false
        not_n b h = ne_eqb n b (λ e. h (sym e))

        word : (q : Place) → node_at q ≢ n → is_word_of n q ≡ false
        word (WordAt b j) h = not_n b h
        word _ h = refl

        sending : (q : Place) → node_at q ≢ n → is_sending_of n q ≡ false
        sending (Sending b j) h = not_n b h
        sending _ h = refl

        flag : (l : ℕ) (q : Place) → node_at q ≢ n → is_flag_of n l q ≡ false
        flag l (Unfinished e) h = rw (not_n e.node h) refl
        flag l _ h = refl

        stand : (q : Place) → node_at q ≢ n → is_stand_of x q ≡ false
        stand (Standing y) h = rw (ne_eqb x.node y.node (λ e. h (sym e ∙ home))) refl
        stand _ h = refl
