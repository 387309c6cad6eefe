-- Where a high process interrupts a low one: the low one steps aside, which changes nothing that is shown, and then the
-- high one is dispatched.
use Rattle.std.proofs.Common.{◌≡◌, ℕ, zero, suc, refl, sym, ap, subst, ◌∙◌, true, false, true≢false, List}
use Rattle.std.proofs.Common.{[], ◌∷◌, Option, Some, None, ◌⊎◌, inl, inr}
use Rattle.std.specs.Prelude.{IfSome, is_some, slice_set}
use Rattle.tword.specs.Stores.{Store}
use Rattle.tproc.specs.declared.waiter.Suspended.{Suspended}
use Rattle.tproc.specs.Machine.{Control, Machine}
use Rattle.tproc.specs.Hidden.{hidden}
use Rattle.tproc.specs.Placement.{IsPlaced}
use Rattle.tproc.specs.ProcessStatus.{live}
use Rattle.tproc.specs.Queues.{suspended}
use Rattle.tproc.specs.Steps.{step}
use Rattle.tplan.specs.declared.plan.Plan.{Plan}
use Rattle.tnet.specs.Rendezvous.{Node, Configuration, put_node}
use Rattle.tnet.proofs.Puts.{put-same}
use Rattle.tprocesses.specs.Places.{Name}
use Rattle.tprocesses.specs.Values.{Chosen, Listens, Chooses, Stand, Absent, Rests, Runs, Waits, Ended}
use Rattle.tseen.specs.Known.{HasRegisters}
use Rattle.tseen.specs.Seats.{Seat, Current, Interrupted, Queued, Waiting, is_taken}
use Rattle.tseen.specs.Processes.{Fits, IsSeated, IsGone, ShowsProcesses}
use Rattle.tseen.specs.Shown.{Shows, ShowsNode}
use Rattle.tseen.specs.Steps.{IsNext, LeadsTo, next_queued}
use Rattle.tseen.specs.Interrupting.{IsInterrupting, InterruptionsAreSeen}
use Rattle.tseen.proofs.After.{State}
use Rattle.tseen.proofs.Nets.{net_shown, net_named}
use Rattle.tseen.proofs.Running.{high_has_run, low_alone}
use Rattle.tseen.proofs.Staying.{channels_stay, link_stays}
use Rattle.tseen.proofs.DispatchShown.{dispatches_are_seen}
use Rattle.tseen.proofs.NoticedOffers.{NoticesSent, own_notices, outputs_stay}

-- a control whose current process has stepped aside
abbrev aside : Control → Control
aside m = record (suspended m) { current = None }

-- the step is the same
same_step : (m : Control) (store : Store) (w : ℕ) (ws : List ℕ) → m.halted ≡ false → m.current ≡ Some 1
    → m.high ≡ w ∷ ws
    → step (record { control = m; store = store }) ≡ step (record { control = aside m; store = store })
unfolding step
same_step m store w ws a b e = rw (a, b, e) refl

same_live : (m : Control) → m.current ≡ Some 1 → m.interrupted ≡ None → live (aside m) ≡ live m
same_live m b i = sym (rw (b, i) refl)

-- the processor is placed still
still_placed : (m : Control) (store : Store) → IsPlaced (record { control = m; store = store }) → m.current ≡ Some 1
    → IsPlaced (record { control = aside m; store = store })
still_placed m store placed low =
    record {
      claimed = record {
        size = placed.claimed.size;
        distinct = placed.claimed.distinct;
        saved = placed.claimed.saved;
        links = placed.claimed.links;
        outputs = placed.claimed.outputs;
        inputs = placed.claimed.inputs;
      };
      apart = placed.apart;
      bytes = placed.bytes;
      offered = placed.offered;
      few = rw (same_live m low (low_alone (record { control = m; store = store }) placed low)) placed.few;
      priority = tt;
      below = λ e. cc;
      count = placed.count;
      kept_count = placed.count;
      workspaces = placed.workspaces;
      words = placed.words;
      kept_words = placed.words;
    }

-- a list whose element is set twice
set_twice : {A : Type 0} (xs : List A) (n : ℕ) (a b : A) → slice_set (slice_set xs n b) n a ≡ slice_set xs n a
set_twice [] n a b = refl
set_twice (x ∷ xs) zero a b = refl
set_twice (x ∷ xs) (suc n) a b = ap (λ ys. x ∷ ys) (set_twice xs n a b)

-- names where the current process was interrupted
abbrev aside_named : (Seat → Name) → Seat → Name
aside_named named Interrupted = named Current
aside_named named q = named q

module _ (p : Plan) (c : Configuration) (s : State) (n : ℕ) (x : Name) (k : IsInterrupting p c s n x) where
  abbrev m : Control
  m = k.node.machine.control

  abbrev store : Store
  store = k.node.machine.store

  abbrev beside : Node
  beside = record k.node { machine = record { control = aside m; store = store } }

  abbrev named : Seat → Name
  named = k.shows.named n

  abbrev named' : Seat → Name
  named' = aside_named named

  shown : ShowsNode s n k.plan named (k.shows.sent n) k.node
  shown =
      let old = k.shows.processors n k.plan k.planned in
      subst (λ (z : Node). ShowsNode s n k.plan named (k.shows.sent n) z) (some_is (sym old.1 ∙ k.here)) old.2
    where
      some_is : {a b : Node} → Some a ≡ Some b → a ≡ b
      some_is e = cc

  none : m.interrupted ≡ None
  none = low_alone k.node.machine k.steady.placed k.low

  -- the one that steps aside
  interrupted_seated : IsSeated s n beside Interrupted (named Current)
  interrupted_seated =
      let old : IsSeated s n k.node Current (named Current) = shown.processes.seated Current (ap is_some k.low) in
      record {
        home = old.home;
        stand = old.stand;
        stands = old.stands;
        fits = by old.stand old.fits;
        has_run = old.has_run;
      }
    where
      by : (stand : Stand) → Fits k.node Current stand → Fits beside Interrupted stand
      by (Runs d) f = subst (λ (o : Option ℕ). IfSome o (λ level. HasRegisters level m.registers d)) k.low f
      by Absent f = absurd f
      by (Rests d) f = absurd f
      by (Waits d) f = absurd f
      by Ended f = absurd f
      by (Chooses d) f = absurd f
      by (Chosen d) f = absurd f
      by (Listens channel d) f = absurd f

  seated : (q : Seat) → is_taken (aside m) q ≡ true → IsSeated s n beside q (named' q)
  seated Current h = absurd (true≢false (sym h))
  seated Interrupted h = interrupted_seated
  seated (Queued b) h =
      let old : IsSeated s n k.node (Queued b) (named (Queued b)) = shown.processes.seated (Queued b) h in
      record {
        home = old.home;
        stand = old.stand;
        stands = old.stands;
        fits = old.fits;
        has_run = old.has_run;
      }
  seated (Waiting b) h =
      let old : IsSeated s n k.node (Waiting b) (named (Waiting b)) = shown.processes.seated (Waiting b) h in
      record {
        home = old.home;
        stand = old.stand;
        stands = old.stands;
        fits = old.fits;
        has_run = old.has_run;
      }

  there : (y : Name) → y.node ≡ n → IsGone s n y ⊎ ((q : Seat) × (is_taken (aside m) q ≡ true) × (named' q ≡ y))
  there y h = by (shown.processes.there y h)
    where
      by : IsGone s n y ⊎ ((q : Seat) × (is_taken m q ≡ true) × (named q ≡ y))
          → IsGone s n y ⊎ ((q : Seat) × (is_taken (aside m) q ≡ true) × (named' q ≡ y))
      by (inl e) = inl e
      by (inr (Current, taken, e)) = inr (Interrupted, refl, e)
      by (inr (Interrupted, taken, e)) =
          let f : false ≡ true = subst (λ (o : Option Suspended). is_some o ≡ true) none taken in
          absurd (true≢false (sym f))
      by (inr (Queued b, taken, e)) = inr (Queued b, taken, e)
      by (inr (Waiting b, taken, e)) = inr (Waiting b, taken, e)

  lives_same : live (aside m) ≡ live m
  lives_same = same_live m k.low none

  processes : ShowsProcesses s n named' (k.shows.sent n) beside
  processes =
      record {
        seated = seated;
        there = there;
        lent = shown.processes.lent;
        passed = shown.processes.passed;
        lives = λ w. shown.processes.lives w ∙ rw lives_same refl;
        population = (
          shown.processes.population.0,
          shown.processes.population.1,
          rw lives_same shown.processes.population.2,
        );
        interrupting = high_has_run s n k.plan named (k.shows.sent n) k.node shown k.steady k.process k.others k.high;
        flags = shown.processes.flags;
        kept_flags = shown.processes.flags;
      }

  shown_beside : ShowsNode s n k.plan named' (k.shows.sent n) beside
  shown_beside =
      record {
        role = shown.role;
        works = shown.works;
        runs_on = shown.runs_on;
        size = shown.size;
        kind = shown.kind;
        store = shown.store;
        marks = record {
          saved = shown.marks.saved;
          inputs = shown.marks.inputs;
          inputs_apart = shown.marks.inputs_apart;
          outputs = shown.marks.outputs;
          no_successor = shown.marks.no_successor;
        };
        channels = channels_stay s s n named named' k.node.machine beside.machine (λ w. refl) (λ j e. e) (λ j e. e)
            (λ a side. refl) (λ q. refl) refl (λ a h e. refl) shown.channels;
        links = λ l h. link_stays s s n named named' (k.shows.sent n) k.node beside l (λ w. refl) (λ side. refl)
            refl (λ y e. refl) refl refl (shown.links l h);
        processes = processes;
        choices = shown.choices;
      }

  -- the net where it has stepped aside
  abbrev pub stepped_aside : Configuration
  stepped_aside = put_node n beside c

  -- what it noticed before still comes from somebody who sends
  noticed : NoticesSent p stepped_aside s
  noticed =
      own_notices p c s s n k.plan k.node beside k.planned k.here k.shows.noticed
      (outputs_stay s s n k.node beside (λ l. refl) (λ l. refl)) (λ q h. refl)

  shows_beside : Shows p stepped_aside s
  shows_beside =
      net_shown p c s s k.shows n k.plan k.planned k.node k.here beside named' (k.shows.sent n) shown_beside
      (λ q h. refl) noticed

  named_there : shows_beside.named n ≡ named'
  unfolding shows_beside
  named_there =
      net_named p c s s k.shows n k.plan k.planned k.node k.here beside named' (k.shows.sent n) shown_beside
      (λ q h. refl) noticed

  pub is_next : IsNext p stepped_aside s n x
  is_next =
      record {
        shows = shows_beside;
        plan = k.plan;
        planned = k.planned;
        node = beside;
        here = put-same c n beside k.node k.here;
        steady = record {
          placed = still_placed m store k.steady.placed k.low;
          sized = record { size = k.steady.sized.size };
          hides = ap (λ (z : Machine). record { control = aside m; store = z.store }) k.steady.hides;
        };
        idle = refl;
        process = k.process;
        next = ap (λ (high : List ℕ). next_queued (aside m).interrupted high m.low) k.high;
        name = ap (λ (f : Seat → Name). f (Queued k.process)) named_there ∙ k.name;
        kept = k.kept;
      }

  -- what leads on from there leads on from the net as it was
  leads_back : (s' : State) → LeadsTo p stepped_aside n s' → LeadsTo p c n s'
  leads_back s' l =
      record {
        configuration = l.configuration;
        local = record {
          node = k.node;
          machine = l.local.machine;
          ran = l.local.ran;
          here = k.here;
          works = shown.works;
          steps = same_step m store k.process k.others shown.runs_on k.low k.high
              ∙ ap (λ (z : Node). step z.machine) (sym same) ∙ l.local.steps;
          is_step = l.local.is_step;
          after = l.local.after
              ∙ ap (λ (z : Node). put_node n (record z { machine = hidden l.local.machine }) stepped_aside) same
              ∙ ap (λ (nodes : List Node). record c { nodes = nodes })
              (set_twice c.nodes n (record k.node { machine = hidden l.local.machine }) beside);
        };
        shows = l.shows;
      }
    where
      some_is : {a b : Node} → Some a ≡ Some b → a ≡ b
      some_is e = cc

      same : l.local.node ≡ beside
      same = some_is (sym l.local.here ∙ put-same c n beside k.node k.here)

-- interruptions are seen
pub interruptions_are_seen : InterruptionsAreSeen
interruptions_are_seen p c s s' n x k makes =
    leads_back p c s n x k s'
    (dispatches_are_seen p (stepped_aside p c s n x k) s s' n x (is_next p c s n x k) makes)
