-- The processes of a node where one that waited is queued: each has its seat.
use Rattle.std.proofs.Common.{◌≡◌, ℕ, ◌<◌, ◌≤◌, refl, sym, ap, subst, ◌∙◌, List, Bool, true, false, true≢false}
use Rattle.std.proofs.Common.{Contains, AllPairs, Option, Some, None, ◌⊎◌, inl, inr, pos}
use Rattle.std.specs.Prelude.{◌==◌, IfSome, is_some}
use Rattle.std.proofs.lemmas.Bool.{eq-eqb, ne_eqb, cases_eq}
use Rattle.std.proofs.lemmas.Option.{IfSome_then}
use Rattle.tcpu.specs.declared.registers.Registers.{Registers}
use Rattle.tword.specs.Stores.{Store, word_at}
use Rattle.tword.specs.Words.{word_below}
use Rattle.tproc.specs.declared.waiter.LinkEnd.{LinkEnd}
use Rattle.tproc.specs.declared.waiter.Reason.{Reason}
use Rattle.tproc.specs.declared.waiter.Suspended.{Suspended}
use Rattle.tproc.specs.Machine.{Control, descheduled, workspace_of}
use Rattle.tproc.specs.Placement.{IsPlaced, WaitsFor}
use Rattle.tproc.specs.ProcessStatus.{is_queued, reason_of}
use Rattle.tproc.specs.Queues.{iptr_word}
use Rattle.tplan.specs.declared.plan.NodePlan.{NodePlan}
use Rattle.tplan.specs.declared.plan.Plan.{Plan}
use Rattle.tnet.specs.Rendezvous.{Node}
use Rattle.tprocesses.specs.Places.{Place, Name, WordAt, Standing, LinkHalf, Error, HaltOnError, Life, Population}
use Rattle.tprocesses.specs.Places.{HasRun, FlagChanged, same_name}
use Rattle.tprocesses.specs.Values.{Chosen, Listens, Chooses, Context, Lent, Stand, Absent, Rests, Runs, Waits, Ended}
use Rattle.tprocesses.specs.Values.{IsStand, IsFlag}
use Rattle.tprocesses.specs.Values.{IsAmount}
use Rattle.tseen.specs.Known.{HasRegisters}
use Rattle.tseen.specs.Seats.{Seat, Current, Interrupted, Queued, Waiting, is_taken}
use Rattle.tseen.specs.Outputs.{Pending}
use Rattle.tseen.specs.Processes.{Fits, IsSeated, IsGone, HasFlags, KeepsFlags, HasPassed, ShowsProcesses, context_in}
use Rattle.tseen.specs.Shown.{ShowsNode}
use Rattle.tseen.proofs.After.{State}
use Rattle.tseen.proofs.Counted.{waits_descheduled, queued_descheduled}
use Rattle.tseen.proofs.Finished.{one_name, place_itself}
use Rattle.tseen.proofs.Others.{queued_seated, waiting_seated}
use Rattle.tseen.proofs.Rejoined.{now, joins, reason_before, queued_now, still_queued, was_queued, is_new, reason_now}
use Rattle.tseen.proofs.Rejoined.{no_reason, many_now, counted_now}
use Rattle.tseen.proofs.Waiting.{IsWaiting, waits_there, not_runs, other_queued, other_waiting}
use Rattle.tseen.proofs.YieldShown.{renamed}

-- a place that may change where a message ends at a node for a process: a word, a half of a link, where it stands
abbrev pub may_change : ℕ → Name → Place → Bool
may_change n x (WordAt m k) = n == m
may_change n x (LinkHalf e side) = n == e.node
may_change n x (Standing y) = same_name x y
may_change n x _ = false

module _ (p : Plan) (s s' : State) (n : ℕ) (plan : NodePlan) (named : Seat → Name) (sent : ℕ → Option Pending)
    (node : Node) (shown : ShowsNode s n plan named sent node) (placed : IsPlaced node.machine) (process : ℕ)
    (reason : Reason) (waits : WaitsFor node.machine.control process reason) (ls : List LinkEnd) (store' : Store)
    (copied : List Bool) where
  abbrev m : Control
  m = node.machine.control

  abbrev distinct : AllPairs (λ v w. v ≡ w → ⊥) (descheduled m)
  distinct = placed.claimed.distinct

  abbrev pub control' : Control
  control' = now m process reason waits placed.claimed.distinct ls

  abbrev pub node' : Node
  node' = record node { machine = record { control = control'; store = store' }; copied = copied }

  abbrev x : Name
  x = named (Waiting process)

  -- it has a seat among those that wait
  taken_before : is_taken m (Waiting process) ≡ true
  taken_before =
      ap (λ (o : Option Reason). is_some o) (reason_before m process reason waits placed.claimed.distinct ls)

  pub waiting : IsWaiting s n node process x
  waiting = waits_there p s n plan named sent node shown process taken_before

  -- how it stands once it is queued, and what holds besides
  pub record IsAwake (stand : Stand) : Type 0 where
    pub stands : s' (Standing x) ≡ IsStand stand
    pub fits : Fits node' (Queued process) stand
    pub has_run : IfSome (context_in stand) (λ d. s' (HasRun n d.priority) ≡ IsFlag true)
    pub stays : (q : Place) → may_change n x q ≡ false → s' q ≡ s q
    pub iptrs : (a : ℕ) → Contains (descheduled m) a
        → word_at store' (word_below a iptr_word) ≡ word_at node.machine.store (word_below a iptr_word)
    pub passes : (b : ℕ) → (b ≡ process → ⊥) → HasPassed node b → HasPassed node' b
    pub lent_sent : (d : Context) (t : Lent) → stand ≡ Rests d → d.lent ≡ Some t → (t.link < 4)
        × (sent t.link ≡ Some (record { request = record { process = x; buffer = t.buffer }; copied = true }))
    pub passed : (l : ℕ) (q : Pending) → sent l ≡ Some q → q.copied ≡ true
        → (q.request.process.node ≡ n) × (k : Context) × (s' (Standing q.request.process) ≡ IsStand (Rests k))
        × (k.lent ≡ Some (record { link = l; buffer = q.request.buffer }))

  abbrev pub named' : Seat → Name
  named' = renamed process (named (Waiting process)) named

  module _ (stand : Stand) (k : IsAwake stand) where
    stand_stays : (y : Name) → same_name x y ≡ false → s' (Standing y) ≡ s (Standing y)
    stand_stays y h = k.stays (Standing y) h

    run_stays : (q : ℕ) → s' (HasRun n q) ≡ s (HasRun n q)
    run_stays q = k.stays (HasRun n q) refl

    not_runs_there : (y : Name) (d : Context) → s (Standing y) ≡ IsStand (Runs d) → same_name x y ≡ false
    not_runs_there y d e = not_runs p s n plan named sent node shown process taken_before y d e

    has_run_stays : (stand : Stand) → IfSome (context_in stand) (λ d. s (HasRun n d.priority) ≡ IsFlag true)
        → IfSome (context_in stand) (λ d. s' (HasRun n d.priority) ≡ IsFlag true)
    has_run_stays stand h = IfSome_then (context_in stand) h (λ d e. run_stays d.priority ∙ e)

    same_current : control'.current ≡ m.current
    same_current = (joins m process reason waits placed.claimed.distinct ls).current

    same_interrupted : control'.interrupted ≡ m.interrupted
    same_interrupted = (joins m process reason waits placed.claimed.distinct ls).interrupted

    same_registers : control'.registers ≡ m.registers
    same_registers = (joins m process reason waits placed.claimed.distinct ls).registers

    current_seated : (y : Name) → IsSeated s n node Current y → IsSeated s' n node' Current y
    current_seated y q = by q.stand q.stands q.fits q.has_run
      where
        by : (stand : Stand) → s (Standing y) ≡ IsStand stand → Fits node Current stand
            → IfSome (context_in stand) (λ d. s (HasRun n d.priority) ≡ IsFlag true) → IsSeated s' n node' Current y
        by (Runs d) e f r =
            record {
              home = q.home;
              stand = Runs d;
              stands = stand_stays y (not_runs_there y d e) ∙ e;
              fits = subst (λ (o : Option ℕ). IfSome o (λ l. HasRegisters l control'.registers d)) (sym same_current)
                  (subst (λ (z : Registers). IfSome m.current (λ l. HasRegisters l z d)) (sym same_registers) f);
              has_run = has_run_stays (Runs d) r;
            }
        by Absent e f r = absurd f
        by (Rests d) e f r = absurd f
        by (Waits d) e f r = absurd f
        by Ended e f r = absurd f
        by (Chooses d) e f r = absurd f
        by (Chosen d) e f r = absurd f
        by (Listens channel d) e f r = absurd f

    interrupted_seated : (y : Name) → IsSeated s n node Interrupted y → IsSeated s' n node' Interrupted y
    interrupted_seated y q = by q.stand q.stands q.fits q.has_run
      where
        by : (stand : Stand) → s (Standing y) ≡ IsStand stand → Fits node Interrupted stand
            → IfSome (context_in stand) (λ d. s (HasRun n d.priority) ≡ IsFlag true)
            → IsSeated s' n node' Interrupted y
        by (Runs d) e f r =
            record {
              home = q.home;
              stand = Runs d;
              stands = stand_stays y (not_runs_there y d e) ∙ e;
              fits = subst (λ (o : Option Suspended). IfSome o (λ t. HasRegisters 1 t.registers d))
                  (sym same_interrupted) f;
              has_run = has_run_stays (Runs d) r;
            }
        by Absent e f r = absurd f
        by (Rests d) e f r = absurd f
        by (Waits d) e f r = absurd f
        by Ended e f r = absurd f
        by (Chooses d) e f r = absurd f
        by (Chosen d) e f r = absurd f
        by (Listens channel d) e f r = absurd f

    own_seated : (b : ℕ) → b ≡ process → IsSeated s' n node' (Queued b) x
    own_seated b e =
        record {
          home = waiting.home;
          stand = stand;
          stands = k.stands;
          fits = subst (λ z. Fits node' (Queued z) stand) (sym e) k.fits;
          has_run = k.has_run;
        }

    was_waiting : (b : ℕ) → is_some (reason_of control' b) ≡ true
        → (b ≡ process → ⊥) × (is_some (reason_of m b) ≡ true)
    was_waiting b h = by (cases_eq b process)
      where
        by : (b ≡ process) ⊎ (b ≡ process → ⊥) → (b ≡ process → ⊥) × (is_some (reason_of m b) ≡ true)
        by (inl e) =
            let none : is_some (reason_of control' b) ≡ false =
            ap (λ z. is_some (reason_of control' z)) e
            ∙ ap (λ (o : Option Reason). is_some o) (no_reason m process reason waits placed.claimed.distinct ls) in
            absurd (true≢false (sym h ∙ none))
        by (inr e) = (
          e,
          subst (λ (o : Option Reason). is_some o ≡ true)
              (reason_now m process reason waits placed.claimed.distinct ls b e) h,
        )

    seated : (q : Seat) → is_taken control' q ≡ true → IsSeated s' n node' q (named' q)
    seated Current h =
        current_seated (named Current) (shown.processes.seated Current
        (subst (λ (o : Option ℕ). is_some o ≡ true) same_current h))
    seated Interrupted h =
        interrupted_seated (named Interrupted) (shown.processes.seated Interrupted
        (subst (λ (o : Option Suspended). is_some o ≡ true) same_interrupted h))
    seated (Queued b) h = by (cases_eq b process)
      where
        by : (b ≡ process) ⊎ (b ≡ process → ⊥) → IsSeated s' n node' (Queued b) (named' (Queued b))
        by (inl e) = rw (eq-eqb b process e) (own_seated b e)
        by (inr e) =
            let taken : is_queued m b ≡ true = was_queued m process reason waits placed.claimed.distinct ls b e h in
            rw (ne_eqb b process e)
            (queued_seated n x s s' stand_stays run_stays node node' b (named (Queued b))
            (other_queued p s n plan named sent node shown process taken_before b
            (is_new m process reason waits placed.claimed.distinct ls b taken) taken)
            (k.iptrs (workspace_of b) (queued_descheduled m b taken)) (shown.processes.seated (Queued b) taken))
    seated (Waiting b) h =
        let taken = was_waiting b h in
        waiting_seated n x s s' stand_stays run_stays node node' b (named (Waiting b))
        (other_waiting p s n plan named sent node shown process taken_before b taken.0 taken.1) (k.passes b taken.0)
        (λ f. reason_now m process reason waits placed.claimed.distinct ls b taken.0 ∙ f)
        (k.iptrs (workspace_of b) (waits_descheduled m b taken.1)) (shown.processes.seated (Waiting b) taken.1)

    abbrev HasPlace : Name → Type 0
    HasPlace y = IsGone s' n y ⊎ ((q : Seat) × (is_taken control' q ≡ true) × (named' q ≡ y))

    there : (y : Name) → y.node ≡ n → HasPlace y
    there y h = by (same_name x y) refl
      where
        waits_still : (b : ℕ) → is_some (reason_of m b) ≡ true → named (Waiting b) ≡ y → same_name x y ≡ false
            → (b ≡ process) ⊎ (b ≡ process → ⊥) → HasPlace y
        waits_still b taken e n' (inl f) =
            let same : x ≡ y = ap (λ z. named (Waiting z)) (sym f) ∙ e in
            absurd (true≢false (sym (place_itself p (Standing x)) ∙ ap (same_name x) same ∙ n'))
        waits_still b taken e n' (inr f) =
            inr (
              Waiting b,
              subst (λ (o : Option Reason). is_some o ≡ true)
                  (sym (reason_now m process reason waits placed.claimed.distinct ls b f)) taken,
              e,
            )

        of : same_name x y ≡ false → IsGone s n y ⊎ ((q : Seat) × (is_taken m q ≡ true) × (named q ≡ y)) → HasPlace y
        of n' (inl (inl e)) = inl (inl (stand_stays y n' ∙ e))
        of n' (inl (inr e)) = inl (inr (stand_stays y n' ∙ e))
        of n' (inr (Current, taken, e)) =
            inr (Current, subst (λ (o : Option ℕ). is_some o ≡ true) (sym same_current) taken, e)
        of n' (inr (Interrupted, taken, e)) =
            inr (Interrupted, subst (λ (o : Option Suspended). is_some o ≡ true) (sym same_interrupted) taken, e)
        of n' (inr (Queued b, taken, e)) =
            inr (
              Queued b,
              still_queued m process reason waits placed.claimed.distinct ls b taken,
              rw (ne_eqb b process (is_new m process reason waits placed.claimed.distinct ls b taken)) e,
            )
        of n' (inr (Waiting b, taken, e)) = waits_still b taken e n' (cases_eq b process)

        by : (b : Bool) → same_name x y ≡ b → HasPlace y
        by true e =
            inr (
              Queued process,
              queued_now m process reason waits placed.claimed.distinct ls,
              rw (eq-eqb process process refl) (one_name p x y e),
            )
        by false e = of e (shown.processes.there y h)

    lent_now : (y : Name) (d : Context) (t : Lent) → y.node ≡ n → s' (Standing y) ≡ IsStand (Rests d)
        → d.lent ≡ Some t → (b : Bool) → same_name x y ≡ b → (t.link < 4)
        × (sent t.link ≡ Some (record { request = record { process = y; buffer = t.buffer }; copied = true }))
    lent_now y d t h e f false n' = shown.processes.lent y d t h (sym (stand_stays y n') ∙ e) f
    lent_now y d t h e f true same =
        let name : x ≡ y = one_name p x y same in
        let g = k.lent_sent d t (one_stand (sym k.stands ∙ ap (λ z. s' (Standing z)) name ∙ e)) f in (
          g.0,
          g.1 ∙ ap (λ z. Some (record { request = record { process = z; buffer = t.buffer }; copied = true })) name,
        )
      where
        one_stand : {a b : Stand} → IsStand a ≡ IsStand b → a ≡ b
        one_stand e = cc

    keeps_flags : KeepsFlags s' n → KeepsFlags s n
    keeps_flags h =
        rw (← k.stays (FlagChanged n) refl, ← run_stays 0, ← run_stays 1) h

    has_flags : (r : Registers) → HasFlags s n r → HasFlags s' n r
    has_flags r h =
        record {
          error = k.stays (Error n) refl ∙ h.error;
          halting = k.stays (HaltOnError n) refl ∙ h.halting;
        }

    -- the processes
    pub processes_awake : ShowsProcesses s' n named' sent node'
    processes_awake =
        record {
          seated = seated;
          there = there;
          lent = λ y d t h e f. lent_now y d t h e f (same_name x y) refl;
          passed = k.passed;
          lives = λ w. k.stays (Life n w) refl ∙ shown.processes.lives w
              ∙ ap (λ z. IsAmount (pos z)) (sym (counted_now m process reason waits placed.claimed.distinct ls w));
          population = (
            shown.processes.population.0,
            k.stays (Population n) refl ∙ shown.processes.population.1,
            subst (λ z. z ≤ shown.processes.population.0)
                (sym (many_now m process reason waits placed.claimed.distinct ls)) shown.processes.population.2,
          );
          interrupting = subst (λ (o : Option Suspended). IfSome o (λ t. s' (HasRun n 0) ≡ IsFlag true))
              (sym same_interrupted)
              (IfSome_then m.interrupted shown.processes.interrupting (λ t e. run_stays 0 ∙ e));
          flags = λ h. subst (HasFlags s' n) (sym same_registers)
              (has_flags m.registers (shown.processes.flags (keeps_flags h)));
          kept_flags = λ h. subst (λ (o : Option Suspended). IfSome o (λ t. HasFlags s' n t.registers))
              (sym same_interrupted)
              (IfSome_then m.interrupted (shown.processes.kept_flags (keeps_flags h)) (λ t e.
              has_flags t.registers e));
        }

  -- one whose message has passed rests
  pub record IsWoken (lent : Option Lent) : Type 0 where
    pub rests : s' (Standing x) ≡ IsStand (Rests (record waiting.context { lent = lent }))
    pub stays : (q : Place) → may_change n x q ≡ false → s' q ≡ s q
    pub iptrs : (a : ℕ) → Contains (descheduled m) a
        → word_at store' (word_below a iptr_word) ≡ word_at node.machine.store (word_below a iptr_word)
    pub passes : (b : ℕ) → (b ≡ process → ⊥) → HasPassed node b → HasPassed node' b
    pub lent_sent : (t : Lent) → lent ≡ Some t → (t.link < 4)
        × (sent t.link ≡ Some (record { request = record { process = x; buffer = t.buffer }; copied = true }))
    pub passed : (l : ℕ) (q : Pending) → sent l ≡ Some q → q.copied ≡ true
        → (q.request.process.node ≡ n) × (k : Context) × (s' (Standing q.request.process) ≡ IsStand (Rests k))
        × (k.lent ≡ Some (record { link = l; buffer = q.request.buffer }))

  pub processes_woken : (lent : Option Lent) → IsWoken lent → ShowsProcesses s' n named' sent node'
  processes_woken lent k =
      processes_awake (Rests (record waiting.context { lent = lent })) (record {
        stands = k.rests;
        fits = record {
          priority = waiting.saved.priority;
          wptr = waiting.saved.wptr;
          iptr = waiting.saved.iptr ∙ sym (k.iptrs (workspace_of process) (waits_descheduled m process taken_before));
          a = waiting.saved.a;
          b = waiting.saved.b;
          c = waiting.saved.c;
        };
        has_run = k.stays (HasRun n waiting.context.priority) refl ∙ waiting.has_run;
        stays = k.stays;
        iptrs = k.iptrs;
        passes = k.passes;
        lent_sent = λ d t e f. k.lent_sent t (ap lent_in e ∙ f);
        passed = k.passed;
      })
    where
      lent_in : Stand → Option Lent
      lent_in (Rests b) = b.lent
      lent_in _ = None
