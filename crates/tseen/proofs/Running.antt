-- What is known of the current process of a node that is shown.
use Rattle.std.proofs.Common.{◌≡◌, ◌≢◌, ℕ, zero, suc, ◌<◌, ◌%◌, refl, sym, ap, subst, ◌∙◌, Bool, true, false}
use Rattle.std.proofs.Common.{true≢false, List, [], ◌∷◌, ◌++◌, length, Option, Some, None, arith, Contains}
use Rattle.std.specs.Prelude.{◌==◌, IfSome, is_some}
use Rattle.std.specs.List.{list_any}
use Rattle.std.proofs.lemmas.Bool.{eqb-true, eq-eqb, ne_eqb, or_left}
use Rattle.std.proofs.lemmas.List.Elements.{All-contains, Contains-append_left}
use Rattle.tproc.specs.declared.waiter.Suspended.{Suspended}
use Rattle.tproc.specs.Machine.{Control, Machine, workspace_of, priority_of, claims_of, descheduled}
use Rattle.tproc.specs.Placement.{IsPlaced, IsWorkspace}
use Rattle.tproc.specs.ProcessStatus.{is_among, queue}
use Rattle.tplan.specs.declared.plan.NodePlan.{NodePlan}
use Rattle.tplan.specs.declared.plan.Plan.{Plan}
use Rattle.tnet.specs.Rendezvous.{Node}
use Rattle.treduction.specs.Plain.{IsFirst}
use Rattle.tprocesses.specs.Places.{Name, Standing, HasRun, same_name}
use Rattle.tprocesses.specs.Values.{Chosen, Listens, Chooses, Value, Context, Stand, Absent, Rests, Runs, Waits, Ended}
use Rattle.tprocesses.specs.Values.{IsStand, IsFlag}
use Rattle.tseen.specs.Known.{HasRegisters}
use Rattle.tseen.specs.Seats.{Seat, Current, Interrupted, Queued, is_taken}
use Rattle.tseen.specs.Outputs.{Pending}
use Rattle.tseen.specs.Processes.{Fits, IsSeated, HasFlags, KeepsFlags, context_in}
use Rattle.tseen.specs.Shown.{ShowsNode}
use Rattle.tseen.specs.Steps.{IsSteady, is_dispatching}
use Rattle.tseen.proofs.After.{State}
use Rattle.tseen.proofs.Cells.{Tells, tells_from}
use Rattle.tseen.proofs.Touched.{Permits}
use Rattle.tseen.proofs.Others.{other_name}
use Rattle.tseen.proofs.Unclaimed.{free_words_are_readable, unsent_words_are_writable}

-- a high process runs there
abbrev is_high : Value → Bool
is_high (IsStand (Runs c)) = c.priority == 0
is_high _ = false

-- the current process stands as running, and the next step of its node is its instruction
pub record RunsThere (s : State) (n : ℕ) (plan : NodePlan) (node : Node) (x : Name) : Type 0 where
  pub home : x.node ≡ n
  pub level : ℕ
  pub small : level < 2
  pub current : node.machine.control.current ≡ Some level
  pub context : Context
  pub stood : s (Standing x) ≡ IsStand (Runs context)
  pub registers : HasRegisters level node.machine.control.registers context
  pub has_run : s (HasRun n level) ≡ IsFlag true
  pub first : IsFirst level node.machine.control.high
  pub whole : plan.memory % 4 ≡ 0
  pub tells : Tells s n plan.memory node.machine.store
  pub permits : Permits s n (claims_of node.machine.control)
  pub flags : HasFlags s n node.machine.control.registers

module _ (s : State) (n : ℕ) (plan : NodePlan) (named : Seat → Name) (sent : ℕ → Option Pending) (node : Node)
    (shown : ShowsNode s n plan named sent node) (steady : IsSteady node) where
  abbrev m : Control
  m = node.machine.control

  -- the size of the memory
  pub whole_memory : plan.memory % 4 ≡ 0
  whole_memory = subst (λ z. z % 4 ≡ 0) shown.size steady.sized.size.2

  pub told : Tells s n plan.memory node.machine.store
  told = tells_from s n plan.memory node.machine.store shown.size whole_memory shown.store

  pub permitted : Permits s n (claims_of m)
  permitted =
      record {
        reads = λ k e. free_words_are_readable s n plan named sent node shown steady.placed k e;
        writes = λ k e z. unsent_words_are_writable s n plan named sent node shown steady.placed k e z;
      }

  -- where a high process is queued, high ones have run
  pub high_has_run : (w : ℕ) (ws : List ℕ) → m.high ≡ w ∷ ws → s (HasRun n 0) ≡ IsFlag true
  high_has_run w ws e =
      let in_high : Contains m.high w = rw e (0, omega arith, refl) in
      let c : Contains (descheduled m) w =
      Contains-append_left (m.high ++ m.low) _ w (Contains-append_left m.high m.low w in_high) in
      let aligned : w % 4 ≡ 0 =
      eqb-true _ _ (All-contains (IsWorkspace (length node.machine.store)) (descheduled m) w
      steady.placed.claimed.saved c).0 in
      let high : priority_of w ≡ 0 = omega (arith, aligned) in
      let same : workspace_of w ≡ w = omega (arith, aligned) in
      let among : is_among w m.high ≡ true =
      rw e (or_left (w == w) (list_any (λ v. v == w) ws) (eq-eqb w w refl)) in
      let taken : is_taken m (Queued w) ≡ true =
      subst (λ v. is_among v (queue m (priority_of w)) ≡ true) (sym same)
      (subst (λ l. is_among w (queue m l) ≡ true) (sym high) among) in
      let seat : IsSeated s n node (Queued w) (named (Queued w)) = shown.processes.seated (Queued w) taken in
      ap (λ q. s (HasRun n q)) (sym high) ∙ by_stand seat.stand seat.fits seat.has_run
    where
      by_stand : (stand : Stand) → Fits node (Queued w) stand
          → IfSome (context_in stand) (λ k. s (HasRun n k.priority) ≡ IsFlag true)
          → s (HasRun n (priority_of w)) ≡ IsFlag true
      by_stand (Rests d) f h = ap (λ q. s (HasRun n q)) (sym f.priority) ∙ h
      by_stand (Chosen d) f h = ap (λ q. s (HasRun n q)) (sym f.0.priority) ∙ h
      by_stand Absent f h = absurd f
      by_stand (Runs d) f h = absurd f
      by_stand (Waits d) f h = absurd f
      by_stand Ended f h = absurd f
      by_stand (Chooses d) f h = absurd f
      by_stand (Listens channel d) f h = absurd f

  module _ (kept : KeepsFlags s n) (level : ℕ) (current : m.current ≡ Some level) (small : level < 2)
      (runs : is_dispatching m.current m.high ≡ false) where
    -- no high process is queued beside a low one
    is_first : IsFirst level m.high
    is_first = by level m.high (subst (λ (o : Option ℕ). is_dispatching o m.high ≡ false) current runs)
      where
        by : (level : ℕ) (high : List ℕ) → is_dispatching (Some level) high ≡ false → IsFirst level high
        by zero high h = tt
        by (suc j) [] h = refl
        by (suc j) (w ∷ ws) h = absurd (true≢false h)

    pub runs_there : (x : Name) → named Current ≡ x → RunsThere s n plan node x
    runs_there x name = with_seat (shown.processes.seated Current (rw current refl))
      where
        by_stand : IsSeated s n node Current (named Current) → (stand : Stand)
            → s (Standing (named Current)) ≡ IsStand stand → Fits node Current stand
            → IfSome (context_in stand) (λ k. s (HasRun n k.priority) ≡ IsFlag true) → RunsThere s n plan node x
        by_stand q (Runs d) e f h =
            let knows : HasRegisters level m.registers d = rw current at f in
            record {
              home = subst (λ (y : Name). y.node ≡ n) name q.home;
              level = level;
              small = small;
              current = current;
              context = d;
              stood = ap (λ y. s (Standing y)) (sym name) ∙ e;
              registers = knows;
              has_run = ap (λ q. s (HasRun n q)) (sym knows.priority) ∙ h;
              first = is_first;
              whole = whole_memory;
              tells = told;
              permits = permitted;
              flags = shown.processes.flags kept;
            }
        by_stand q Absent e f h = absurd f
        by_stand q (Rests d) e f h = absurd f
        by_stand q (Waits d) e f h = absurd f
        by_stand q Ended e f h = absurd f
        by_stand q (Chooses d) e f h = absurd f
        by_stand q (Chosen d) e f h = absurd f
        by_stand q (Listens channel d) e f h = absurd f

        with_seat : IsSeated s n node Current (named Current) → RunsThere s n plan node x
        with_seat q = by_stand q q.stand q.stands q.fits q.has_run

  -- an interrupted process is another one than the one that runs: their priorities differ
  pub interrupted_apart : Plan → (x : Name) → RunsThere s n plan node x → is_some m.interrupted ≡ true
      → same_name x (named Interrupted) ≡ false
  interrupted_apart p x r h = by m.interrupted refl h
    where
      high : (t : Suspended) → m.interrupted ≡ Some t → r.level ≡ 0
      high t e = of r.level r.small r.current
        where
          of : (level : ℕ) → level < 2 → m.current ≡ Some level → level ≡ 0
          of zero l c = refl
          of (suc zero) l c = let b : m.current ≢ Some 1 = rw e at steady.placed.below in absurd (b c)
          of (suc (suc j)) l c = absurd (omega (arith, l))

      by_stand : (t : Suspended) → m.interrupted ≡ Some t → (stand : Stand)
          → s (Standing (named Interrupted)) ≡ IsStand stand → Fits node Interrupted stand
          → same_name x (named Interrupted) ≡ false
      by_stand t e (Runs d) f g =
          let knows : HasRegisters 1 t.registers d = rw e at g in
          other_name p s x (named Interrupted) (Runs r.context) (Runs d) is_high r.stood f
          (eq-eqb r.context.priority 0 (r.registers.priority ∙ high t e))
          (ne_eqb d.priority 0 (λ i. omega (arith, knows.priority, i)))
      by_stand t e Absent f g = absurd g
      by_stand t e (Rests d) f g = absurd g
      by_stand t e (Waits d) f g = absurd g
      by_stand t e Ended f g = absurd g
      by_stand t e (Chooses d) f g = absurd g
      by_stand t e (Chosen d) f g = absurd g
      by_stand t e (Listens channel d) f g = absurd g

      by : (o : Option Suspended) → m.interrupted ≡ o → is_some o ≡ true → same_name x (named Interrupted) ≡ false
      by None e g = absurd (true≢false (sym g))
      by (Some t) e g =
          let seat : IsSeated s n node Interrupted (named Interrupted) =
          shown.processes.seated Interrupted (rw e refl) in
          by_stand t e seat.stand seat.stands seat.fits

-- no process was interrupted where a low one runs
pub low_alone : (m : Machine) → IsPlaced m → m.control.current ≡ Some 1 → m.control.interrupted ≡ None
low_alone m placed low = by m.control.interrupted refl
  where
    by : (o : Option Suspended) → m.control.interrupted ≡ o → m.control.interrupted ≡ None
    by None e = e
    by (Some t) e = let h : m.control.current ≡ Some 1 → ⊥ = rw e at placed.below in absurd (h low)
