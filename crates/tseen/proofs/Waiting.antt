-- A process that waits: it has a name of its own.
use Rattle.std.proofs.Common.{◌≡◌, ℕ, refl, sym, ap, subst, ◌∙◌, Bool, true, false, Option, Some, arith, ◌⊎◌, inl, inr}
use Rattle.std.specs.Prelude.{IfSome, is_some}
use Rattle.tproc.specs.declared.waiter.Reason.TheVariants as waits
use Rattle.tproc.specs.Machine.{Control}
use Rattle.tproc.specs.ProcessStatus.{is_queued, reason_of}
use Rattle.tplan.specs.declared.plan.NodePlan.{NodePlan}
use Rattle.tplan.specs.declared.plan.Plan.{Plan}
use Rattle.tnet.specs.Rendezvous.{Node}
use Rattle.tprocesses.specs.Places.{Name, Standing, HasRun, same_name}
use Rattle.tprocesses.specs.Values.{Chosen, Listens, Chooses, Value, Context, Stand, Absent, Rests, Runs, Waits, Ended}
use Rattle.tprocesses.specs.Values.{IsStand, IsFlag}
use Rattle.tseen.specs.Known.{HasSaved}
use Rattle.tseen.specs.Seats.{Seat, Queued, Waiting}
use Rattle.tseen.specs.Outputs.{Pending}
use Rattle.tseen.specs.Processes.{Fits, IsSeated, context_in}
use Rattle.tseen.specs.Shown.{ShowsNode}
use Rattle.tseen.proofs.After.{State}
use Rattle.tseen.proofs.Finished.{one_name}
use Rattle.tseen.proofs.Others.{other_name}

-- a process does not run
abbrev pub not_running : Value → Bool
not_running (IsStand (Runs c)) = false
not_running _ = true

module _ (s : State) (n : ℕ) (node : Node) where
  -- a process that waits stands so, with this context
  pub record IsWaiting (process : ℕ) (x : Name) : Type 0 where
    pub home : x.node ≡ n
    pub context : Context
    pub stand : Stand
    pub stood : s (Standing x) ≡ IsStand stand
    pub how : (stand ≡ Rests context) ⊎ ((stand ≡ Waits context)
        ⊎ (reason_of node.machine.control process ≡ Some waits.Chooses))
    pub idle : not_running (IsStand stand) ≡ true
    pub saved : HasSaved node.machine.store process context
    pub has_run : s (HasRun n context.priority) ≡ IsFlag true

  pub waiting_there : (process : ℕ) (x : Name) → IsSeated s n node (Waiting process) x → IsWaiting process x
  waiting_there process x k = by k.stand k.stands k.fits k.has_run
    where
      by : (stand : Stand) → s (Standing x) ≡ IsStand stand → Fits node (Waiting process) stand
          → IfSome (context_in stand) (λ k. s (HasRun n k.priority) ≡ IsFlag true) → IsWaiting process x
      by (Rests d) e f r =
          record {
            home = k.home;
            context = d;
            stand = Rests d;
            stood = e;
            how = inl refl;
            idle = refl;
            saved = f.0;
            has_run = r;
          }
      by (Waits d) e f r =
          record {
            home = k.home;
            context = d;
            stand = Waits d;
            stood = e;
            how = inr (inl refl);
            idle = refl;
            saved = f.0;
            has_run = r;
          }
      by (Chooses d) e f r =
          record {
            home = k.home;
            context = d;
            stand = Chooses d;
            stood = e;
            how = inr (inr f.2);
            idle = refl;
            saved = f.0;
            has_run = r;
          }
      by Absent e f r = absurd f
      by (Runs d) e f r = absurd f
      by Ended e f r = absurd f
      by (Chosen d) e f r = absurd f
      by (Listens channel d) e f r = absurd f

  -- what a process that is queued or waits will go on with
  saved_in : (q : Seat) (process : ℕ) (stand : Stand) → (q ≡ Queued process) ⊎ (q ≡ Waiting process)
      → Fits node q stand → (d : Context) × (context_in stand ≡ Some d) × HasSaved node.machine.store process d
  saved_in q process stand (inl e) f = by stand (subst (λ (z : Seat). Fits node z stand) e f)
    where
      by : (stand : Stand) → Fits node (Queued process) stand
          → (d : Context) × (context_in stand ≡ Some d) × HasSaved node.machine.store process d
      by (Rests d) f = (d, refl, f)
      by (Chosen d) f = (d, refl, f.0)
      by Absent f = absurd f
      by (Runs d) f = absurd f
      by (Waits d) f = absurd f
      by Ended f = absurd f
      by (Chooses d) f = absurd f
      by (Listens channel d) f = absurd f
  saved_in q process stand (inr e) f = by stand (subst (λ (z : Seat). Fits node z stand) e f)
    where
      by : (stand : Stand) → Fits node (Waiting process) stand
          → (d : Context) × (context_in stand ≡ Some d) × HasSaved node.machine.store process d
      by (Rests d) f = (d, refl, f.0)
      by (Chooses d) f = (d, refl, f.0)
      by (Waits d) f = (d, refl, f.0)
      by Absent f = absurd f
      by (Runs d) f = absurd f
      by Ended f = absurd f
      by (Chosen d) f = absurd f
      by (Listens channel d) f = absurd f

  -- two that are queued or wait under one name are the same
  pub one_process : (q r : Seat) (a b : ℕ) (x : Name) → (q ≡ Queued a) ⊎ (q ≡ Waiting a)
      → (r ≡ Queued b) ⊎ (r ≡ Waiting b) → IsSeated s n node q x → IsSeated s n node r x → a ≡ b
  one_process q r a b x e f k l =
      let g : k.stand ≡ l.stand = stand_of (sym k.stands ∙ l.stands) in
      let c = saved_in q a k.stand e k.fits in
      let d = saved_in r b l.stand f l.fits in
      let same : c.0 ≡ d.0 = some_of (sym c.1 ∙ ap context_in g ∙ d.1) in
      omega (
        arith,
        c.2.priority,
        c.2.wptr,
        d.2.priority,
        d.2.wptr,
        ap (λ (z : Context). z.priority) same,
        ap (λ (z : Context). z.wptr) same,
      )
    where
      stand_of : {a b : Stand} → IsStand a ≡ IsStand b → a ≡ b
      stand_of e = cc

      some_of : {a b : Context} → Some a ≡ Some b → a ≡ b
      some_of e = cc

module _ (p : Plan) (s : State) (n : ℕ) (plan : NodePlan) (named : Seat → Name) (sent : ℕ → Option Pending)
    (node : Node) (shown : ShowsNode s n plan named sent node) (process : ℕ)
    (taken : is_some (reason_of node.machine.control process) ≡ true) where
  abbrev m : Control
  m = node.machine.control

  abbrev x : Name
  x = named (Waiting process)

  pub seat_there : IsSeated s n node (Waiting process) x
  seat_there = shown.processes.seated (Waiting process) taken

  pub waits_there : IsWaiting s n node process x
  waits_there = waiting_there s n node process x seat_there

  -- so its name is none of a process that runs
  pub not_runs : (y : Name) (d : Context) → s (Standing y) ≡ IsStand (Runs d) → same_name x y ≡ false
  not_runs y d e = other_name p s x y waits_there.stand (Runs d) not_running waits_there.stood e waits_there.idle refl

  other : (y : Name) → (y ≡ x → ⊥) → same_name x y ≡ false
  other y h = by (same_name x y) refl
    where
      by : (b : Bool) → same_name x y ≡ b → same_name x y ≡ false
      by false e = e
      by true e = absurd (h (sym (one_name p x y e)))

  -- nor of another one that is queued or waits
  pub other_queued : (b : ℕ) → (b ≡ process → ⊥) → is_queued m b ≡ true → same_name x (named (Queued b)) ≡ false
  other_queued b n' h =
      other (named (Queued b)) (λ e. n' (one_process s n node (Queued b) (Waiting process) b process x (inl refl)
      (inr refl) (subst (IsSeated s n node (Queued b)) e (shown.processes.seated (Queued b) h)) seat_there))

  pub other_waiting : (b : ℕ) → (b ≡ process → ⊥) → is_some (reason_of m b) ≡ true
      → same_name x (named (Waiting b)) ≡ false
  other_waiting b n' h =
      other (named (Waiting b)) (λ e. n' (one_process s n node (Waiting b) (Waiting process) b process x (inr refl)
      (inr refl) (subst (IsSeated s n node (Waiting b)) e (shown.processes.seated (Waiting b) h)) seat_there))
