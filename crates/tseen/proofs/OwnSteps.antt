-- The own step of each processor is seen as steps of a run of a plan with a certificate, if there is one.
use Rattle.std.proofs.Common.{◌≡◌, ℕ, zero, suc, ◌+◌, ◌<◌, refl, subst, List, [], ◌∷◌, true}
use Rattle.std.proofs.Common.{false, Option, Some, None, arith, ◌⊎◌, inl, inr}
use Rattle.std.specs.Prelude.{slice_get, IfSome}
use Rattle.tproc.specs.declared.waiter.Suspended.{Suspended}
use Rattle.tproc.specs.Machine.{Control}
use Rattle.tproc.specs.Resting.{is_idle}
use Rattle.tplan.specs.declared.plan.NodePlan.{NodePlan}
use Rattle.tplan.specs.declared.plan.Plan.{Plan}
use Rattle.tnet.specs.Rendezvous.{Node, Configuration, node_of}
use Rattle.tprocesses.specs.Places.{Name}
use Rattle.tprocesses.specs.Machine.{Process}
use Rattle.tprocesses.specs.Certified.{ProcessStep, IsCertificate}
use Rattle.tseen.specs.Seats.{Current, Queued}
use Rattle.tseen.specs.Shown.{Shows, ShowsNode}
use Rattle.tseen.specs.Steps.{IsSteady, AreSteady, IsNext, is_dispatching, LeadsTo}
use Rattle.tseen.specs.Steps.{next_queued}
use Rattle.tseen.specs.Interrupting.{IsInterrupting}
use Rattle.tseen.proofs.After.{State}
use Rattle.tseen.proofs.Dispatching.{rests_there}
use Rattle.tseen.proofs.DispatchShown.{dispatches_are_seen}
use Rattle.tseen.proofs.Interruptions.{stepped_aside, is_next, interruptions_are_seen}
use Rattle.tseen.proofs.Weights.{resumption_lighter}
use Rattle.tseen.proofs.Resumptions.{resumptions_are_seen}
use Rattle.tseen.proofs.Due.{process_due}
use Rattle.tseen.proofs.OwnInstructions.{Leads, instruction}
use Rattle.tseen.proofs.Reached.{IsComeTo, GoesOn, kept, on, hands_nothing}

module _ (p : Plan) (steps : List ProcessStep) (end : State) (k : IsCertificate p steps end)
    (c : Configuration) (s : State)
    (shows : Shows p c s) (steady : AreSteady c) (r : IsComeTo p s) (n : ℕ) (plan : NodePlan)
    (planned : slice_get p.nodes n ≡ Some plan) where
  abbrev node : Node
  node = (shows.processors n plan planned).0

  abbrev m : Control
  m = node.machine.control

  here : node_of c n ≡ Some node
  here = (shows.processors n plan planned).1

  shown : ShowsNode s n plan (shows.named n) (shows.sent n) node
  shown = (shows.processors n plan planned).2

  is_steady : IsSteady node
  is_steady = (steady n node here).steady shown.role

  -- a process runs
  running : is_dispatching m.current m.high ≡ false → Leads p c n s r
  running first =
      instruction p steps end k c s r n (shows.named n Current)
      (record {
        shows = shows;
        plan = plan;
        planned = planned;
        node = node;
        here = here;
        steady = is_steady;
        runs = first;
        name = refl;
        kept = kept p steps end k s r n;
      })

  -- a high process interrupts a low one
  interruption : (w : ℕ) (ws : List ℕ) → m.current ≡ Some 1 → m.high ≡ w ∷ ws → Leads p c n s r
  interruption w ws low high =
      record {
        state = first.state;
        reached = first.reached;
        leads = interruptions_are_seen p c s first.state n x interrupts first.makes;
        progress = inl (omega (arith, first.longer));
        quiet = λ e. hands_nothing p (Process x) s r first e refl;
      }
    where
      x : Name
      x = shows.named n (Queued w)

      interrupts : IsInterrupting p c s n x
      interrupts =
          record {
            shows = shows;
            plan = plan;
            planned = planned;
            node = node;
            here = here;
            steady = is_steady;
            low = low;
            process = w;
            others = ws;
            high = high;
            name = refl;
            kept = kept p steps end k s r n;
          }

      first : GoesOn p (Process x) s r
      first =
          on p steps end k s r (Process x)
          (process_due p x s
          (rests_there p (stepped_aside p c s n x interrupts) s n x (is_next p c s n x interrupts)).stand
          (rests_there p (stepped_aside p c s n x interrupts) s n x (is_next p c s n x interrupts)).stood
          (rests_there p (stepped_aside p c s n x interrupts) s n x (is_next p c s n x interrupts)).ready)

  -- a process is dispatched
  dispatch : (process : ℕ) → m.current ≡ None → next_queued m.interrupted m.high m.low ≡ Some process → Leads p c n s r
  dispatch process idle next =
      record {
        state = first.state;
        reached = first.reached;
        leads = dispatches_are_seen p c s first.state n x comes first.makes;
        progress = inl (omega (arith, first.longer));
        quiet = λ e. hands_nothing p (Process x) s r first e refl;
      }
    where
      x : Name
      x = shows.named n (Queued process)

      comes : IsNext p c s n x
      comes =
          record {
            shows = shows;
            plan = plan;
            planned = planned;
            node = node;
            here = here;
            steady = is_steady;
            idle = idle;
            process = process;
            next = next;
            name = refl;
            kept = kept p steps end k s r n;
          }

      first : GoesOn p (Process x) s r
      first =
          on p steps end k s r (Process x)
          (process_due p x s (rests_there p c s n x comes).stand (rests_there p c s n x comes).stood
          (rests_there p c s n x comes).ready)

  -- an interrupted process goes on
  resumption : (t : Suspended) → m.current ≡ None → m.high ≡ [] → m.interrupted ≡ Some t → Leads p c n s r
  resumption t idle none interrupted =
      record {
        state = s;
        reached = r;
        leads = goes;
        progress = inr (
          omega arith,
          resumption_lighter c goes.configuration n node t here shown.runs_on idle none interrupted goes.local,
        );
        quiet = λ e. refl;
      }
    where
      goes : LeadsTo p c n s
      goes =
          resumptions_are_seen p c s n (record {
            shows = shows;
            plan = plan;
            planned = planned;
            node = node;
            here = here;
            steady = is_steady;
            idle = idle;
            no_high = none;
            suspended = t;
            interrupted = interrupted;
            kept = kept p steps end k s r n;
          })

  -- there are two priorities
  no_level : (level : ℕ) → m.current ≡ Some (suc (suc level)) → ⊥
  no_level level e =
      let small : suc (suc level) < 2 =
      subst (λ (o : Option ℕ). IfSome o (λ q. q < 2)) e is_steady.placed.priority in
      omega (arith, small)

  -- so the node is idle, or its own step leads on
  pub own_step : (is_idle m ≡ true) ⊎ Leads p c n s r
  own_step = by m.current refl m.high refl m.interrupted refl m.low refl
    where
      by : (current : Option ℕ) → m.current ≡ current → (high : List ℕ) → m.high ≡ high
          → (interrupted : Option Suspended) → m.interrupted ≡ interrupted → (low : List ℕ) → m.low ≡ low
          → (is_idle m ≡ true) ⊎ Leads p c n s r
      by None e (w ∷ ws) f i g low h = inr (dispatch w e (rw (f, next_queued) refl))
      by None e [] f (Some t) g low h = inr (resumption t e f g)
      by None e [] f None g (w ∷ ws) h = inr (dispatch (w + 1) e (rw (g, f, h) refl))
      by None e [] f None g [] h = inl (rw (e, f, g, h) refl)
      by (Some (suc zero)) e (w ∷ ws) f i g low h = inr (interruption w ws e f)
      by (Some zero) e high f i g low h = inr (running (rw e refl))
      by (Some (suc level)) e [] f i g low h = inr (running (rw (e, f) refl))
      by (Some (suc (suc level))) e (w ∷ ws) f i g low h = absurd (no_level level e)
