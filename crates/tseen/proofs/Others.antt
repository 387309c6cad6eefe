-- The seats of other processes stay taken as they were.
use Rattle.std.proofs.Common.{◌≡◌, ℕ, refl, sym, ap, subst, ◌∙◌, Bool, true, false, true≢false, Option, Some}
use Rattle.std.specs.Prelude.{IfSome}
use Rattle.std.proofs.lemmas.Option.{IfSome_then}
use Rattle.tword.specs.Stores.{Store, word_at}
use Rattle.tword.specs.Words.{word_below}
use Rattle.tplan.specs.declared.plan.Plan.{Plan}
use Rattle.tproc.specs.declared.waiter.Suspended.{Suspended}
use Rattle.tproc.specs.Machine.{workspace_of}
use Rattle.tproc.specs.declared.waiter.Reason.TheVariants as waits
use Rattle.tproc.specs.ProcessStatus.{reason_of}
use Rattle.tproc.specs.Queues.{iptr_word}
use Rattle.tnet.specs.Rendezvous.{Node}
use Rattle.tprocesses.specs.Places.{Name, Standing, HasRun, same_name}
use Rattle.tprocesses.specs.Values.{Chosen, Listens, Chooses, Value, Context, Stand, Absent, Rests, Runs, Waits, Ended}
use Rattle.tprocesses.specs.Values.{IsStand, IsFlag}
use Rattle.tseen.specs.Known.{HasRegisters, HasSaved}
use Rattle.tseen.specs.Seats.{Interrupted, Queued, Waiting}
use Rattle.tseen.specs.Processes.{Fits, IsSeated, HasPassed, context_in}
use Rattle.tseen.proofs.After.{State}
use Rattle.tseen.proofs.Finished.{one_name}

-- what a process will go on with stays where its saved Iptr does
pub saved_stays : (store store' : Store) (process : ℕ) (k : Context)
    → word_at store' (word_below (workspace_of process) iptr_word)
    ≡ word_at store (word_below (workspace_of process) iptr_word)
    → HasSaved store process k → HasSaved store' process k
saved_stays store store' process k same w =
    record {
      priority = w.priority;
      wptr = w.wptr;
      iptr = w.iptr ∙ sym same;
      a = w.a;
      b = w.b;
      c = w.c;
    }

-- two processes stand in different ways, so they are two
pub other_name : (p : Plan) (s : State) (x y : Name) (a b : Stand) (test : Value → Bool) → s (Standing x) ≡ IsStand a
    → s (Standing y) ≡ IsStand b → test (IsStand a) ≡ true → test (IsStand b) ≡ false → same_name x y ≡ false
other_name p s x y a b test e f h k = by (same_name x y) refl
  where
    by : (t : Bool) → same_name x y ≡ t → same_name x y ≡ false
    by false g = g
    by true g =
        absurd (true≢false (sym h ∙ ap test (sym e ∙ ap (λ z. s (Standing z)) (one_name p x y g) ∙ f) ∙ k))

module _ (n : ℕ) (s s' : State) (run_stays : (q : ℕ) → s' (HasRun n q) ≡ s (HasRun n q)) (node node' : Node) where
  has_run_stays : (stand : Stand) → IfSome (context_in stand) (λ k. s (HasRun n k.priority) ≡ IsFlag true)
      → IfSome (context_in stand) (λ k. s' (HasRun n k.priority) ≡ IsFlag true)
  has_run_stays stand h =
      IfSome_then (context_in stand) h (λ k e. run_stays k.priority ∙ e)

  -- a process that is queued and stays where it was
  pub queued_stays : (process : ℕ) (y : Name) → s' (Standing y) ≡ s (Standing y)
      → word_at node'.machine.store (word_below (workspace_of process) iptr_word)
      ≡ word_at node.machine.store (word_below (workspace_of process) iptr_word)
      → IsSeated s n node (Queued process) y → IsSeated s' n node' (Queued process) y
  queued_stays process y stays same k = by k.stand k.stands k.fits k.has_run
    where
      by : (stand : Stand) → s (Standing y) ≡ IsStand stand → Fits node (Queued process) stand
          → IfSome (context_in stand) (λ k. s (HasRun n k.priority) ≡ IsFlag true)
          → IsSeated s' n node' (Queued process) y
      by (Rests d) e f r =
          record {
            home = k.home;
            stand = Rests d;
            stands = stays ∙ e;
            fits = saved_stays node.machine.store node'.machine.store process d same f;
            has_run = has_run_stays (Rests d) r;
          }
      by (Chosen d) e f r =
          record {
            home = k.home;
            stand = Chosen d;
            stands = stays ∙ e;
            fits = (saved_stays node.machine.store node'.machine.store process d same f.0, f.1);
            has_run = has_run_stays (Chosen d) r;
          }
      by Absent e f r = absurd f
      by (Runs d) e f r = absurd f
      by (Waits d) e f r = absurd f
      by Ended e f r = absurd f
      by (Chooses d) e f r = absurd f
      by (Listens channel d) e f r = absurd f

  -- and one that waits
  pub waiting_stays : (process : ℕ) (y : Name) → s' (Standing y) ≡ s (Standing y)
      → (HasPassed node process → HasPassed node' process)
      → (reason_of node.machine.control process ≡ Some waits.Chooses
      → reason_of node'.machine.control process ≡ Some waits.Chooses)
      → word_at node'.machine.store (word_below (workspace_of process) iptr_word)
      ≡ word_at node.machine.store (word_below (workspace_of process) iptr_word)
      → IsSeated s n node (Waiting process) y → IsSeated s' n node' (Waiting process) y
  waiting_stays process y stays passed chooses same k = by k.stand k.stands k.fits k.has_run
    where
      by : (stand : Stand) → s (Standing y) ≡ IsStand stand → Fits node (Waiting process) stand
          → IfSome (context_in stand) (λ k. s (HasRun n k.priority) ≡ IsFlag true)
          → IsSeated s' n node' (Waiting process) y
      by (Rests d) e f r =
          record {
            home = k.home;
            stand = Rests d;
            stands = stays ∙ e;
            fits = (saved_stays node.machine.store node'.machine.store process d same f.0, passed f.1);
            has_run = has_run_stays (Rests d) r;
          }
      by (Waits d) e f r =
          record {
            home = k.home;
            stand = Waits d;
            stands = stays ∙ e;
            fits = (saved_stays node.machine.store node'.machine.store process d same f.0, f.1);
            has_run = has_run_stays (Waits d) r;
          }
      by (Chooses d) e f r =
          record {
            home = k.home;
            stand = Chooses d;
            stands = stays ∙ e;
            fits = (
              saved_stays node.machine.store node'.machine.store process d same f.0,
              f.1,
              chooses f.2,
            );
            has_run = has_run_stays (Chooses d) r;
          }
      by Absent e f r = absurd f
      by (Runs d) e f r = absurd f
      by Ended e f r = absurd f
      by (Chosen d) e f r = absurd f
      by (Listens channel d) e f r = absurd f

  -- a process that was interrupted
  pub interrupted_stays : (y : Name) → s' (Standing y) ≡ s (Standing y)
      → node'.machine.control.interrupted ≡ node.machine.control.interrupted
      → IsSeated s n node Interrupted y → IsSeated s' n node' Interrupted y
  interrupted_stays y stays same k = by k.stand k.stands k.fits k.has_run
    where
      by : (stand : Stand) → s (Standing y) ≡ IsStand stand → Fits node Interrupted stand
          → IfSome (context_in stand) (λ k. s (HasRun n k.priority) ≡ IsFlag true)
          → IsSeated s' n node' Interrupted y
      by (Runs d) e f r =
          record {
            home = k.home;
            stand = Runs d;
            stands = stays ∙ e;
            fits = subst (λ (o : Option Suspended). IfSome o (λ t. HasRegisters 1 t.registers d)) (sym same) f;
            has_run = has_run_stays (Runs d) r;
          }
      by Absent e f r = absurd f
      by (Rests d) e f r = absurd f
      by (Waits d) e f r = absurd f
      by Ended e f r = absurd f
      by (Chooses d) e f r = absurd f
      by (Chosen d) e f r = absurd f
      by (Listens channel d) e f r = absurd f

-- where one process alone stands elsewhere, each other one keeps its seat
module _ (n : ℕ) (x : Name) (s s' : State)
    (stand_stays : (y : Name) → same_name x y ≡ false → s' (Standing y) ≡ s (Standing y))
    (run_stays : (q : ℕ) → s' (HasRun n q) ≡ s (HasRun n q)) (node node' : Node) where
  -- another process that is queued
  pub queued_seated : (process : ℕ) (y : Name) → same_name x y ≡ false
      → word_at node'.machine.store (word_below (workspace_of process) iptr_word)
      ≡ word_at node.machine.store (word_below (workspace_of process) iptr_word)
      → IsSeated s n node (Queued process) y → IsSeated s' n node' (Queued process) y
  queued_seated process y other = queued_stays n s s' run_stays node node' process y (stand_stays y other)

  -- another process that waits
  pub waiting_seated : (process : ℕ) (y : Name) → same_name x y ≡ false
      → (HasPassed node process → HasPassed node' process)
      → (reason_of node.machine.control process ≡ Some waits.Chooses
      → reason_of node'.machine.control process ≡ Some waits.Chooses)
      → word_at node'.machine.store (word_below (workspace_of process) iptr_word)
      ≡ word_at node.machine.store (word_below (workspace_of process) iptr_word)
      → IsSeated s n node (Waiting process) y → IsSeated s' n node' (Waiting process) y
  waiting_seated process y other = waiting_stays n s s' run_stays node node' process y (stand_stays y other)

  -- a process that was interrupted
  pub interrupted_seated : (y : Name) → same_name x y ≡ false
      → node'.machine.control.interrupted ≡ node.machine.control.interrupted
      → IsSeated s n node Interrupted y → IsSeated s' n node' Interrupted y
  interrupted_seated y other = interrupted_stays n s s' run_stays node node' y (stand_stays y other)

-- a process runs there
abbrev pub is_running : Value → Bool
is_running (IsStand (Runs c)) = true
is_running _ = false

-- how a process stands that is queued or waits: it does not run
pub queued_not_running : (node : Node) (process : ℕ) (stand : Stand) → Fits node (Queued process) stand
    → is_running (IsStand stand) ≡ false
queued_not_running node process (Rests d) f = refl
queued_not_running node process Absent f = refl
queued_not_running node process (Runs d) f = absurd f
queued_not_running node process (Waits d) f = refl
queued_not_running node process Ended f = refl
queued_not_running node process (Chooses d) f = refl
queued_not_running node process (Chosen d) f = refl
queued_not_running node process (Listens channel d) f = refl

pub waiting_not_running : (node : Node) (process : ℕ) (stand : Stand) → Fits node (Waiting process) stand
    → is_running (IsStand stand) ≡ false
waiting_not_running node process (Rests d) f = refl
waiting_not_running node process Absent f = refl
waiting_not_running node process (Runs d) f = absurd f
waiting_not_running node process (Waits d) f = refl
waiting_not_running node process Ended f = refl
waiting_not_running node process (Chooses d) f = refl
waiting_not_running node process (Chosen d) f = refl
waiting_not_running node process (Listens channel d) f = refl
