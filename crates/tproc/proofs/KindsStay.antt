-- Each move of a processor leaves the kind of its node and the size of its memory.
use Rattle.std.proofs.Common.{◌≡◌, ℕ, zero, suc, ◌+◌, ◌-◌, refl, ◌∙◌, [], ◌∷◌, length, Ok}
use Rattle.std.proofs.Common.{Option, Some, None, arith}
use Rattle.std.proofs.lemmas.Bool.{le-leb, and_from}
use Rattle.tword.specs.declared.kind.Kind.{Kind}
use Rattle.tword.specs.Words.{most_neg}
use Rattle.tword.specs.Stores.{Store}
use Rattle.tword.specs.Claims.{Claims}
use Rattle.tword.specs.Actions.{Action, run}
use Rattle.tword.proofs.Leads.{Leads, leads_run}
use Rattle.tproc.specs.declared.offer.Offer.{Offer}
use Rattle.tproc.specs.declared.ran.Ran.{Ran}
use Rattle.tproc.specs.Kinds.{IsSized, IsAlike, KindsStay}
use Rattle.tproc.specs.Links.{finished, finish_output, finish_input, notice, wakes}
use Rattle.tproc.specs.LinkChannels.{link_end, with_link}
use Rattle.tproc.specs.Machine.{Control, Machine, claims_of, workspace_of, priority_of}
use Rattle.tproc.specs.Messages.{input_of, HasByte, with_byte}
use Rattle.tproc.specs.Opening.{added}
use Rattle.tproc.specs.Placement.{IsPlaced}
use Rattle.tproc.specs.Queues.{appended, release, without_waiter, add_process, admit}
use Rattle.tproc.specs.SavedWords.{OfEachMove}
use Rattle.tproc.specs.Steps.{step, control_step}
use Rattle.tproc.proofs.ClaimMeaning.{guarded_self}
use Rattle.tproc.proofs.ClaimMoves.{enqueue_to}
use Rattle.tproc.proofs.Leaving.{act-gives, act_or_unchanged-gives, added-gives, notify-gives, step-leaves}
use Rattle.tproc.proofs.Leaving.{finish_input-leaves, finish_output-leaves, notice-leaves}
use Rattle.tproc.proofs.Handing.{Lies, buffer_lies}
use Rattle.tproc.proofs.LinkClaims.{noticing}
use Rattle.tproc.proofs.Opening.{loaded-size}
use Rattle.tproc.proofs.Pending.{at_some}
use Rattle.tproc.proofs.StepMoves.{RowsKeep}
use Rattle.tproc.proofs.StepRows.{control-keeps}
use Rattle.tproc.proofs.Untouched.{run-size}

-- queueing a process leaves the kind
appended-kind : (w p : ℕ) (m : Control) → (appended w p m).kind ≡ m.kind
appended-kind w zero m = refl
appended-kind w (suc p) m = refl

-- and so does each move of a row
kinds_kept : (n : ℕ) (k : Kind) → RowsKeep n (λ kind high low waiting links. kind ≡ k)
kinds_kept n k =
    record {
      waits = λ process reason m c h f own d. h;
      released = λ process p reason m h waits unlinked. appended-kind (workspace_of process) p
          (without_waiter process m)
          ∙ h;
      released_waits = λ other p awaited process reason m c h f own d waits unlinked.
          appended-kind (workspace_of other) p (without_waiter other m) ∙ h;
      queued = λ process p m c h f d. appended-kind (workspace_of process) p m ∙ h;
      marked = λ l e m out inp noticed h. h;
      offered_output = λ process channel buffer length m c h f own more free d j. h;
      offered_input = λ process channel buffer length m c h f own more free d j. h;
      first_high = λ w ws m e h. h;
      first_low = λ w ws m e h. h;
    }

-- the processors of one kind
module _ (k : Kind) where
  abbrev IsOf : Machine → Type 0
  IsOf n = n.control.kind ≡ k

  abbrev PartIsOf : Claims → Control → Type 0
  PartIsOf d m = m.kind ≡ k

  step-kind : (n n' : Machine) (r : Ran) → IsOf n → step n ≡ Ok (n', r) → IsOf n'
  unfolding step
  step-kind n n' r h e =
      act-gives IsOf n (λ m. control_step m.halted m) n' r (λ m q t f.
      (leads_run (λ d (r : Control × Ran). r.0.kind ≡ k) (control_step n.control.halted n.control) n.store n.store
      (claims_of n.control) (m, q) t
      (control-keeps (length n.store) (λ kind high low waiting links. kind ≡ k) (kinds_kept (length n.store) k)
      n.control.halted n.control (claims_of n.control) (h, guarded_self n.control)) f).1) e

  -- what a part answers
  part-kind : (n : Machine) (x : Action Control) (m : Control) (t : Store)
      → Leads (length n.store) PartIsOf (claims_of n.control) x
      → run x n.store (claims_of n.control) ≡ Ok (m, t) → m.kind ≡ k
  part-kind n x m t h e = (leads_run PartIsOf x n.store n.store (claims_of n.control) m t h e).1

  release-kind : (n process : ℕ) (m : Control) (c : Claims) → m.kind ≡ k → Leads n PartIsOf c (release process m)
  unfolding release
  release-kind n process m c h =
      enqueue_to n (λ m'. m'.kind ≡ k) process (without_waiter process m) c
      (appended-kind (workspace_of process) (priority_of process) (without_waiter process m) ∙ h)

  finished-kind : (n : ℕ) (o : Option Offer) (m : Control) (c : Claims) → m.kind ≡ k
      → Leads n PartIsOf c (finished o m)
  finished-kind n None m c h = h
  finished-kind n (Some o) m c h = release-kind n o.wdesc m c h

  finish_output-kind : (l : ℕ) (n : Machine) → IsOf n → IsOf (finish_output l n)
  unfolding finish_output
  finish_output-kind l n h =
      act_or_unchanged-gives IsOf n
      (λ m. finished (link_end m l).output (with_link l (record (link_end m l) { output = None }) m)) h
      (λ m t e. part-kind n
      (finished (link_end n.control l).output (with_link l (record (link_end n.control l) { output = None }) n.control))
      m t (finished-kind (length n.store) (link_end n.control l).output _ (claims_of n.control) h) e)

  finish_input-kind : (l : ℕ) (n : Machine) → IsOf n → IsOf (finish_input l n)
  unfolding finish_input
  finish_input-kind l n h =
      act_or_unchanged-gives IsOf n
      (λ m. finished (link_end m l).input (with_link l (record (link_end m l) { input = None }) m)) h
      (λ m t e. part-kind n
      (finished (link_end n.control l).input (with_link l (record (link_end n.control l) { input = None }) n.control))
      m t (finished-kind (length n.store) (link_end n.control l).input _ (claims_of n.control) h) e)

  notice-kind : (l : ℕ) (n : Machine) → IsOf n → IsOf (notice l n)
  unfolding notice
  notice-kind l n h =
      notify-gives IsOf (noticing l n) h
      (λ process m t s e. part-kind (noticing l n) (wakes process (noticing l n).control) m t
      (release-kind (length n.store) process (noticing l n).control (claims_of (noticing l n).control) h) e)
      (λ A x a t e. h) (link_end n.control l).remembered

  add_process-kind : (n process iptr : ℕ) (m : Control) (c : Claims) → m.kind ≡ k
      → Leads n PartIsOf c (add_process process iptr m)
  unfolding admit
  add_process-kind n process iptr m c h = λ _ _ _ _.
      enqueue_to n (λ m'. m'.kind ≡ k) process m _
      (appended-kind (workspace_of process) (priority_of process) m ∙ h)

  added-kind : (process iptr : ℕ) (n n' : Machine) → IsOf n → added process iptr n ≡ Ok n' → IsOf n'
  added-kind process iptr n n' h e =
      added-gives IsOf n process iptr n'
      (λ m t f. part-kind n (add_process process iptr n.control) m t
      (add_process-kind (length n.store) process iptr n.control (claims_of n.control) h) f) e

-- a store of as many bytes
abbrev IsAsLong : Machine → Store → Type 0
IsAsLong n s = length s ≡ length n.store

-- each move leaves the kind and the size
pub kinds_stay : KindsStay
kinds_stay n p =
    record {
      steps = λ n' r e. record {
        kind = step-kind n.control.kind n n' r refl e;
        size = step-leaves (IsAsLong n) n refl stays n' r e;
      };
      notices = λ l. record {
        kind = notice-kind n.control.kind l n refl;
        size = notice-leaves (IsAsLong n) l n refl stays;
      };
      outputs = λ l. record {
        kind = finish_output-kind n.control.kind l n refl;
        size = finish_output-leaves (IsAsLong n) n refl stays l;
      };
      inputs = λ l. record {
        kind = finish_input-kind n.control.kind l n refl;
        size = finish_input-leaves (IsAsLong n) n refl stays l;
      };
      bytes = λ l i byte h. of_byte l i byte (input_of n l) refl h;
      additions = λ process iptr n' w e. record {
        kind = added-kind n.control.kind process iptr n n' refl e;
        size = added-gives (λ (m : Machine). IsAsLong n m.store) n process iptr n'
            (λ m t f. stays Control (add_process process iptr n.control) m t f) e;
      };
      loads = λ start bytes inside clear. record { kind = refl; size = loaded-size start bytes n inside };
    }
  where
    stays : (A : Type 0) (x : Action A) (a : A) (t : Store) → run x n.store (claims_of n.control) ≡ Ok (a, t)
        → IsAsLong n t
    stays A x a t e = run-size n p.claimed p.apart x a t e

    of_byte : (l i byte : ℕ) (o : Option Offer) → input_of n l ≡ o → HasByte o i → IsAlike n (with_byte o i byte n)
    of_byte l i byte None e h = absurd h
    of_byte l i byte (Some o) e h =
        let lies : Lies (length n.store) o =
        buffer_lies (length n.store) o (at_some (link_end n.control l).input _ o e (p.claimed.inputs l)).1 in
        record {
          kind = refl;
          size = loaded-size (o.buffer + i) (byte ∷ []) n
              (and_from _ _ (le-leb most_neg (o.buffer + i) (omega (arith, lies.above)))
              (le-leb (o.buffer + i - most_neg + 1) (length n.store) (omega (arith, lies.above, lies.within, h))));
        }

-- each move leaves a size that one of its kind may have
pub sizes_stay : (n : Machine) → IsPlaced n → IsSized n → OfEachMove (λ n n'. IsSized n') n
sizes_stay n p s =
    record {
      steps = λ n' r e. sized n' (h.steps n' r e);
      notices = λ l. sized _ (h.notices l);
      outputs = λ l. sized _ (h.outputs l);
      inputs = λ l. sized _ (h.inputs l);
      bytes = λ l i byte b. sized _ (h.bytes l i byte b);
      additions = λ process iptr n' w e. sized n' (h.additions process iptr n' w e);
      loads = λ start bytes inside clear. sized _ (h.loads start bytes inside clear);
    }
  where
    h : OfEachMove IsAlike n
    h = kinds_stay n p

    sized : (n' : Machine) → IsAlike n n' → IsSized n'
    sized n' a = record { size = rw (a.kind, a.size) s.size }
