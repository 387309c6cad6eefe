-- The two queues and those that wait, as parts of a control: how a process stands there, and what one more changes.
use Rattle.std.proofs.Common.{◌≡◌, ◌∙◌, ℕ, zero, suc, refl, sym, ap, Bool, true, false, cond, Option, Some, None}
use Rattle.std.specs.Prelude.{◌==◌, find, option_map}
use Rattle.tproc.specs.Machine.{Control, workspace_of, priority_of}
use Rattle.tproc.specs.declared.waiter.Entry.{Entry}
use Rattle.tproc.specs.declared.waiter.Reason.{Reason}
use Rattle.tproc.specs.declared.waiter.Waiter.{Waiter}
use Rattle.tproc.specs.declared.process_status.ProcessStatus.TheVariants.{Queued, Runs, Interrupted, Unknown}
use Rattle.tproc.specs.ProcessStatus.{is_among, is_queued, not_waiting, queue, reason_of}
use Rattle.tproc.specs.ProcessStatus.{is_that, current_process, interrupted_process}
use Rattle.tproc.specs.Requests.{IfQueued, reason_in}
use Rattle.tproc.specs.Queues.{appended}
use Rattle.tproc.specs.Entries.{Lists, lists_in, queue_of, queued_at, entry_by, entry_in}

-- a control with other lists
abbrev pub with_lists : Control → Lists → Control
with_lists m l = record m { high = l.high; low = l.low; waiting = l.waiting }

pub same_queue : (m : Control) (p : ℕ) → queue_of (lists_in m) p ≡ queue m p
same_queue m zero = refl
same_queue m (suc p) = refl

-- one more is queued
pub with_queued : (w p : ℕ) (m : Control) → with_lists m (queued_at w p (lists_in m)) ≡ appended w p m
with_queued w zero m = refl
with_queued w (suc p) m = refl

-- a process that is found by its reason, or without one, or that is not found
module _ (m : Control) (p : ℕ) where
  -- the entry of a process is that of its reason and its queue
  by_parts : entry_in (lists_in m) p
      ≡ entry_by p (find (λ w. w.process == p) m.waiting) (is_queued m p)
  by_parts =
      ap (λ q. entry_by p (find (λ w. w.process == p) m.waiting) (is_among (workspace_of p) q))
      (same_queue m (priority_of p))

  pub waits_so : (e : Entry) (r : Reason) → Some e ≡ entry_in (lists_in m) p → e.reason ≡ Some r
      → reason_of m p ≡ Some r
  waits_so e r h k = by (find (λ w. w.process == p) m.waiting) (is_queued m p) (h ∙ by_parts)
    where
      by : (o : Option Waiter) (b : Bool) → Some e ≡ entry_by p o b → option_map (λ (w : Waiter). w.reason) o ≡ Some r
      by (Some w) b i = let f : e.reason ≡ Some w.reason = cc in sym f ∙ k
      by None true i = let f : e.reason ≡ None = cc in cc
      by None false i = cc

  pub queued_so : (e : Entry) → Some e ≡ entry_in (lists_in m) p → e.reason ≡ None
      → (reason_of m p ≡ None) × (is_queued m p ≡ true)
  queued_so e h k = by (find (λ w. w.process == p) m.waiting) (is_queued m p) (h ∙ by_parts)
    where
      by : (o : Option Waiter) (b : Bool) → Some e ≡ entry_by p o b
          → (option_map (λ (w : Waiter). w.reason) o ≡ None) × (b ≡ true)
      by (Some w) b i = let f : e.reason ≡ Some w.reason = cc in cc
      by None true i = (refl, refl)
      by None false i = cc

  pub not_found : None ≡ entry_in (lists_in m) p → (reason_of m p ≡ None) × (is_queued m p ≡ false)
  not_found h = by (find (λ w. w.process == p) m.waiting) (is_queued m p) (h ∙ by_parts)
    where
      by : (o : Option Waiter) (b : Bool) → None ≡ entry_by p o b
          → (option_map (λ (w : Waiter). w.reason) o ≡ None) × (b ≡ false)
      by (Some w) b i = cc
      by None true i = cc
      by None false i = (refl, refl)

  -- one that is found elsewhere waits for nothing
  pub no_reason : reason_in (not_waiting m p) ≡ None
  no_reason = by (is_queued m p) (is_that (current_process m) p) (is_that (interrupted_process m) p)
    where
      by : (a b c : Bool) → reason_in (cond a Queued (cond b Runs (cond c Interrupted Unknown))) ≡ None
      by true b c = refl
      by false true c = refl
      by false false true = refl
      by false false false = refl

  -- nor is it queued
  pub not_queued : is_queued m p ≡ false → IfQueued (not_waiting m p) (is_queued m p ≡ true)
  not_queued h = by (is_queued m p) (is_that (current_process m) p) (is_that (interrupted_process m) p) h
    where
      by : (a b c : Bool) → a ≡ false
          → IfQueued (cond a Queued (cond b Runs (cond c Interrupted Unknown))) (a ≡ true)
      by true b c h = refl
      by false true c h = tt
      by false false true h = tt
      by false false false h = tt
