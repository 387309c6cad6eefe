-- A process that waited is queued: where processes are found then, and how many have a workspace.
use Rattle.std.proofs.Common.{◌≡◌, ◌≢◌, ℕ, zero, suc, ◌+◌, ◌<◌, ◌≤◌, refl, sym, ap, subst, ◌∙◌, List, [], ◌∷◌, ◌++◌}
use Rattle.std.proofs.Common.{map, length, length-append, true, cond, Contains, AllPairs}
use Rattle.std.proofs.Common.{Option, Some, None, ◌⊎◌, inl, inr, arith}
use Rattle.std.specs.Prelude.{◌==◌, find, option_map, option_to_list}
use Rattle.std.proofs.lemmas.Bool.{eq-eqb, ne_eqb}
use Rattle.std.proofs.lemmas.List.{length-map}
use Rattle.std.proofs.lemmas.List.Sums.{sum_by-append}
use Rattle.tproc.specs.declared.waiter.LinkEnd.{LinkEnd}
use Rattle.tproc.specs.declared.waiter.Reason.{Reason}
use Rattle.tproc.specs.declared.waiter.Waiter.{Waiter}
use Rattle.tproc.specs.Machine.{Control, descheduled, workspace_of, priority_of}
use Rattle.tproc.specs.Placement.{WaitsFor}
use Rattle.tproc.specs.ProcessStatus.{live, queue, is_among, is_queued, reason_of, current_process}
use Rattle.tproc.specs.ProcessStatus.{interrupted_process}
use Rattle.tproc.specs.Queues.{appended, without_waiter}
use Rattle.tproc.proofs.ClaimMeaning.{occurs-descheduled}
use Rattle.tproc.proofs.ClaimMoves.{appended-times}
use Rattle.tproc.proofs.ClaimState.{times, workspaces_of}
use Rattle.tproc.proofs.Occurs.{occurs, same_once, occurring_once, found-occurs, occurs-contains}
use Rattle.tproc.proofs.Waiters.{without, filter_step, without_times, without_length, waiter_occurs}
use Rattle.treduction.proofs.LinkActions.{freed}
use Rattle.tseen.proofs.Adding.{among}
use Rattle.tseen.proofs.Counted.{count_at}
use Rattle.tseen.proofs.Among.{among_more, among_new, among_were, count_is}

-- the workspaces of the processes that run or were interrupted
abbrev pub up_front : Control → List ℕ
up_front m =
    map workspace_of (option_to_list (current_process m)) ++ map workspace_of (option_to_list (interrupted_process m))

-- a workspace was put at the back of a queue
pub record IsJoined (w p : ℕ) (m m' : Control) : Type 0 where
  pub registers : m'.registers ≡ m.registers
  pub current : m'.current ≡ m.current
  pub interrupted : m'.interrupted ≡ m.interrupted
  pub waiting : m'.waiting ≡ m.waiting
  pub links : m'.links ≡ m.links
  pub kind : m'.kind ≡ m.kind
  pub halted : m'.halted ≡ m.halted
  pub front : up_front m' ≡ up_front m
  pub count : length (descheduled m') ≡ length (descheduled m) + 1
  pub still : (v q : ℕ) → is_among v (queue m q) ≡ true → is_among v (queue m' q) ≡ true
  pub new : is_among w (queue m' p) ≡ true
  pub were : (v q : ℕ) → p < 2 → q < 2 → is_among v (queue m' q) ≡ true
      → (is_among v (queue m q) ≡ true) ⊎ ((v ≡ w) × (q ≡ p))

joined : (w p : ℕ) (m : Control) → IsJoined w p m (appended w p m)
joined w zero m =
    record {
      registers = refl;
      current = refl;
      interrupted = refl;
      waiting = refl;
      links = refl;
      kind = refl;
      halted = refl;
      front = refl;
      count = simp length-append (omega arith);
      still = still;
      new = among_new w m.high;
      were = were;
    }
  where
    still : (v q : ℕ) → is_among v (queue m q) ≡ true → is_among v (queue (appended w zero m) q) ≡ true
    still v zero h = among_more v w m.high h
    still v (suc q) h = h

    were : (v q : ℕ) → zero < 2 → q < 2 → is_among v (queue (appended w zero m) q) ≡ true
        → (is_among v (queue m q) ≡ true) ⊎ ((v ≡ w) × (q ≡ zero))
    were v zero a b h = of (among_were v w m.high h)
      where
        of : (is_among v m.high ≡ true) ⊎ (v ≡ w) → (is_among v m.high ≡ true) ⊎ ((v ≡ w) × (zero ≡ zero))
        of (inl e) = inl e
        of (inr e) = inr (e, refl)
    were v (suc q) a b h = inl h
joined w (suc p) m =
    record {
      registers = refl;
      current = refl;
      interrupted = refl;
      waiting = refl;
      links = refl;
      kind = refl;
      halted = refl;
      front = refl;
      count = simp length-append (omega arith);
      still = still;
      new = among_new w m.low;
      were = were;
    }
  where
    still : (v q : ℕ) → is_among v (queue m q) ≡ true → is_among v (queue (appended w (suc p) m) q) ≡ true
    still v zero h = h
    still v (suc q) h = among_more v w m.low h

    were : (v q : ℕ) → suc p < 2 → q < 2 → is_among v (queue (appended w (suc p) m) q) ≡ true
        → (is_among v (queue m q) ≡ true) ⊎ ((v ≡ w) × (q ≡ suc p))
    were v zero a b h = inl h
    were v (suc q) a b h = of (among_were v w m.low h)
      where
        of : (is_among v m.low ≡ true) ⊎ (v ≡ w) → (is_among v m.low ≡ true) ⊎ ((v ≡ w) × (suc q ≡ suc p))
        of (inl e) = inl e
        of (inr e) = inr (e, omega (arith, a, b))

-- who is found among all but a process
find_other : (ws : List Waiter) (p q : ℕ) → (q ≡ p → ⊥)
    → find (λ x. x.process == q) (without p ws) ≡ find (λ x. x.process == q) ws
find_other [] p q n = refl
find_other (x ∷ xs) p q n =
    filter_step x xs p (λ ys. find (λ y. y.process == q) ys ≡ find (λ y. y.process == q) (x ∷ xs))
    (λ e. find_other xs p q n ∙ sym (rw (ne_eqb x.process q (λ f. n (sym f ∙ e))) refl))
    (λ e. ap (λ r. cond (x.process == q) (Some x) r) (find_other xs p q n))

find_none : (ws : List Waiter) (p : ℕ) → find (λ x. x.process == p) (without p ws) ≡ None
find_none [] p = refl
find_none (x ∷ xs) p =
    filter_step x xs p (λ ys. find (λ y. y.process == p) ys ≡ None) (λ e. find_none xs p)
    (λ n. rw (ne_eqb x.process p n) (find_none xs p))

-- who waits for a reason is found to wait for it, if each workspace is there once
first_reason : (ws : List Waiter) (p : ℕ) (r : Reason) → ((w : ℕ) → occurs w (workspaces_of ws) ≤ 1)
    → Contains ws (record { process = p; reason = r })
    → option_map (λ (z : Waiter). z.reason) (find (λ z. z.process == p) ws) ≡ Some r
first_reason [] p r once h = absurd (omega (arith, h.1))
first_reason (x ∷ xs) p r once (zero, b, e) =
    let f : x.process ≡ p = ap (λ (z : Waiter). z.process) e in
    rw (eq-eqb x.process p f) (ap (λ (z : Waiter). Some z.reason) e)
first_reason (x ∷ xs) p r once (suc i, b, e) =
    rw (ne_eqb x.process p other) (first_reason xs p r (λ w. omega (arith, once w)) (i, omega (arith, b), e))
  where
    other : x.process ≡ p → ⊥
    other f =
        omega (
          arith,
          once (workspace_of p),
          same_once (workspace_of x.process) (workspace_of p) (ap workspace_of f),
          waiter_occurs xs p r (i, omega (arith, b), e),
        )

module _ (m : Control) (process : ℕ) (reason : Reason) (waits : WaitsFor m process reason)
    (distinct : AllPairs (λ v w. v ≢ w) (descheduled m)) (ls : List LinkEnd) where
  -- the control after it was queued, where the links are these
  abbrev pub now : Control
  now = freed process (record m { links = ls })

  abbrev pub before : Control
  before = without_waiter process (record m { links = ls })

  pub joins : IsJoined (workspace_of process) (priority_of process) before now
  joins = joined (workspace_of process) (priority_of process) before

  once : (w : ℕ) → times m.high m.low m.waiting w ≤ 1
  once w = omega (arith, occurring_once (descheduled m) distinct w, occurs-descheduled m w)

  once_waiting : (w : ℕ) → occurs w (workspaces_of m.waiting) ≤ 1
  once_waiting w = omega (arith, once w)

  pub same_queue : (q : ℕ) → queue before q ≡ queue m q
  same_queue zero = refl
  same_queue (suc q) = refl

  -- it waited for the reason
  pub reason_before : reason_of m process ≡ Some reason
  reason_before = first_reason m.waiting process reason once_waiting waits

  -- nobody else is queued, and nobody else waits no longer
  pub queued_now : is_queued now process ≡ true
  queued_now = joins.new

  pub still_queued : (b : ℕ) → is_queued m b ≡ true → is_queued now b ≡ true
  still_queued b h =
      joins.still (workspace_of b) (priority_of b)
      (subst (λ q. is_among (workspace_of b) q ≡ true) (sym (same_queue (priority_of b))) h)

  pub was_queued : (b : ℕ) → (b ≡ process → ⊥) → is_queued now b ≡ true → is_queued m b ≡ true
  was_queued b other h =
      by (joins.were (workspace_of b) (priority_of b) (omega arith) (omega arith) h)
    where
      by : (is_among (workspace_of b) (queue before (priority_of b)) ≡ true)
          ⊎ ((workspace_of b ≡ workspace_of process) × (priority_of b ≡ priority_of process))
          → is_queued m b ≡ true
      by (inl e) = subst (λ q. is_among (workspace_of b) q ≡ true) (same_queue (priority_of b)) e
      by (inr e) = absurd (other (omega (arith, e.0, e.1)))

  -- it was not queued
  pub is_new : (b : ℕ) → is_queued m b ≡ true → b ≡ process → ⊥
  is_new b h e =
      by (priority_of process) (subst (λ z. is_queued m z ≡ true) e h)
    where
      there : 0 < occurs (workspace_of process) (workspaces_of m.waiting)
      there = waiter_occurs m.waiting process reason waits

      by : (q : ℕ) → is_among (workspace_of process) (queue m q) ≡ true → ⊥
      by zero k =
          omega (arith, once (workspace_of process), there, found-occurs (workspace_of process) m.high k)
      by (suc q) k =
          omega (arith, once (workspace_of process), there, found-occurs (workspace_of process) m.low k)

  pub reason_now : (b : ℕ) → (b ≡ process → ⊥) → reason_of now b ≡ reason_of m b
  reason_now b other =
      ap (λ (ws : List Waiter). option_map (λ z. z.reason) (find (λ z. z.process == b) ws)) joins.waiting
      ∙ ap (λ (o : Option Waiter). option_map (λ z. z.reason) o) (find_other m.waiting process b other)

  pub no_reason : reason_of now process ≡ None
  no_reason =
      ap (λ (ws : List Waiter). option_map (λ z. z.reason) (find (λ z. z.process == process) ws)) joins.waiting
      ∙ ap (λ (o : Option Waiter). option_map (λ z. z.reason) o) (find_none m.waiting process)

  -- the same workspaces are queued or wait, each as often
  times_now : (v : ℕ) → occurs v (descheduled now) ≡ occurs v (descheduled m)
  times_now v =
      omega (
        arith,
        occurs-descheduled now v,
        occurs-descheduled m v,
        appended-times (priority_of process) (workspace_of process) before v,
        without_times m.waiting process reason once_waiting waits v,
      )

  pub still_there : (v : ℕ) → Contains (descheduled now) v → Contains (descheduled m) v
  still_there v h =
      occurs-contains v (descheduled m)
      (omega (arith, times_now v, found-occurs v (descheduled now) (among (descheduled now) v h)))

  count_before : length (descheduled before) + 1 ≡ length (descheduled m)
  count_before =
      simp (length-append, length-map) (omega (arith, without_length m.waiting process reason once_waiting waits))

  -- so as many live, and as many have a workspace
  pub many_now : length (live now) ≡ length (live m)
  many_now =
      length-append (descheduled now) (up_front now)
      ∙ omega (arith, joins.count, count_before, ap length joins.front)
      ∙ sym (length-append (descheduled m) (up_front m))

  pub counted_now : (w : ℕ) → count_at w (live now) ≡ count_at w (live m)
  counted_now w =
      sum_by-append f (descheduled now) (up_front now)
      ∙ omega (
        arith,
        count_is w (descheduled now),
        count_is w (descheduled m),
        times_now w,
        ap (count_at w) joins.front,
      )
      ∙ sym (sum_by-append f (descheduled m) (up_front m))
    where
      f : ℕ → ℕ
      f v = cond (v == w) 1 0
