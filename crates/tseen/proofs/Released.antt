-- A control where a process that waited is queued.
use Rattle.std.proofs.Common.{◌≡◌, ◌≢◌, ℕ, zero, suc, ◌+◌, ◌<◌, refl, sym, subst, ◌∙◌, List, [], ◌∷◌, ◌++◌, true}
use Rattle.std.proofs.Common.{length, length-append, Contains, AllPairs, Some, None, arith, ◌⊎◌, inl, inr, map}
use Rattle.std.proofs.lemmas.List.{length-map}
use Rattle.tcpu.specs.declared.registers.Registers.{Registers}
use Rattle.tproc.specs.declared.waiter.Reason.{Reason}
use Rattle.tproc.specs.declared.waiter.Waiter.{Waiter}
use Rattle.tproc.specs.Machine.{Control, workspace_of, priority_of, descheduled}
use Rattle.tproc.specs.ProcessStatus.{queue, is_among, is_queued, reason_of}
use Rattle.tproc.proofs.Occurs.{occurs, hits, occurs-append, occurring_once, found-occurs, occurs-contains}
use Rattle.tproc.proofs.ClaimState.{HasWaiter}
use Rattle.tproc.proofs.ClaimMeaning.{occurs-descheduled}
use Rattle.tproc.proofs.Agreeing.{once_waiting}
use Rattle.tproc.proofs.Waiters.{without, waiter_occurs, without_times, without_length, found_waiter}
use Rattle.tseen.proofs.Adding.{among}
use Rattle.tseen.proofs.Counted.{count_at}
use Rattle.tseen.proofs.Among.{among_more, among_new, among_were, count_is}
use Rattle.tseen.proofs.Reasons.{without_other, without_itself}
use Rattle.tseen.proofs.Exchanged.{high_with, low_with, released}

-- queues with one more
high_more : (q a w : ℕ) (high : List ℕ) → is_among a high ≡ true → is_among a (high_with q w high) ≡ true
high_more zero a w high h = among_more a w high h
high_more (suc q) a w high h = h

low_more : (q a w : ℕ) (low : List ℕ) → is_among a low ≡ true → is_among a (low_with q w low) ≡ true
low_more zero a w low h = h
low_more (suc q) a w low h = among_more a w low h

high_back : (q a w : ℕ) (high : List ℕ) → is_among a (high_with q w high) ≡ true
    → (is_among a high ≡ true) ⊎ ((q ≡ 0) × (a ≡ w))
high_back zero a w high h = by (among_were a w high h)
  where
    by : (is_among a high ≡ true) ⊎ (a ≡ w) → (is_among a high ≡ true) ⊎ ((◌≡◌ {A = ℕ} 0 0) × (a ≡ w))
    by (inl e) = inl e
    by (inr e) = inr (refl, e)
high_back (suc q) a w high h = inl h

low_back : (q a w : ℕ) (low : List ℕ) → is_among a (low_with q w low) ≡ true
    → (is_among a low ≡ true) ⊎ ((0 < q) × (a ≡ w))
low_back zero a w low h = inl h
low_back (suc q) a w low h = by (among_were a w low h)
  where
    by : (is_among a low ≡ true) ⊎ (a ≡ w) → (is_among a low ≡ true) ⊎ ((0 < suc q) × (a ≡ w))
    by (inl e) = inl e
    by (inr e) = inr ((omega arith), e)

with_times : (q w a : ℕ) (high low : List ℕ)
    → occurs a (high_with q w high) + occurs a (low_with q w low) ≡ occurs a high + occurs a low + hits w a
with_times zero w a high low = omega (arith, occurs-append a high (w ∷ []))
with_times (suc q) w a high low = omega (arith, occurs-append a low (w ∷ []))

with_length : (q w : ℕ) (high low : List ℕ)
    → length (high_with q w high) + length (low_with q w low) ≡ length high + length low + 1
with_length zero w high low = omega (arith, length-append high (w ∷ []))
with_length (suc q) w high low = omega (arith, length-append low (w ∷ []))

desch_length : (m : Control) → length (descheduled m) ≡ length m.high + length m.low + length m.waiting
desch_length m =
    length-append (m.high ++ m.low) (map (λ (y : Waiter). workspace_of y.process) m.waiting)
    ∙ omega (arith, length-append m.high m.low, length-map m.waiting (λ (y : Waiter). workspace_of y.process))

module _ (after : Registers) (other : ℕ) (m : Control) (r : Reason) (waits : reason_of m other ≡ Some r)
    (distinct : AllPairs (λ v w. v ≢ w) (descheduled m)) where
  abbrev m' : Control
  m' = released after other m

  abbrev w : ℕ
  w = workspace_of other

  abbrev level : ℕ
  level = priority_of other

  waiter : HasWaiter m.waiting other r
  waiter = found_waiter m.waiting other r waits

  -- who was queued is so still
  pub still_queued : (b : ℕ) → is_queued m b ≡ true → is_queued m' b ≡ true
  still_queued b = by (priority_of b)
    where
      by : (q : ℕ) → is_among (workspace_of b) (queue m q) ≡ true → is_among (workspace_of b) (queue m' q) ≡ true
      by zero h = high_more level (workspace_of b) w m.high h
      by (suc q) h = low_more level (workspace_of b) w m.low h

  -- and one more
  pub queued_now : is_queued m' other ≡ true
  queued_now = by level refl
    where
      by : (q : ℕ) → level ≡ q → is_among w (queue m' level) ≡ true
      by zero e = subst (λ q. is_among w (queue (record m {
        registers = after;
        high = high_with q w m.high;
        low = low_with q w m.low;
        waiting = without other m.waiting;
      }) q) ≡ true) (sym e) (among_new w m.high)
      by (suc q) e = subst (λ q. is_among w (queue (record m {
        registers = after;
        high = high_with q w m.high;
        low = low_with q w m.low;
        waiting = without other m.waiting;
      }) q) ≡ true) (sym e) (among_new w m.low)

  pub was_queued : (b : ℕ) → is_queued m' b ≡ true → (is_queued m b ≡ true) ⊎ (b ≡ other)
  was_queued b h = by (priority_of b) refl h
    where
      high : priority_of b ≡ 0 → (is_among (workspace_of b) m.high ≡ true) ⊎ ((level ≡ 0) × (workspace_of b ≡ w))
          → (is_among (workspace_of b) m.high ≡ true) ⊎ (b ≡ other)
      high e (inl f) = inl f
      high e (inr f) = inr (omega (arith, e, f.0, f.1))

      low : (q : ℕ) → priority_of b ≡ suc q
          → (is_among (workspace_of b) m.low ≡ true) ⊎ ((0 < level) × (workspace_of b ≡ w))
          → (is_among (workspace_of b) m.low ≡ true) ⊎ (b ≡ other)
      low q e (inl f) = inl f
      low q e (inr f) = inr (omega (arith, e, f.0, f.1))

      by : (q : ℕ) → priority_of b ≡ q → is_among (workspace_of b) (queue m' q) ≡ true
          → (is_among (workspace_of b) (queue m q) ≡ true) ⊎ (b ≡ other)
      by zero e f = high e (high_back level (workspace_of b) w m.high f)
      by (suc q) e f = low q e (low_back level (workspace_of b) w m.low f)

  -- it was not queued before
  pub not_queued : is_queued m other ≡ true → ⊥
  not_queued = by level
    where
      twice : 0 < occurs w m.high + occurs w m.low → ⊥
      twice b =
          omega (
            arith,
            b,
            occurring_once (descheduled m) distinct w,
            occurs-descheduled m w,
            waiter_occurs m.waiting other r waiter,
          )

      by : (q : ℕ) → is_among w (queue m q) ≡ true → ⊥
      by zero h = twice (omega (arith, found-occurs w m.high h))
      by (suc q) h = twice (omega (arith, found-occurs w m.low h))

  -- the same workspaces
  occurs_alike : (a : ℕ) → occurs a (descheduled m') ≡ occurs a (descheduled m)
  occurs_alike a =
      omega (
        arith,
        occurs-descheduled m' a,
        occurs-descheduled m a,
        with_times level w a m.high m.low,
        without_times m.waiting other r (once_waiting m distinct) waiter a,
      )

  pub count_alike : (a : ℕ) → count_at a (descheduled m') ≡ count_at a (descheduled m)
  count_alike a = count_is a (descheduled m') ∙ occurs_alike a ∙ sym (count_is a (descheduled m))

  pub length_alike : length (descheduled m') ≡ length (descheduled m)
  length_alike =
      omega (
        arith,
        desch_length m',
        desch_length m,
        with_length level w m.high m.low,
        without_length m.waiting other r (once_waiting m distinct) waiter,
      )

  pub were_there : (a : ℕ) → Contains (descheduled m') a → Contains (descheduled m) a
  were_there a h =
      occurs-contains a (descheduled m)
      (omega (arith, occurs_alike a, found-occurs a (descheduled m') (among (descheduled m') a h)))

  -- what the others wait for
  pub other_reason : (b : ℕ) → b ≢ other → reason_of m' b ≡ reason_of m b
  other_reason b h = without_other m.waiting other b h

  pub no_reason : reason_of m' other ≡ None
  no_reason = without_itself m.waiting other
