-- A process joins the queue of its priority, while the one that runs goes on.
use Rattle.std.proofs.Common.{◌≡◌, ◌≢◌, ℕ, zero, suc, ◌+◌, ◌<◌, ◌%◌, refl, sym, ap, subst, ◌∙◌, List, [], ◌∷◌, ◌++◌}
use Rattle.std.proofs.Common.{true, cond, length, length-append, map, Contains, Some, arith, ◌⊎◌, inl, inr}
use Rattle.std.specs.Prelude.{◌==◌}
use Rattle.std.specs.List.{sum_by}
use Rattle.std.proofs.lemmas.List.Sums.{sum_by-append, sum_by_push}
use Rattle.std.proofs.lemmas.List.Elements.{Contains-append_left, Contains-append_right, Contains-append_cases}
use Rattle.std.proofs.lemmas.List.Elements.{Contains-push_cases}
use Rattle.tcpu.specs.declared.registers.Registers.{Registers}
use Rattle.tproc.specs.Machine.{Control, workspace_of, priority_of, descheduled}
use Rattle.tproc.specs.ProcessStatus.{live, queue, is_among, is_queued}
use Rattle.tproc.specs.Queues.{appended}
use Rattle.tseen.proofs.Counted.{count_at, settled, beside, live_long, lives_are}
use Rattle.tseen.proofs.Exchanged.{high_with, low_with}
use Rattle.tseen.proofs.Among.{among_more, among_new, among_were}

-- the control after it, where the process that runs goes on with these registers
abbrev pub begun : (priority workspace : ℕ) → Registers → (count : ℕ) → Control → Control
begun q w r count m = record m { high = high_with q w m.high; low = low_with q w m.low; registers = r; count = count }

pub joined : (q w : ℕ) (r : Registers) (m : Control)
    → record (appended w q m) { registers = r } ≡ begun q w r m.count m
joined zero w r m = refl
joined (suc q) w r m = refl

-- another one was there before
among_before : (a w : ℕ) (ws : List ℕ) → (w ≡ a → ⊥) → is_among a (ws ++ w ∷ []) ≡ true → is_among a ws ≡ true
among_before a w ws other h = by (among_were a w ws h)
  where
    by : (is_among a ws ≡ true) ⊎ (a ≡ w) → is_among a ws ≡ true
    by (inl e) = e
    by (inr e) = absurd (other (sym e))

module _ (w : ℕ) (hs ls ws : List ℕ) where
  -- whoever is there was there before, or is the one that joined
  pub who : (q a : ℕ) → Contains (high_with q w hs ++ low_with q w ls ++ ws) a → Contains (hs ++ ls ++ ws) a ⊎ (w ≡ a)
  who zero a h = front (Contains-append_cases ((hs ++ w ∷ []) ++ ls) ws a h)
    where
      high : Contains hs a ⊎ (w ≡ a) → Contains (hs ++ ls ++ ws) a ⊎ (w ≡ a)
      high (inl c) = inl (Contains-append_left (hs ++ ls) ws a (Contains-append_left hs ls a c))
      high (inr e) = inr e

      queues : Contains (hs ++ w ∷ []) a ⊎ Contains ls a → Contains (hs ++ ls ++ ws) a ⊎ (w ≡ a)
      queues (inl c) = high (Contains-push_cases hs w a c)
      queues (inr c) = inl (Contains-append_left (hs ++ ls) ws a (Contains-append_right hs ls a c))

      front : Contains ((hs ++ w ∷ []) ++ ls) a ⊎ Contains ws a → Contains (hs ++ ls ++ ws) a ⊎ (w ≡ a)
      front (inl c) = queues (Contains-append_cases (hs ++ w ∷ []) ls a c)
      front (inr c) = inl (Contains-append_right (hs ++ ls) ws a c)
  who (suc q) a h = front (Contains-append_cases (hs ++ (ls ++ w ∷ [])) ws a h)
    where
      low : Contains ls a ⊎ (w ≡ a) → Contains (hs ++ ls ++ ws) a ⊎ (w ≡ a)
      low (inl c) = inl (Contains-append_left (hs ++ ls) ws a (Contains-append_right hs ls a c))
      low (inr e) = inr e

      queues : Contains hs a ⊎ Contains (ls ++ w ∷ []) a → Contains (hs ++ ls ++ ws) a ⊎ (w ≡ a)
      queues (inl c) = inl (Contains-append_left (hs ++ ls) ws a (Contains-append_left hs ls a c))
      queues (inr c) = low (Contains-push_cases ls w a c)

      front : Contains (hs ++ (ls ++ w ∷ [])) a ⊎ Contains ws a → Contains (hs ++ ls ++ ws) a ⊎ (w ≡ a)
      front (inl c) = queues (Contains-append_cases hs (ls ++ w ∷ []) a c)
      front (inr c) = inl (Contains-append_right (hs ++ ls) ws a c)

  -- a sum has one more part
  parts : (f : ℕ → ℕ) (xs ys : List ℕ) → sum_by f (xs ++ ys ++ ws) ≡ sum_by f xs + sum_by f ys + sum_by f ws
  parts f xs ys = sum_by-append f (xs ++ ys) ws ∙ ap (λ z. z + sum_by f ws) (sum_by-append f xs ys)

  sum_joined : (f : ℕ → ℕ) (q : ℕ)
      → sum_by f (high_with q w hs ++ low_with q w ls ++ ws) ≡ sum_by f (hs ++ ls ++ ws) + f w
  sum_joined f zero =
      parts f (hs ++ w ∷ []) ls ∙ ap (λ z. z + sum_by f ls + sum_by f ws) (sum_by_push f hs w)
      ∙ sym (ap (λ z. z + f w) (parts f hs ls) ∙ omega arith)
  sum_joined f (suc q) =
      parts f hs (ls ++ w ∷ []) ∙ ap (λ z. sum_by f hs + z + sum_by f ws) (sum_by_push f ls w)
      ∙ sym (ap (λ z. z + f w) (parts f hs ls) ∙ omega arith)

  long : (xs ys : List ℕ) → length (xs ++ ys ++ ws) ≡ length xs + length ys + length ws
  long xs ys = length-append (xs ++ ys) ws ∙ ap (λ z. z + length ws) (length-append xs ys)

  length_joined : (q : ℕ) → length (high_with q w hs ++ low_with q w ls ++ ws) ≡ length (hs ++ ls ++ ws) + 1
  length_joined zero =
      long (hs ++ w ∷ []) ls ∙ ap (λ z. z + length ls + length ws) (length-append hs (w ∷ []))
      ∙ sym (ap (λ z. z + 1) (long hs ls) ∙ omega arith)
  length_joined (suc q) =
      long hs (ls ++ w ∷ []) ∙ ap (λ z. length hs + z + length ws) (length-append ls (w ∷ []))
      ∙ sym (ap (λ z. z + 1) (long hs ls) ∙ omega arith)

module _ (m : Control) (q w : ℕ) (r : Registers) (count : ℕ) where
  abbrev after : Control
  after = begun q w r count m

  abbrev waiting : List ℕ
  waiting = map (λ y. workspace_of y.process) m.waiting

  -- how many live: one more with the workspace
  settled_now : (f : ℕ → ℕ) → sum_by f (settled after) ≡ sum_by f (settled m) + f w
  settled_now f =
      sum_by-append f (descheduled after) (beside m)
      ∙ ap (λ z. z + sum_by f (beside m)) (sum_joined w m.high m.low waiting f q)
      ∙ sym (ap (λ z. z + f w) (sum_by-append f (descheduled m) (beside m)) ∙ omega arith)

  module _ (level : ℕ) (current : m.current ≡ Some level) (small : level < 2) (same : r.wptr ≡ m.registers.wptr)
      (aligned : m.registers.wptr % 4 ≡ 0) where
    pub counted_now : (a : ℕ) → count_at a (live after) ≡ count_at a (live m) + cond (w == a) 1 0
    counted_now a =
        lives_are after level a current (ap (λ z. z % 4) same ∙ aligned) small
        ∙ ap (λ z. z + cond (r.wptr == a) 1 0) (settled_now (λ v. cond (v == a) 1 0))
        ∙ ap (λ z. count_at a (settled m) + cond (w == a) 1 0 + cond (z == a) 1 0) same
        ∙ sym (ap (λ z. z + cond (w == a) 1 0) (lives_are m level a current aligned small) ∙ omega arith)

    pub many_now : length (live after) ≡ length (live m) + 1
    many_now =
        live_long after level current
        ∙ ap suc (length-append (descheduled after) (beside m)
        ∙ ap (λ z. z + length (beside m)) (length_joined w m.high m.low waiting q))
        ∙ sym (ap (λ z. z + 1) (live_long m level current ∙ ap suc (length-append (descheduled m) (beside m)))
        ∙ omega arith)

  -- a process that was queued is queued still
  pub still_queued : (process : ℕ) → is_queued m process ≡ true → is_queued after process ≡ true
  still_queued process h = by q (priority_of process) h
    where
      by : (q v : ℕ) → is_among (workspace_of process) (queue m v) ≡ true
          → is_among (workspace_of process) (queue (begun q w r count m) v) ≡ true
      by zero zero h = among_more (workspace_of process) w m.high h
      by zero (suc v) h = h
      by (suc q) zero h = h
      by (suc q) (suc v) h = among_more (workspace_of process) w m.low h

  module _ (small : q < 2) (aligned : w % 4 ≡ 0) where
    pub own_workspace : workspace_of (w + q) ≡ w
    own_workspace = omega (arith, small, aligned)

    pub own_priority : priority_of (w + q) ≡ q
    own_priority = omega (arith, small, aligned)

    -- and no other but the new one is
    pub was_queued : (process : ℕ) → process ≢ w + q → is_queued after process ≡ true → is_queued m process ≡ true
    was_queued process other h = by q small other (priority_of process) refl h
      where
        by : (q : ℕ) → q < 2 → process ≢ w + q → (v : ℕ) → priority_of process ≡ v
            → is_among (workspace_of process) (queue (begun q w r count m) v) ≡ true
            → is_among (workspace_of process) (queue m v) ≡ true
        by zero l d zero e h = among_before (workspace_of process) w m.high (λ f. d (omega (arith, e, f))) h
        by zero l d (suc v) e h = h
        by (suc q) l d zero e h = h
        by (suc q) l d (suc v) e h =
            among_before (workspace_of process) w m.low (λ f. d (omega (arith, l, e, f))) h

    pub queued_now : is_queued after (w + q) ≡ true
    queued_now =
        subst (λ a. is_among a (queue after (priority_of (w + q))) ≡ true) (sym own_workspace)
        (subst (λ v. is_among w (queue after v) ≡ true) (sym own_priority) (by q))
      where
        by : (q : ℕ) → is_among w (queue (begun q w r count m) q) ≡ true
        by zero = among_new w m.high
        by (suc q) = among_new w m.low
