-- The two queues and those that wait, as they stand in a table: what is found there, and what changes with an entry.
use Rattle.std.proofs.Common.{◌≡◌, ◌≢◌, ℕ, zero, suc, ◌+◌, ◌%◌, refl, sym, ap, ◌∙◌, List, [], ◌∷◌, ◌++◌}
use Rattle.std.proofs.Common.{subst}
use Rattle.std.proofs.Common.{length, Bool, true, false, Some, None, Option, arith, AllPairs, append-nil}
use Rattle.std.specs.Prelude.{◌==◌, find, slice_get}
use Rattle.tproc.specs.declared.run_queue.RunQueue.{RunQueue}
use Rattle.std.specs.List.{filter_map}
use Rattle.std.proofs.lemmas.List.Elements.{filter_map-append}
use Rattle.std.proofs.lemmas.Bool.{eqb-true, eqb-false, eq-eqb, ne_eqb}
use Rattle.tword.specs.Claims.{Claims}
use Rattle.tproc.specs.Machine.{workspace_of}
use Rattle.tproc.specs.ProcessStatus.{is_among}
use Rattle.tproc.specs.declared.waiter.Entry.{Entry}
use Rattle.tproc.specs.declared.waiter.Reason.{Reason}
use Rattle.tproc.specs.declared.waiter.Waiter.{Waiter}
use Rattle.tproc.specs.Entries.{Lists, lists_of, queue_in, waiter_of, workspaces, workspaces_in, entry_by, entry_in}
use Rattle.tproc.specs.Entries.{queue_of, queued_at, AreAllSaved, AreSavedOf, IsQueue, ShareNoWorkspace}
use Rattle.tproc.proofs.Occurs.{occurs, occurs-append, occurring_once, found-occurs, occurs-found, same_once}
use Rattle.tproc.proofs.Occurs.{pairs_from}
use Rattle.tproc.proofs.ClaimState.{workspaces_of}
use Rattle.tproc.proofs.Entries.{IsOnce}

-- those of a table that wait
abbrev pub waiting_in : List Entry → List Waiter
waiting_in table = filter_map waiter_of table

-- what one more entry at the front is: one that waits, one of the high queue, or one of the low queue
pub by_kind : (x : Entry) (xs : List Entry) (P : List ℕ → List ℕ → List Waiter → Type 0)
    → ((r : Reason) → x.reason ≡ Some r
    → P (queue_in 0 xs) (queue_in 1 xs) (record { process = x.process; reason = r } ∷ waiting_in xs))
    → (x.reason ≡ None → x.process % 2 ≡ 0 → P (workspace_of x.process ∷ queue_in 0 xs) (queue_in 1 xs) (waiting_in xs))
    → (x.reason ≡ None → x.process % 2 ≡ 1 → P (queue_in 0 xs) (workspace_of x.process ∷ queue_in 1 xs) (waiting_in xs))
    → P (queue_in 0 (x ∷ xs)) (queue_in 1 (x ∷ xs)) (waiting_in (x ∷ xs))
by_kind x xs P waits high low = by x.reason refl
  where
    by_priority : x.reason ≡ None → (b : Bool) → (x.process % 2 == 0) ≡ b
        → P (queue_in 0 (x ∷ xs)) (queue_in 1 (x ∷ xs)) (waiting_in (x ∷ xs))
    by_priority k true e =
        let zeroth : x.process % 2 ≡ 0 = eqb-true _ _ e in
        let other : (x.process % 2 == 1) ≡ false = ne_eqb _ _ (λ f. absurd (omega (arith, f, zeroth))) in
        rw (k, e, other) (high k zeroth)
    by_priority k false e =
        let nonzero : x.process % 2 ≡ 0 → ⊥ = eqb-false _ _ e in
        let first : x.process % 2 ≡ 1 = omega (arith, nonzero) in
        let other : (x.process % 2 == 1) ≡ true = eq-eqb _ _ first in
        rw (k, e, other) (low k first)

    by : (o : Option Reason) → x.reason ≡ o → P (queue_in 0 (x ∷ xs)) (queue_in 1 (x ∷ xs)) (waiting_in (x ∷ xs))
    by (Some r) k = rw k (waits r k)
    by None k = by_priority k (x.process % 2 == 0) refl

-- each workspace stands there as often as in the table
pub times_of : (t : List Entry) (w : ℕ)
    → occurs w (workspaces t)
    ≡ occurs w (queue_in 0 t) + (occurs w (queue_in 1 t) + occurs w (workspaces_of (waiting_in t)))
times_of [] w = refl
times_of (x ∷ xs) w =
    by_kind x xs
    (λ h l ws. occurs w (workspaces (x ∷ xs)) ≡ occurs w h + (occurs w l + occurs w (workspaces_of ws)))
    (λ r k. omega (arith, times_of xs w))
    (λ k e. omega (arith, times_of xs w))
    (λ k e. omega (arith, times_of xs w))

pub total_of : (t : List Entry)
    → length t ≡ length (queue_in 0 t) + length (queue_in 1 t) + length (waiting_in t)
total_of [] = refl
total_of (x ∷ xs) =
    by_kind x xs (λ h l ws. length (x ∷ xs) ≡ length h + length l + length ws)
    (λ r k. omega (arith, total_of xs)) (λ k e. omega (arith, total_of xs)) (λ k e. omega (arith, total_of xs))

-- so where no two of the lists share a workspace, no two of the table do
pub lists_times : (t : List Entry) (w : ℕ) → occurs w (workspaces t) ≡ occurs w (workspaces_in (lists_of t))
lists_times t w =
    omega (
      arith,
      times_of t w,
      occurs-append w (queue_in 0 t ++ queue_in 1 t) (workspaces_of (waiting_in t)),
      occurs-append w (queue_in 0 t) (queue_in 1 t),
    )

pub table_once : (t : List Entry) → AllPairs (λ v w. v ≢ w) (workspaces_in (lists_of t)) → IsOnce t
table_once t h w = omega (arith, lists_times t w, occurring_once (workspaces_in (lists_of t)) h w)

pub table_apart : (t : List Entry) → AllPairs (λ v w. v ≢ w) (workspaces_in (lists_of t)) → ShareNoWorkspace t
table_apart t h = pairs_from (λ v w. v ≢ w) (workspaces t) (table_once t h) (λ v w a b e. e)

-- and where all of the lists are saved, all of the table are
pub table_saved : (c : Claims) (t : List Entry) → AreAllSaved c (workspaces_in (lists_of t)) → AreSavedOf c t
table_saved c t h w e =
    h w (occurs-found w (workspaces_in (lists_of t))
    (omega (arith, lists_times t w, found-occurs w (workspaces t) e)))

-- a process that has no workspace there does not wait
none_waits : (ws : List Waiter) (p : ℕ) → occurs (workspace_of p) (workspaces_of ws) ≡ 0
    → find (λ w. w.process == p) ws ≡ None
none_waits [] p h = refl
none_waits (x ∷ xs) p h =
    let other : (x.process == p) ≡ false =
    ne_eqb _ _
    (λ k. absurd (omega (arith, h, same_once (workspace_of x.process) (workspace_of p) (ap workspace_of k)))) in
    rw other (none_waits xs p (omega (arith, h)))

-- an entry by its parts
an_entry : (x : Entry) (p : ℕ) (o : Option Reason) → x.process ≡ p → x.reason ≡ o
    → x ≡ record { process = p; reason = o }
an_entry x p o e k = rw (← e, ← k) refl

-- what is found of a process of high priority, and of low
module _ (p : ℕ) where
  -- the entry that is found first is the one that is there, of whatever kind
  first_waits : (x : Entry) (xs : List Entry) (r : Reason) (b : Bool) → x.reason ≡ Some r
      → find (λ e. e.process == p) xs ≡ entry_by p (find (λ w. w.process == p) (waiting_in xs)) b
      → find (λ e. e.process == p) (x ∷ xs)
      ≡ entry_by p (find (λ w. w.process == p) (record { process = x.process; reason = r } ∷ waiting_in xs)) b
  first_waits x xs r b k rest = by (x.process == p) refl
    where
      by : (c : Bool) → (x.process == p) ≡ c
          → find (λ e. e.process == p) (x ∷ xs)
          ≡ entry_by p (find (λ w. w.process == p) (record { process = x.process; reason = r } ∷ waiting_in xs)) b
      by true e = rw e (ap Some (an_entry x p (Some r) (eqb-true _ _ e) k))
      by false e = rw e rest

  first_queued : (x : Entry) (xs : List Entry) (q : List ℕ) → IsOnce (x ∷ xs) → x.reason ≡ None
      → x.process % 2 ≡ p % 2
      → find (λ e. e.process == p) xs
      ≡ entry_by p (find (λ w. w.process == p) (waiting_in xs)) (is_among (workspace_of p) q)
      → find (λ e. e.process == p) (x ∷ xs)
      ≡ entry_by p (find (λ w. w.process == p) (waiting_in xs))
      (is_among (workspace_of p) (workspace_of x.process ∷ q))
  first_queued x xs q once k same rest = by (x.process == p) refl
    where
      by : (c : Bool) → (x.process == p) ≡ c
          → find (λ e. e.process == p) (x ∷ xs)
          ≡ entry_by p (find (λ w. w.process == p) (waiting_in xs))
          (is_among (workspace_of p) (workspace_of x.process ∷ q))
      by true e =
          let f : workspace_of x.process ≡ workspace_of p = ap workspace_of (eqb-true _ _ e) in
          let none : occurs (workspace_of p) (workspaces_of (waiting_in xs)) ≡ 0 =
          omega (
            arith,
            once (workspace_of p),
            same_once (workspace_of x.process) (workspace_of p) f,
            times_of xs (workspace_of p),
          ) in
          rw (e, none_waits (waiting_in xs) p none, eq-eqb _ _ f)
          (ap Some (an_entry x p None (eqb-true _ _ e) k))
      by false e =
          let other : (workspace_of x.process == workspace_of p) ≡ false =
          ne_eqb _ _ (λ f. absurd (eqb-false _ _ e (omega (arith, f, same)))) in
          rw (e, other) rest

  first_other : (x : Entry) (xs : List Entry) (o : Option Entry) → (x.process ≡ p → ⊥)
      → find (λ e. e.process == p) xs ≡ o → find (λ e. e.process == p) (x ∷ xs) ≡ o
  first_other x xs o n rest = rw (ne_eqb x.process p n) rest

  found_high : p % 2 ≡ 0 → (t : List Entry) → IsOnce t
      → find (λ e. e.process == p) t
      ≡ entry_by p (find (λ w. w.process == p) (waiting_in t)) (is_among (workspace_of p) (queue_in 0 t))
  found_high z [] once = refl
  found_high z (x ∷ xs) once =
      let rest : find (λ e. e.process == p) xs
      ≡ entry_by p (find (λ w. w.process == p) (waiting_in xs)) (is_among (workspace_of p) (queue_in 0 xs)) =
      found_high z xs (λ v. omega (arith, once v)) in
      by_kind x xs
      (λ h l ws. find (λ e. e.process == p) (x ∷ xs)
      ≡ entry_by p (find (λ w. w.process == p) ws) (is_among (workspace_of p) h))
      (λ r k. first_waits x xs r _ k rest)
      (λ k e. first_queued x xs (queue_in 0 xs) once k (e ∙ sym z) rest)
      (λ k e. first_other x xs _ (λ f. absurd (omega (arith, f, e, z))) rest)

  found_low : p % 2 ≡ 1 → (t : List Entry) → IsOnce t
      → find (λ e. e.process == p) t
      ≡ entry_by p (find (λ w. w.process == p) (waiting_in t)) (is_among (workspace_of p) (queue_in 1 t))
  found_low z [] once = refl
  found_low z (x ∷ xs) once =
      let rest : find (λ e. e.process == p) xs
      ≡ entry_by p (find (λ w. w.process == p) (waiting_in xs)) (is_among (workspace_of p) (queue_in 1 xs)) =
      found_low z xs (λ v. omega (arith, once v)) in
      by_kind x xs
      (λ h l ws. find (λ e. e.process == p) (x ∷ xs)
      ≡ entry_by p (find (λ w. w.process == p) ws) (is_among (workspace_of p) l))
      (λ r k. first_waits x xs r _ k rest)
      (λ k e. first_other x xs _ (λ f. absurd (omega (arith, f, e, z))) rest)
      (λ k e. first_queued x xs (queue_in 1 xs) once k (e ∙ sym z) rest)

pub found_in : (t : List Entry) (p : ℕ) → IsOnce t → find (λ e. e.process == p) t ≡ entry_in (lists_of t) p
found_in t p once = by (p % 2) refl
  where
    by : (d : ℕ) → p % 2 ≡ d
        → find (λ e. e.process == p) t
        ≡ entry_by p (find (λ w. w.process == p) (waiting_in t)) (is_among (workspace_of p) (queue_of (lists_of t) d))
    by zero e = found_high p e t once
    by (suc d) e = found_low p (omega (arith, e)) t once

-- one more that waits, or is queued
pub one_waits : (t : List Entry) (p : ℕ) (r : Reason)
    → lists_of (t ++ record { process = p; reason = Some r } ∷ [])
    ≡ record (lists_of t) { waiting = waiting_in t ++ record { process = p; reason = r } ∷ [] }
one_waits t p r = simp (filter_map-append, append-nil) refl

pub one_high : (t : List Entry) (p : ℕ) → p % 2 ≡ 0
    → lists_of (t ++ record { process = p; reason = None } ∷ [])
    ≡ record (lists_of t) { high = queue_in 0 t ++ workspace_of p ∷ [] }
one_high t p e =
    let zeroth : (p % 2 == 0) ≡ true = eq-eqb _ _ e in
    let other : (p % 2 == 1) ≡ false = ne_eqb _ _ (λ f. absurd (omega (arith, f, e))) in
    simp (filter_map-append, append-nil, zeroth, other) refl

pub one_low : (t : List Entry) (p : ℕ) → p % 2 ≡ 1
    → lists_of (t ++ record { process = p; reason = None } ∷ [])
    ≡ record (lists_of t) { low = queue_in 1 t ++ workspace_of p ∷ [] }
one_low t p e =
    let first : (p % 2 == 1) ≡ true = eq-eqb _ _ e in
    let other : (p % 2 == 0) ≡ false = ne_eqb _ _ (λ f. absurd (omega (arith, f, e))) in
    simp (filter_map-append, append-nil, first, other) refl

pub one_queued : (t : List Entry) (p : ℕ)
    → lists_of (t ++ record { process = p; reason = None } ∷ []) ≡ queued_at (workspace_of p) (p % 2) (lists_of t)
one_queued t p = by (p % 2) refl
  where
    by : (d : ℕ) → p % 2 ≡ d
        → lists_of (t ++ record { process = p; reason = None } ∷ []) ≡ queued_at (workspace_of p) d (lists_of t)
    by zero e = one_high t p e
    by (suc d) e = one_low t p (omega (arith, e))

-- a list from its front on
abbrev pub rest_of : List ℕ → List ℕ
rest_of [] = []
rest_of (x ∷ xs) = xs

pub front_of : (q : List ℕ) (w : ℕ) → Some w ≡ slice_get q 0 → q ≡ w ∷ rest_of q
front_of [] w e = cc
front_of (x ∷ xs) w e = let f : w ≡ x = cc in rw f refl

pub front_is_low : (l : Lists) (w : ℕ) (rest : List ℕ) → l.low ≡ w ∷ rest → is_among w (workspaces_in l) ≡ true
front_is_low l w rest e =
    occurs-found w (workspaces_in l)
    (rw e (omega (
      arith,
      same_once w w refl,
      occurs-append w (l.high ++ (w ∷ rest)) (workspaces_of l.waiting),
      occurs-append w l.high (w ∷ rest),
    )))

-- the ends of the queues, where the lists of a table are known
pub queues_as : (t : List Entry) (l : Lists) (h r : RunQueue) → lists_of t ≡ l → IsQueue l.high h → IsQueue l.low r
    → IsQueue (queue_in 0 t) h × IsQueue (queue_in 1 t) r
queues_as t l h r e a b = (
  subst (λ (q : List ℕ). IsQueue q h) (sym (ap (λ (k : Lists). k.high) e)) a,
  subst (λ (q : List ℕ). IsQueue q r) (sym (ap (λ (k : Lists). k.low) e)) b,
)
