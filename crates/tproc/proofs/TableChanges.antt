-- A process leaves the table: what is left of the queues and of those that wait.
use Rattle.std.proofs.Common.{◌≡◌, ◌≢◌, ℕ, ◌+◌, ◌%◌, ◌<◌, ◌≤◌, refl, ap, ◌∙◌, List, [], ◌∷◌}
use Rattle.std.proofs.Common.{Bool, true, false, Some, None, Option, arith, AllPairs, ◌⊎◌, inl, inr}
use Rattle.std.specs.Prelude.{◌==◌, find, IsSome, option_map}
use Rattle.std.proofs.lemmas.Bool.{eqb-true, eqb-false}
use Rattle.tproc.specs.Machine.{workspace_of}
use Rattle.tproc.specs.declared.waiter.Entry.{Entry}
use Rattle.tproc.specs.declared.waiter.Reason.{Reason}
use Rattle.tproc.specs.declared.waiter.Waiter.{Waiter}
use Rattle.tproc.specs.Entries.{lists_of, queue_in, workspaces, workspaces_in}
use Rattle.tproc.proofs.Occurs.{occurs, same_once}
use Rattle.tproc.proofs.Occurs.{hits, occurs_cases}
use Rattle.tproc.proofs.ClaimState.{workspaces_of}
use Rattle.tproc.proofs.Waiters.{without, without_none, found_waiter, waiter_occurs}
use Rattle.tproc.proofs.Entries.{IsOnce, gone}
use Rattle.tproc.proofs.TableLists.{table_once, times_of, waiting_in}

-- a queue has no workspace that the table has not, and only even ones
pub queue_within : (d : ℕ) (t : List Entry) (w : ℕ) → occurs w (queue_in d t) ≤ occurs w (workspaces t)
queue_within d [] w = omega arith
queue_within d (x ∷ xs) w = by (queue_within d xs w) x.reason refl (x.process % 2 == d) refl
  where
    by : occurs w (queue_in d xs) ≤ occurs w (workspaces xs) → (o : Option Reason) → x.reason ≡ o → (b : Bool)
        → (x.process % 2 == d) ≡ b → occurs w (queue_in d (x ∷ xs)) ≤ occurs w (workspaces (x ∷ xs))
    by rest (Some r) k b f = rw k (omega (arith, rest))
    by rest None k true f = rw (k, f) (omega (arith, rest))
    by rest None k false f = rw (k, f) (omega (arith, rest))

pub even_in : (d : ℕ) (t : List Entry) (w : ℕ) → 0 < occurs w (queue_in d t) → w % 2 ≡ 0
even_in d [] w h = absurd (omega (arith, h))
even_in d (x ∷ xs) w h = by (even_in d xs w) x.reason refl (x.process % 2 == d) refl
  where
    first : (0 < occurs w (queue_in d xs) → w % 2 ≡ 0)
        → (workspace_of x.process ≡ w) ⊎ (0 < occurs w (queue_in d xs)) → w % 2 ≡ 0
    first rest (inl e) = omega (arith, e)
    first rest (inr k) = rest k

    by : (0 < occurs w (queue_in d xs) → w % 2 ≡ 0) → (o : Option Reason) → x.reason ≡ o → (b : Bool)
        → (x.process % 2 == d) ≡ b → w % 2 ≡ 0
    by rest (Some r) k b f = rest (rw k at h)
    by rest None k true f = first rest (occurs_cases w (workspace_of x.process) (queue_in d xs) (rw (k, f) at h))
    by rest None k false f = rest (rw (k, f) at h)

-- one goes
module _ (p : ℕ) where
  -- those that wait, without it
  pub waiting_gone : (t : List Entry) → waiting_in (gone p t) ≡ without p (waiting_in t)
  waiting_gone [] = refl
  waiting_gone (x ∷ xs) = by (waiting_gone xs) x.reason refl (x.process == p) refl
    where
      by : waiting_in (gone p xs) ≡ without p (waiting_in xs) → (o : Option Reason) → x.reason ≡ o → (b : Bool)
          → (x.process == p) ≡ b → waiting_in (gone p (x ∷ xs)) ≡ without p (waiting_in (x ∷ xs))
      by rest None k true e = rw (k, e) rest
      by rest None k false e = rw (e, k) rest
      by rest (Some r) k true e = rw (k, e) rest
      by rest (Some r) k false e =
          rw (e, k, e) (ap (λ (ws : List Waiter). record { process = x.process; reason = r } ∷ ws) rest)

  -- a queue in which it is not
  pub queue_gone : (d : ℕ) (t : List Entry) → occurs (workspace_of p) (queue_in d t) ≡ 0
      → queue_in d (gone p t) ≡ queue_in d t
  queue_gone d [] h = refl
  queue_gone d (x ∷ xs) h = by (queue_gone d xs) x.reason refl (x.process % 2 == d) refl (x.process == p) refl
    where
      by : (occurs (workspace_of p) (queue_in d xs) ≡ 0 → queue_in d (gone p xs) ≡ queue_in d xs)
          → (o : Option Reason) → x.reason ≡ o → (b : Bool) → (x.process % 2 == d) ≡ b → (c : Bool)
          → (x.process == p) ≡ c → queue_in d (gone p (x ∷ xs)) ≡ queue_in d (x ∷ xs)
      by rest (Some r) k b f true e = rw (e, k) (rest (rw k at h))
      by rest (Some r) k b f false e = rw (e, k) (rest (rw k at h))
      by rest None k false f true e = rw (e, k, f) (rest (rw (k, f) at h))
      by rest None k false f false e = rw (e, k, f) (rest (rw (k, f) at h))
      by rest None k true f true e =
          let there : occurs (workspace_of p) (workspace_of x.process ∷ queue_in d xs) ≡ 0 = rw (k, f) at h in
          let one = same_once (workspace_of x.process) (workspace_of p) (ap workspace_of (eqb-true _ _ e)) in
          absurd (omega (arith, there, one))
      by rest None k true f false e =
          let there : occurs (workspace_of p) (workspace_of x.process ∷ queue_in d xs) ≡ 0 = rw (k, f) at h in
          rw (e, k, f) (ap (λ (q : List ℕ). workspace_of x.process ∷ q) (rest (omega (arith, there))))

  -- the first of a queue: the rest of the queue is left
  pub head_gone : (d w : ℕ) (rest : List ℕ) (t : List Entry) → p ≡ w + d → IsOnce t → queue_in d t ≡ w ∷ rest
      → queue_in d (gone p t) ≡ rest
  head_gone d w rest [] z once h = cc
  head_gone d w rest (x ∷ xs) z once h =
      by (head_gone d w rest xs z (λ v. omega (arith, once v))) x.reason refl (x.process % 2 == d) refl
      (x.process == p) refl
    where
      by : (queue_in d xs ≡ w ∷ rest → queue_in d (gone p xs) ≡ rest) → (o : Option Reason) → x.reason ≡ o
          → (b : Bool) → (x.process % 2 == d) ≡ b → (c : Bool)
          → (x.process == p) ≡ c → queue_in d (gone p (x ∷ xs)) ≡ rest
      by after (Some r) k b f true e = rw e (after (rw k at h))
      by after (Some r) k b f false e = rw (e, k) (after (rw k at h))
      by after None k false f true e = rw e (after (rw (k, f) at h))
      by after None k false f false e = rw (e, k, f) (after (rw (k, f) at h))
      by after None k true f true e =
          let there : workspace_of x.process ∷ queue_in d xs ≡ w ∷ rest = rw (k, f) at h in
          let same : queue_in d xs ≡ rest = cc in
          let one : hits (workspace_of x.process) (workspace_of p) ≡ 1 =
          same_once (workspace_of x.process) (workspace_of p) (ap workspace_of (eqb-true _ _ e)) in
          rw e
          (queue_gone d xs (omega (arith, one, once (workspace_of p), queue_within d xs (workspace_of p))) ∙ same)
      by after None k true f false e =
          let there : workspace_of x.process ∷ queue_in d xs ≡ w ∷ rest = rw (k, f) at h in
          let front : workspace_of x.process ≡ w = cc in
          absurd (eqb-false _ _ e (omega (arith, front, z, eqb-true _ _ f)))

-- the first of the high queue goes
pub taken_high : (t : List Entry) (w : ℕ) (rest : List ℕ) → AllPairs (λ v w. v ≢ w) (workspaces_in (lists_of t))
    → queue_in 0 t ≡ w ∷ rest → lists_of (gone w t) ≡ record (lists_of t) { high = rest }
taken_high t w rest h e =
    let once : IsOnce t = table_once t h in
    let front : occurs w (queue_in 0 t) ≡ 1 + occurs w rest = rw e (omega (arith, same_once w w refl)) in
    let even : workspace_of w ≡ w = omega (arith, even_in 0 t w (omega (arith, front))) in
    let low : occurs (workspace_of w) (queue_in 1 t) ≡ 0 =
    rw even (omega (arith, front, once w, times_of t w)) in
    let waiting : occurs (workspace_of w) (workspaces_of (waiting_in t)) ≡ 0 =
    rw even (omega (arith, front, once w, times_of t w)) in
    rw (
      head_gone w 0 w rest t (omega arith) once e,
      queue_gone w 1 t low,
      waiting_gone w t
          ∙ without_none (waiting_in t) w waiting,
    ) refl

-- and that of the low queue
pub taken_low : (t : List Entry) (w : ℕ) (rest : List ℕ) → AllPairs (λ v w. v ≢ w) (workspaces_in (lists_of t))
    → queue_in 1 t ≡ w ∷ rest → lists_of (gone (w + 1) t) ≡ record (lists_of t) { low = rest }
taken_low t w rest h e =
    let once : IsOnce t = table_once t h in
    let front : occurs w (queue_in 1 t) ≡ 1 + occurs w rest = rw e (omega (arith, same_once w w refl)) in
    let even : workspace_of (w + 1) ≡ w = omega (arith, even_in 1 t w (omega (arith, front))) in
    let high : occurs (workspace_of (w + 1)) (queue_in 0 t) ≡ 0 =
    rw even (omega (arith, front, once w, times_of t w)) in
    let waiting : occurs (workspace_of (w + 1)) (workspaces_of (waiting_in t)) ≡ 0 =
    rw even (omega (arith, front, once w, times_of t w)) in
    rw (
      head_gone (w + 1) 1 w rest t refl once e,
      queue_gone (w + 1) 0 t high,
      waiting_gone (w + 1) t
          ∙ without_none (waiting_in t) (w + 1) waiting,
    ) refl

-- one that waits goes
pub forgotten : (t : List Entry) (p : ℕ) → AllPairs (λ v w. v ≢ w) (workspaces_in (lists_of t))
    → IsSome (option_map (λ (w : Waiter). w.reason) (find (λ w. w.process == p) (waiting_in t)))
    → lists_of (gone p t) ≡ record (lists_of t) { waiting = without p (waiting_in t) }
forgotten t p h s =
    let once : IsOnce t = table_once t h in
    let there : 0 < occurs (workspace_of p) (workspaces_of (waiting_in t)) =
    by (option_map (λ (w : Waiter). w.reason) (find (λ w. w.process == p) (waiting_in t))) refl s in
    let high : occurs (workspace_of p) (queue_in 0 t) ≡ 0 =
    omega (arith, there, once (workspace_of p), times_of t (workspace_of p)) in
    let low : occurs (workspace_of p) (queue_in 1 t) ≡ 0 =
    omega (arith, there, once (workspace_of p), times_of t (workspace_of p)) in
    rw (queue_gone p 0 t high, queue_gone p 1 t low, waiting_gone p t) refl
  where
    by : (o : Option Reason)
        → option_map (λ (w : Waiter). w.reason) (find (λ w. w.process == p) (waiting_in t)) ≡ o → IsSome o
        → 0 < occurs (workspace_of p) (workspaces_of (waiting_in t))
    by (Some r) e k = waiter_occurs (waiting_in t) p r (found_waiter (waiting_in t) p r e)
    by None e k = cc
