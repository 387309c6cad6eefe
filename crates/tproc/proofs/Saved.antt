-- Processes that are queued or wait have their words saved.
use Rattle.std.proofs.Common.{◌≡◌, ◌∙◌, ℕ, ◌-◌, ◌||◌, Bool, false, zero, suc, true, length, Some, None, Option, List}
use Rattle.std.proofs.Common.{[], ◌∷◌, ◌++◌, refl}
use Rattle.std.specs.Prelude.{IfSome, IsSome, slice_get, ◌==◌}
use Rattle.std.proofs.lemmas.Bool.{eq-eqb, or_right}
use Rattle.std.proofs.lemmas.List.Folds.{list_any_at, list_any-append}
use Rattle.std.proofs.lemmas.Option.{slice_get_within, get_or_from_slice_get}
use Rattle.tword.specs.Claims.{Claims, has_saved, saving}
use Rattle.tproc.specs.Machine.{Control, workspace_of, priority_of, descheduled}
use Rattle.tproc.specs.declared.waiter.Reason.{Reason}
use Rattle.tproc.specs.ProcessStatus.{queue, is_among, is_queued, reason_of}
use Rattle.tproc.specs.Queues.{last_of}
use Rattle.tproc.specs.Agreement.{AgreesWith, Agrees, AreSaved}
use Rattle.tproc.proofs.Occurs.{occurs-found}
use Rattle.tproc.proofs.Waiters.{waiter_occurs}
use Rattle.tproc.proofs.ClaimState.{HasWaiter, workspaces_of}
use Rattle.tproc.proofs.Agreeing.{a_waiter}

-- what is read from a list is among it
got : (xs : List ℕ) (i x : ℕ) → slice_get xs i ≡ Some x → is_among x xs ≡ true
got xs i x e = list_any_at (λ v. v == x) xs i x (slice_get_within xs i x e)
    (eq-eqb _ _ (get_or_from_slice_get xs i x x e))

-- the workspace that is saved besides
pub itself_saved : (w : ℕ) (others : List ℕ) (c : Claims) (m : Control) → AgreesWith (w ∷ others) c m
    → has_saved c w ≡ true
itself_saved w others c m h = rw (h.on.saved w, eq-eqb w w refl) refl

-- those of a control are saved
among_right : (w : ℕ) (xs ys : List ℕ) → is_among w ys ≡ true → is_among w (xs ++ ys) ≡ true
among_right w xs ys e = simp list_any-append (or_right (is_among w xs) _ e)

pub are_saved : (others : List ℕ) (c : Claims) (m : Control) → AgreesWith others c m → AreSaved c m
are_saved others c m h = λ w e. h.on.saved w ∙ among_right w others (descheduled m) e

-- and stay so
pub are_saved-saving : (w : ℕ) (c : Claims) (m : Control) → AreSaved c m → AreSaved (saving w c) m
are_saved-saving w c m h = λ v e. or_right (w == v) _ (h v e)

-- the last of a queue
in_queue : (m : Control) (p w : ℕ) → is_among w (queue m p) ≡ true → is_among w (descheduled m) ≡ true
in_queue m zero w e = simp list_any-append (rw e refl)
in_queue m (suc p) w e = simp list_any-append (rw e (middle (is_among w m.high) _))
  where
    middle : (a b : Bool) → ((a || true) || b) ≡ true
    middle true b = refl
    middle false b = refl

-- so the last of a queue, if there is one, has its words saved
pub last_is_saved : (c : Claims) (m : Control) (p : ℕ) → AreSaved c m
    → IfSome (last_of (queue m p)) (λ last. has_saved c last ≡ true)
last_is_saved c m p h = by (last_of (queue m p)) refl
  where
    by : (o : Option ℕ) → last_of (queue m p) ≡ o → IfSome o (λ last. has_saved c last ≡ true)
    by None e = tt
    by (Some last) e = h last (in_queue m p last (got (queue m p) (length (queue m p) - 1) last e))

-- a process that waits
pub waiter_saved : (c : Claims) (m : Control) (p : ℕ) → AreSaved c m → IsSome (reason_of m p)
    → has_saved c (workspace_of p) ≡ true
waiter_saved c m p h e =
    let w : (r : Reason) × HasWaiter m.waiting p r = a_waiter m p e in
    let k : is_among (workspace_of p) (workspaces_of m.waiting) ≡ true =
    occurs-found (workspace_of p) (workspaces_of m.waiting) (waiter_occurs m.waiting p w.0 w.1) in
    h (workspace_of p)
    (simp list_any-append (rw k (last (is_among (workspace_of p) m.high || is_among (workspace_of p) m.low))))
  where
    last : (a : Bool) → (a || true) ≡ true
    last true = refl
    last false = refl

-- and one that is queued
pub queued_saved : (c : Claims) (m : Control) (p : ℕ) → AreSaved c m → is_queued m p ≡ true
    → has_saved c (workspace_of p) ≡ true
queued_saved c m p h e = h (workspace_of p) (in_queue m (priority_of p) (workspace_of p) e)

pub saved_beside : (w v : ℕ) (c : Claims) → has_saved c v ≡ true → has_saved (saving w c) v ≡ true
saved_beside w v c e = or_right (w == v) _ e

pub are_saved_beside : (w : ℕ) (c d : Claims) (m : Control) → Agrees c m → d ≡ saving w c → AreSaved d m
are_saved_beside w c d m h e = rw e (are_saved-saving w c m (are_saved [] c m h))

pub waiter_saved_now : (c : Claims) (m : Control) (p : ℕ) → Agrees c m → IsSome (reason_of m p)
    → has_saved c (workspace_of p) ≡ true
waiter_saved_now c m p h e = waiter_saved c m p (are_saved [] c m h) e

pub queued_saved_now : (c : Claims) (m : Control) (p : ℕ) → Agrees c m → is_queued m p ≡ true
    → has_saved c (workspace_of p) ≡ true
queued_saved_now c m p h e = queued_saved c m p (are_saved [] c m h) e
