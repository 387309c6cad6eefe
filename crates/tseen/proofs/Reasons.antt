-- What processes wait for where one more waits, or one less.
use Rattle.std.proofs.Common.{◌≡◌, ℕ, refl, sym, ◌∙◌, List, [], ◌∷◌, ◌++◌, Bool, true, false, cond, not, Option, Some}
use Rattle.std.proofs.Common.{None}
use Rattle.std.specs.Prelude.{◌==◌, find, option_map}
use Rattle.std.proofs.lemmas.Bool.{eq-eqb, ne_eqb, eqb-true}
use Rattle.tproc.specs.declared.waiter.Reason.{Reason}
use Rattle.tproc.specs.declared.waiter.Waiter.{Waiter}
use Rattle.tproc.proofs.Waiters.{without}

-- what a process waits for, among these
abbrev pub reason_in : List Waiter → ℕ → Option Reason
reason_in ws q = option_map (λ w. w.reason) (find (λ w. w.process == q) ws)

-- the others wait as they did
pub push_other : (ws : List Waiter) (x : Waiter) (q : ℕ) → (x.process ≡ q → ⊥)
    → reason_in (ws ++ x ∷ []) q ≡ reason_in ws q
push_other [] x q h = rw (ne_eqb x.process q h) refl
push_other (y ∷ ws) x q h = by (y.process == q) (push_other ws x q h)
  where
    by : (b : Bool) → reason_in (ws ++ x ∷ []) q ≡ reason_in ws q
        → option_map (λ w. w.reason) (cond b (Some y) (find (λ w. w.process == q) (ws ++ x ∷ [])))
        ≡ option_map (λ w. w.reason) (cond b (Some y) (find (λ w. w.process == q) ws))
    by true e = refl
    by false e = e

-- and a new one for its own reason
pub push_new : (ws : List Waiter) (x : Waiter) → reason_in ws x.process ≡ None
    → reason_in (ws ++ x ∷ []) x.process ≡ Some x.reason
push_new [] x h = rw (eq-eqb x.process x.process refl) refl
push_new (y ∷ ws) x h = by (y.process == x.process) h (push_new ws x)
  where
    by : (b : Bool)
        → option_map (λ w. w.reason) (cond b (Some y) (find (λ w. w.process == x.process) ws)) ≡ None
        → (reason_in ws x.process ≡ None → reason_in (ws ++ x ∷ []) x.process ≡ Some x.reason)
        → option_map (λ w. w.reason) (cond b (Some y) (find (λ w. w.process == x.process) (ws ++ x ∷ [])))
        ≡ Some x.reason
    by true e k = cc
    by false e k = k e

-- where one is taken out, the others wait as they did
pub without_other : (ws : List Waiter) (p q : ℕ) → (q ≡ p → ⊥) → reason_in (without p ws) q ≡ reason_in ws q
without_other [] p q h = refl
without_other (y ∷ ws) p q h = by (y.process == p) refl (without_other ws p q h)
  where
    by : (b : Bool) → (y.process == p) ≡ b → reason_in (without p ws) q ≡ reason_in ws q
        → reason_in (cond (not b) (y ∷ without p ws) (without p ws)) q
        ≡ option_map (λ w. w.reason) (cond (y.process == q) (Some y) (find (λ w. w.process == q) ws))
    by true e k = rw (ne_eqb y.process q (λ f. h (sym f ∙ eqb-true _ _ e))) k
    by false e k = of (y.process == q)
      where
        of : (b : Bool)
            → option_map (λ w. w.reason) (cond b (Some y) (find (λ w. w.process == q) (without p ws)))
            ≡ option_map (λ w. w.reason) (cond b (Some y) (find (λ w. w.process == q) ws))
        of true = refl
        of false = k

-- and it waits no more
pub without_itself : (ws : List Waiter) (p : ℕ) → reason_in (without p ws) p ≡ None
without_itself [] p = refl
without_itself (y ∷ ws) p = by (y.process == p) refl (without_itself ws p)
  where
    by : (b : Bool) → (y.process == p) ≡ b → reason_in (without p ws) p ≡ None
        → reason_in (cond (not b) (y ∷ without p ws) (without p ws)) p ≡ None
    by true e k = k
    by false e k = rw e k
