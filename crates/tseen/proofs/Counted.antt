-- Where a process is found, and how many have a workspace, as its workspace changes.
use Rattle.std.proofs.Common.{◌≡◌, ℕ, suc, ◌+◌, ◌<◌, ◌%◌, refl, sym, ap, ◌∙◌, List, [], ◌∷◌, ◌++◌, map}
use Rattle.std.proofs.Common.{Bool, true, false, true≢false, cond, Contains, Some, None, arith, append-nil, length}
use Rattle.std.proofs.Common.{length-append, pos}
use Rattle.std.specs.Prelude.{◌==◌, find, option_map, option_to_list, is_some, negsuc, if◌then◌else◌}
use Rattle.std.specs.List.{count_by}
use Rattle.std.proofs.lemmas.Bool.{eqb-true, eq-eqb}
use Rattle.std.proofs.lemmas.List.Elements.{Contains-append_right}
use Rattle.std.proofs.lemmas.List.Sums.{sum_by-append, sum_by-cons}
use Rattle.std.proofs.lemmas.Int.{ints}
use Rattle.tproc.specs.declared.waiter.Waiter.{Waiter}
use Rattle.tproc.specs.Machine.{Control, workspace_of, priority_of, descheduled}
use Rattle.tproc.specs.ProcessStatus.{live, interrupted_process, reason_of, is_queued}
use Rattle.tprocesses.specs.Values.{IsAmount}
use Rattle.tprocesses.specs.Changes.{Add, apply}
use Rattle.tprocesses.specs.Touching.{Site}
use Rattle.tseen.proofs.Adding.{in_queue}
use Rattle.tseen.proofs.Finished.{moved}

-- a process that waits has its workspace among those that wait
found_waiter : (waiting : List Waiter) (p : ℕ)
    → is_some (option_map (λ w. w.reason) (find (λ w. w.process == p) waiting)) ≡ true
    → Contains (map (λ w. workspace_of w.process) waiting) (workspace_of p)
found_waiter [] p h = absurd (true≢false (sym h))
found_waiter (x ∷ xs) p h = by (x.process == p) refl (found_waiter xs p) h
  where
    by : (b : Bool) → (x.process == p) ≡ b
        → (is_some (option_map (λ w. w.reason) (find (λ w. w.process == p) xs)) ≡ true
        → Contains (map (λ w. workspace_of w.process) xs) (workspace_of p))
        → is_some (option_map (λ w. w.reason) (cond b (Some x) (find (λ w. w.process == p) xs))) ≡ true
        → Contains (map (λ w. workspace_of w.process) (x ∷ xs)) (workspace_of p)
    by true e rec h = (0, omega arith, ap workspace_of (eqb-true _ _ e))
    by false e rec h =
        let c : Contains (map (λ w. workspace_of w.process) xs) (workspace_of p) = rec h in
        (suc c.0, omega (arith, c.1), c.2)

-- who waits, or is queued, is descheduled
pub waits_descheduled : (m : Control) (p : ℕ) → is_some (reason_of m p) ≡ true
    → Contains (descheduled m) (workspace_of p)
waits_descheduled m p h =
    Contains-append_right (m.high ++ m.low) (map (λ x. workspace_of x.process) m.waiting) (workspace_of p)
    (found_waiter m.waiting p h)

pub queued_descheduled : (m : Control) (p : ℕ) → is_queued m p ≡ true → Contains (descheduled m) (workspace_of p)
queued_descheduled m p h = in_queue m (priority_of p) (workspace_of p) h

-- who was interrupted, and all that live but do not run
abbrev pub beside : Control → List ℕ
beside m = map workspace_of (option_to_list (interrupted_process m))

abbrev pub settled : Control → List ℕ
settled m = descheduled m ++ beside m

-- the live processes, where one runs, and where none does
pub live_beside : (m : Control) (level : ℕ) → m.current ≡ Some level
    → live m ≡ descheduled m ++ workspace_of (m.registers.wptr + level) ∷ beside m
live_beside m level c = rw c refl

pub live_idle : (m : Control) → m.current ≡ None → live m ≡ settled m
live_idle m c = rw c refl

pub live_long : (m : Control) (level : ℕ) → m.current ≡ Some level → length (live m) ≡ suc (length (settled m))
live_long m level c =
    ap length (live_beside m level c)
    ∙ length-append (descheduled m) (workspace_of (m.registers.wptr + level) ∷ beside m)
    ∙ sym (ap suc (length-append (descheduled m) (beside m)) ∙ omega arith)

pub settled_alone : (m : Control) → m.interrupted ≡ None → settled m ≡ descheduled m
settled_alone m i = rw i (append-nil (descheduled m))

-- how many have a workspace
abbrev pub count_at : ℕ → List ℕ → ℕ
count_at w ws = count_by (λ v. v == w) ws

pub lives_are : (m : Control) (level w : ℕ) → m.current ≡ Some level → m.registers.wptr % 4 ≡ 0 → level < 2
    → count_at w (live m) ≡ count_at w (settled m) + cond (m.registers.wptr == w) 1 0
lives_are m level w c aligned small =
    let own : workspace_of (m.registers.wptr + level) ≡ m.registers.wptr = omega (arith, aligned, small) in
    ap (count_at w) (live_beside m level c)
    ∙ sum_by-append f (descheduled m) (workspace_of (m.registers.wptr + level) ∷ beside m)
    ∙ ap (λ z. count_at w (descheduled m) + z)
    (sum_by-cons f (workspace_of (m.registers.wptr + level)) (beside m) ∙ ap (λ z. f z + count_at w (beside m)) own)
    ∙ sym (ap (λ z. z + f m.registers.wptr) (sum_by-append f (descheduled m) (beside m)) ∙ omega arith)
  where
    f : ℕ → ℕ
    f v = cond (v == w) 1 0

-- one more
pub one_more : (a : ℕ) (b : Bool) → (if b then apply (Add (pos 1)) (IsAmount (pos a)) else IsAmount (pos a))
    ≡ IsAmount (pos (a + cond b 1 0))
one_more a true = ap IsAmount (omega (arith, ints))
one_more a false = ap (λ z. IsAmount (pos z)) (omega arith)

-- one more, and one less
moved_by : (a b same : Bool) (d : ℕ) → (same ≡ true → a ≡ b) → (a ≡ true → b ≡ true → same ≡ true)
    → (if same then IsAmount (pos (d + cond a 1 0))
    else if b then apply (Add (pos 1)) (if a then apply (Add (negsuc 0)) (IsAmount (pos (d + cond a 1 0)))
    else IsAmount (pos (d + cond a 1 0)))
    else if a then apply (Add (negsuc 0)) (IsAmount (pos (d + cond a 1 0))) else IsAmount (pos (d + cond a 1 0)))
    ≡ IsAmount (pos (d + cond b 1 0))
moved_by a b true d h k = rw (h refl) refl
moved_by true true false d h k = absurd (true≢false (sym (k refl refl)))
moved_by true false false d h k = ap IsAmount (omega (arith, ints))
moved_by false true false d h k = ap IsAmount (omega (arith, ints))
moved_by false false false d h k = refl

-- the same holds where a process has another workspace
pub moved_count : (site : Site) (old new w d : ℕ)
    → moved site old new w (IsAmount (pos (d + cond (old == w) 1 0))) ≡ IsAmount (pos (d + cond (new == w) 1 0))
moved_count site old new w d =
    moved_by (old == w) (new == w) (old == new) d
    (λ e. let f : old ≡ new = eqb-true _ _ e in rw f refl)
    (λ e f. eq-eqb old new (eqb-true _ _ e ∙ sym (eqb-true _ _ f)))
