-- What a process that is added leaves: its place in a queue, its saved Iptr, and all other cells but those of the link
-- of the process before it.
use Rattle.std.proofs.Common.{◌≡◌, sym, ap, ℕ, length, true, not, Result, Ok, Option, Some, None}
use Rattle.tword.specs.declared.breaks.Break.{Break}
use Rattle.tword.specs.Stores.{Store}
use Rattle.tword.specs.Claims.{Claims, saving}
use Rattle.tword.specs.Touches.{deschedule_break}
use Rattle.tword.specs.Actions.{answer, run, run_from, with_saved_word, ◌>>=◌}
use Rattle.tword.proofs.Leads.{passed, met}
use Rattle.tproc.specs.Machine.{Control, Machine, workspace_of, priority_of, claims_of}
use Rattle.tproc.specs.ProcessStatus.{queue, is_live}
use Rattle.tproc.specs.Queues.{admit, enqueue, add_process, appended, last_of, link_from, iptr_word, link_word}
use Rattle.tproc.specs.Opening.{added}
use Rattle.tproc.proofs.Leaving.{added-gives}

-- the last of a queue is linked to a new process
abbrev pub linked : Claims → Option ℕ → ℕ → Store → Store
linked c None w store = store
linked c (Some last) w store = with_saved_word store c last link_word w

-- what an answer is made of
ok_parts : {A B : Type 0} (x a : A) (y b : B) → ◌≡◌ {A = Result (A × B) Break} (Ok (x, y)) (Ok (a, b))
    → (a ≡ x) × (b ≡ y)
ok_parts {A} {B} x a y b e =
    let p : ◌≡◌ {A = A × B} (x, y) (a, b) = cc in
    (sym (ap (λ (z : A × B). z.0) p), sym (ap (λ (z : A × B). z.1) p))

-- a process was added
pub record IsAdded (process iptr : ℕ) (n n' : Machine) : Type 0 where
  pub new : not (is_live n.control (workspace_of process)) ≡ true
  pub passes : deschedule_break (length n.store) (claims_of n.control) (workspace_of process) ≡ None
  pub control : n'.control ≡ appended (workspace_of process) (priority_of process) n.control
  pub store : n'.store ≡ linked (saving (workspace_of process) (claims_of n.control))
      (last_of (queue n.control (priority_of process))) (workspace_of process)
      (with_saved_word n.store (saving (workspace_of process) (claims_of n.control)) (workspace_of process) iptr_word
      iptr)

-- the end of an action that adds a process
ends : (process : ℕ) (m : Control) (c : Claims) (o : Option ℕ) (old s : Store) (m' : Control) (t : Store)
    → run_from (link_from o (workspace_of process)
    >>= (λ _. answer (appended (workspace_of process) (priority_of process) m))) old c s ≡ Ok (m', t)
    → (m' ≡ appended (workspace_of process) (priority_of process) m) × (t ≡ linked c o (workspace_of process) s)
ends process m c None old s m' t e =
    ok_parts (appended (workspace_of process) (priority_of process) m) m' s t e
ends process m c (Some last) old s m' t e =
    ok_parts (appended (workspace_of process) (priority_of process) m) m'
    (with_saved_word s c last link_word (workspace_of process)) t e

-- the whole action
after : (process iptr : ℕ) (n : Machine) (m : Control) (t : Store)
    → run (add_process process iptr n.control) n.store (claims_of n.control) ≡ Ok (m, t)
    → IsAdded process iptr n (record { control = m; store = t })
unfolding admit enqueue
after process iptr n m t e =
    let a = passed _ _ _ e in
    let b = passed _ _ _ a.1 in
    let d = passed _ _ _ b.1 in
    let f = passed _ _ _ d.1 in
    let c : Claims = saving (workspace_of process) (claims_of n.control) in
    let g = ends process n.control c (last_of (queue n.control (priority_of process))) n.store
    (with_saved_word n.store c (workspace_of process) iptr_word iptr) m t f.1 in
    record { new = met _ _ b.0; passes = f.0; control = g.0; store = g.1 }

-- a process that was added
pub is_added : (process iptr : ℕ) (n n' : Machine) → added process iptr n ≡ Ok n' → IsAdded process iptr n n'
is_added process iptr n n' h =
    added-gives (λ (m : Machine). IsAdded process iptr n m) n process iptr n' (λ m t e. after process iptr n m t e) h
