-- Processes that are refused, one after another.
use Rattle.std.proofs.Common.{◌≡◌, ℕ, ◌+◌, ◌<◌, ◌≤◌, refl, sym, ap, ◌∙◌, List, [], ◌++◌, length, get_or, drop}
use Rattle.std.proofs.Common.{add-one, drop-cons, Result, Ok, Err}
use Rattle.std.proofs.Math.ListN.{drop_of_length-le}
use Rattle.tword.specs.declared.breaks.Break.{Break}
use Rattle.tproc.specs.Machine.{Machine}
use Rattle.tproc.specs.Opening.{Adds, added}
use Rattle.tplan.specs.declared.plan.Process.{Process}
use Rattle.tcheck.specs.Wrongs.{process_wrongs, refused, left_by}

-- the processes from one of them on
pub processes_next : (node k : ℕ) (ps : List Process) (x : Process) (m m' : Machine) → k < length ps
    → x ≡ get_or ps k x → m' ≡ left_by m (added x.wdesc x.iptr m)
    → process_wrongs node k (drop k ps) m
    ≡ refused node k x (added x.wdesc x.iptr m) ++ process_wrongs node (k + 1) (drop (k + 1) ps) m'
processes_next node k ps x m m' l is left =
    rw (add-one k) (ap (λ (qs : List Process). process_wrongs node k qs m) (drop-cons ps k x l))
    ∙ ap (λ (y : Process). refused node k y (added y.wdesc y.iptr m)
    ++ process_wrongs node (k + 1) (drop (k + 1) ps) (left_by m (added y.wdesc y.iptr m))) (sym is)
    ∙ ap (λ (n : Machine). refused node k x (added x.wdesc x.iptr m)
    ++ process_wrongs node (k + 1) (drop (k + 1) ps) n) (sym left)

-- behind the last there is none
pub processes_end : (node k : ℕ) (ps : List Process) (m : Machine) → length ps ≤ k
    → process_wrongs node k (drop k ps) m ≡ []
processes_end node k ps m l =
    ap (λ (qs : List Process). process_wrongs node k qs m) (drop_of_length-le ps l)

-- a process was added
pub was_added : (node k : ℕ) (p : Process) (x : Result Machine Break) (m m' : Machine) (r : Result (Unit {0}) Break)
    → Adds x m r m' → r ≡ Ok tt → (refused node k p x ≡ []) × (m' ≡ left_by m x)
was_added node k p (Ok n) m m' r d e = (refl, d.1)
was_added node k p (Err b) m m' r d e = let no : Err b ≡ Ok tt = sym d.0 ∙ e in cc

-- a process was refused
pub was_refused : (node k : ℕ) (p : Process) (x : Result Machine Break) (m m' : Machine) (r : Result (Unit {0}) Break)
    (b : Break)
    → Adds x m r m' → r ≡ Err b → (refused node k p x ≡ refused node k p (Err b)) × (m' ≡ left_by m x)
was_refused node k p (Ok n) m m' r b d e = let no : Ok tt ≡ Err b = sym d.0 ∙ e in cc
was_refused node k p (Err c) m m' r b d e =
    let same : Err c ≡ Err b = sym d.0 ∙ e in
    (ap (λ (x : Result Machine Break). refused node k p x) (let is : c ≡ b = cc in ap (λ (y : Break). Err y) is), d.1)
