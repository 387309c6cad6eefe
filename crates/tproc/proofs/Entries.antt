-- The entries of the processes that are queued or wait, of which some are empty, and the table of those that are not.
use Rattle.std.proofs.Common.{◌≡◌, ℕ, zero, suc, ◌+◌, ◌<◌, ◌≤◌, refl, sym, ap, ◌∙◌, List, [], ◌∷◌, ◌++◌, set}
use Rattle.std.proofs.Common.{get_or, length, Bool, true, false, Some, None, Option, arith, length-append}
use Rattle.std.specs.Prelude.{◌==◌, filter, find, not}
use Rattle.std.specs.List.{list_any}
use Rattle.std.proofs.Common.{take, drop, append-nil, append_assoc}
use Rattle.std.proofs.lemmas.List.{get_or_read, drop_all, drop-set-lt, length-set, take_more_set}
use Rattle.std.proofs.lemmas.List.Elements.{filter_map-append}
use Rattle.std.proofs.lemmas.Bool.{eqb-true, eq-eqb, ne_eqb, or_right}
use Rattle.tword.specs.Claims.{Claims, has_saved}
use Rattle.tproc.specs.Machine.{workspace_of}
use Rattle.tproc.specs.ProcessStatus.{is_among}
use Rattle.tproc.specs.declared.waiter.Entry.{Entry}
use Rattle.tproc.specs.Entries.{present, is_entry_of, workspaces, AreSavedOf, IsEntryAt, ShareNoWorkspace}
use Rattle.tproc.proofs.Occurs.{occurs, occurring_once, same_once}

-- all but a process
abbrev pub gone : ℕ → List Entry → List Entry
gone process table = filter (λ e. not (e.process == process)) table

-- no workspace stands there twice
abbrev pub IsOnce : List Entry → Type 0
IsOnce table = (w : ℕ) → occurs w (workspaces table) ≤ 1

pub once_each : (table : List Entry) → ShareNoWorkspace table → IsOnce table
once_each table h w = occurring_once (workspaces table) h w

-- an entry that was read and is that of a process
pub entry_read : (es : List (Option Entry)) (i p : ℕ) (x : Option Entry) → i < length es → x ≡ get_or es i x
    → true ≡ is_entry_of p x → IsEntryAt es i p
entry_read es i p x within e h = (within, sym (rw (get_or_read es i x within e None) at h))

-- the workspace of an entry stands among those of the table
entry_occurs : (es : List (Option Entry)) (i p : ℕ) → IsEntryAt es i p
    → 0 < occurs (workspace_of p) (workspaces (present es))
entry_occurs [] i p h = absurd (omega (arith, h.0))
entry_occurs (None ∷ es) zero p h = cc
entry_occurs (Some e ∷ es) zero p h =
    omega (arith, same_once (workspace_of e.process) (workspace_of p) (ap workspace_of (eqb-true _ _ h.1)))
entry_occurs (None ∷ es) (suc i) p h = entry_occurs es i p ((omega (arith, h.0)), h.1)
entry_occurs (Some e ∷ es) (suc i) p h = omega (arith, entry_occurs es i p ((omega (arith, h.0)), h.1))

-- an entry behind another is of another process
other_entry : (x : Entry) (es : List (Option Entry)) (i p : ℕ) → IsOnce (x ∷ present es) → IsEntryAt es i p
    → (x.process == p) ≡ false
other_entry x es i p once at =
    ne_eqb _ _
    (λ k. absurd
    (omega (
      arith,
      once (workspace_of p),
      same_once (workspace_of x.process) (workspace_of p) (ap workspace_of k),
      entry_occurs es i p at,
    )))

-- the process of an entry is found, with that entry
pub found_at : (es : List (Option Entry)) (i p : ℕ) → IsOnce (present es) → IsEntryAt es i p
    → find (λ e. e.process == p) (present es) ≡ get_or es i None
found_at [] i p once h = absurd (omega (arith, h.0))
found_at (None ∷ es) zero p once h = cc
found_at (Some e ∷ es) zero p once h = rw h.1 refl
found_at (None ∷ es) (suc i) p once h = found_at es i p once ((omega (arith, h.0)), h.1)
found_at (Some e ∷ es) (suc i) p once h =
    let rest : IsEntryAt es i p = ((omega (arith, h.0)), h.1) in
    rw (other_entry e es i p once rest) (found_at es i p (λ v. omega (arith, once v)) rest)

-- a process that does not stand there is not taken out
absent_stays : (t : List Entry) (p : ℕ) → occurs (workspace_of p) (workspaces t) ≡ 0 → gone p t ≡ t
absent_stays [] p h = refl
absent_stays (x ∷ xs) p h =
    let other : (x.process == p) ≡ false =
    ne_eqb _ _
    (λ k. absurd (omega (arith, h, same_once (workspace_of x.process) (workspace_of p) (ap workspace_of k)))) in
    rw other (ap (λ (ys : List Entry). x ∷ ys) (absent_stays xs p (omega (arith, h))))

-- an entry is emptied: its process is taken out of the table
pub emptied : (es : List (Option Entry)) (i p : ℕ) → IsOnce (present es) → IsEntryAt es i p
    → present (set es i None) ≡ gone p (present es)
emptied [] i p once h = absurd (omega (arith, h.0))
emptied (None ∷ es) zero p once h = cc
emptied (Some e ∷ es) zero p once h =
    let same : workspace_of e.process ≡ workspace_of p = ap workspace_of (eqb-true _ _ h.1) in
    rw h.1 (sym
    (absent_stays (present es) p
    (omega (arith, once (workspace_of p), same_once (workspace_of e.process) (workspace_of p) same))))
emptied (None ∷ es) (suc i) p once h = emptied es i p once ((omega (arith, h.0)), h.1)
emptied (Some e ∷ es) (suc i) p once h =
    let rest : IsEntryAt es i p = ((omega (arith, h.0)), h.1) in
    rw (other_entry e es i p once rest)
    (ap (λ (xs : List Entry). e ∷ xs) (emptied es i p (λ v. omega (arith, once v)) rest))

-- and the table is shorter by one
pub emptied_length : (es : List (Option Entry)) (i p : ℕ) → IsEntryAt es i p
    → length (present (set es i None)) + 1 ≡ length (present es)
emptied_length [] i p h = absurd (omega (arith, h.0))
emptied_length (None ∷ es) zero p h = cc
emptied_length (Some e ∷ es) zero p h = omega arith
emptied_length (None ∷ es) (suc i) p h = emptied_length es i p ((omega (arith, h.0)), h.1)
emptied_length (Some e ∷ es) (suc i) p h = omega (arith, emptied_length es i p ((omega (arith, h.0)), h.1))

-- one more entry
pub pushed : (es : List (Option Entry)) (e : Entry) → present (es ++ Some e ∷ []) ≡ present es ++ e ∷ []
pushed es e = filter_map-append (λ (x : Option Entry). x) es (Some e ∷ [])

pub pushed_length : (es : List (Option Entry)) (e : Entry)
    → length (present (es ++ Some e ∷ [])) ≡ length (present es) + 1
pushed_length es e = ap (λ (t : List Entry). length t) (pushed es e) ∙ length-append (present es) (e ∷ [])

-- a process that no entry has is not in the table
pub absent_from : (es : List (Option Entry)) (p : ℕ) → list_any (is_entry_of p) es ≡ false
    → find (λ e. e.process == p) (present es) ≡ None
absent_from [] p h = refl
absent_from (None ∷ es) p h = absent_from es p h
absent_from (Some x ∷ es) p h = by (absent_from es p) (x.process == p) refl
  where
    by : (list_any (is_entry_of p) es ≡ false → find (λ e. e.process == p) (present es) ≡ None) → (b : Bool)
        → (x.process == p) ≡ b → find (λ e. e.process == p) (present (Some x ∷ es)) ≡ None
    by rest true k = let f : true ≡ false = rw k at h in cc
    by rest false k = rw k (rest (rw k at h))

-- nor is one whose words are not saved
pub unsaved_absent : (c : Claims) (t : List Entry) (p : ℕ) → AreSavedOf c t → has_saved c (workspace_of p) ≡ false
    → find (λ e. e.process == p) t ≡ None
unsaved_absent c [] p h u = refl
unsaved_absent c (x ∷ xs) p h u =
    by (unsaved_absent c xs p (λ w e. h w (or_right (workspace_of x.process == w) _ e)) u) (x.process == p) refl
  where
    by : find (λ e. e.process == p) xs ≡ None → (b : Bool) → (x.process == p) ≡ b
        → find (λ e. e.process == p) (x ∷ xs) ≡ None
    by rest true k =
        let same : workspace_of x.process ≡ workspace_of p = ap workspace_of (eqb-true _ _ k) in
        let there : is_among (workspace_of p) (workspaces (x ∷ xs)) ≡ true = rw (eq-eqb _ _ same) refl in
        let f : false ≡ true = sym u ∙ h (workspace_of p) there in
        cc
    by rest false k = rw k rest

-- a process that is not found is not taken out
pub unfound_stays : (t : List Entry) (p : ℕ) → find (λ e. e.process == p) t ≡ None → t ≡ gone p t
unfound_stays [] p h = refl
unfound_stays (x ∷ xs) p h = by (unfound_stays xs p) (x.process == p) refl
  where
    by : (find (λ e. e.process == p) xs ≡ None → xs ≡ gone p xs) → (b : Bool) → (x.process == p) ≡ b
        → x ∷ xs ≡ gone p (x ∷ xs)
    by rest true k = let f : ◌≡◌ {A = Option Entry} (Some x) None = rw k at h in cc
    by rest false k = rw k (ap (λ (ys : List Entry). x ∷ ys) (rest (rw k at h)))

-- the empty entries are closed up: those before a place that are kept, and those from another on: together they are all
pub record AreClosedUpTo (kept place : ℕ) (es first : List (Option Entry)) : Type 0 where
  pub before : kept ≤ place
  pub size : length es ≡ length first
  pub all : present (take kept es) ++ present (drop place es) ≡ present first
  pub full : length (present (take kept es)) ≡ kept

pub closed_up_none : (es : List (Option Entry)) → AreClosedUpTo 0 0 es es
closed_up_none es = record { before = omega arith; size = refl; all = refl; full = refl }

-- the entry at a place, and those behind it
here_on : (es : List (Option Entry)) (place : ℕ) (o : Option Entry) → place < length es → get_or es place None ≡ o
    → drop place es ≡ o ∷ drop (suc place) es
here_on [] place o l e = absurd (omega (arith, l))
here_on (x ∷ xs) zero o l e = rw e refl
here_on (x ∷ xs) (suc place) o l e = here_on xs place o (omega (arith, l)) e

here : (es : List (Option Entry)) (place : ℕ) (o : Option Entry) → place < length es → get_or es place None ≡ o
    → drop place es ≡ o ∷ drop (place + 1) es
here es place o l e = let one : place + 1 ≡ suc place = omega arith in rw one (here_on es place o l e)

-- an empty one is passed over
pub closed_up_past : (kept place : ℕ) (es first : List (Option Entry)) → AreClosedUpTo kept place es first
    → place < length es → get_or es place None ≡ None → AreClosedUpTo kept (place + 1) es first
closed_up_past kept place es first h l e =
    record {
      before = omega (arith, h.before);
      size = h.size;
      all = ap (λ ds. present (take kept es) ++ present ds) (sym (here es place None l e)) ∙ h.all;
      full = h.full;
    }

-- one that is not is moved down
pub closed_up_one : (kept place : ℕ) (es first : List (Option Entry)) (x : Entry) → AreClosedUpTo kept place es first
    → place < length es → get_or es place None ≡ Some x
    → AreClosedUpTo (kept + 1) (place + 1) (set es kept (Some x)) first
closed_up_one kept place es first x h l e =
    record {
      before = omega (arith, h.before);
      size = length-set es kept (Some x) ∙ h.size;
      all = rw (moved, rest, pushed (take kept es) x, append_assoc (present (take kept es)) (x ∷ []) _)
          (ap (λ ds. present (take kept es) ++ present ds) (sym (here es place (Some x) l e)) ∙ h.all);
      full = rw moved (omega (arith, pushed_length (take kept es) x, h.full));
    }
  where
    moved : take (kept + 1) (set es kept (Some x)) ≡ take kept es ++ Some x ∷ []
    moved = take_more_set es kept (Some x) (omega (arith, h.before, l))

    rest : drop (place + 1) (set es kept (Some x)) ≡ drop (place + 1) es
    rest = drop-set-lt (place + 1) es kept (Some x) (omega (arith, h.before))

-- at the end all of them are those that are kept
pub closed_up_all : (kept place : ℕ) (es first : List (Option Entry)) → AreClosedUpTo kept place es first
    → length es ≤ place → (present (take kept es) ≡ present first) × (length (present first) ≡ kept)
closed_up_all kept place es first h l =
    let none : drop place es ≡ [] = drop_all place es l in
    let all : present (take kept es) ≡ present first =
    sym (append-nil (present (take kept es)))
    ∙ ap (λ ds. present (take kept es) ++ present ds) (sym none) ∙ h.all in
    (all, (sym (ap (λ (t : List Entry). length t) all) ∙ h.full))
