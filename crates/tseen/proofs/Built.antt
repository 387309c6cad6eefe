-- A processor of a plan after some of its processes were added.
use Rattle.std.proofs.Common.{◌≡◌, ℕ, ◌+◌, ◌-◌, ◌<◌, ◌≤◌, ◌^◌, refl, ◌∙◌, List, [], ◌∷◌, ◌++◌, length, get_or, Bool}
use Rattle.std.proofs.Common.{true, false, None, ◌⊎◌, inl, inr, arith, ◌&&◌, ◌%◌, cond}
use Rattle.std.specs.Int.{w32, to_le_bytes}
use Rattle.std.proofs.lemmas.Bool.{cases_eq, eqb-true}
use Rattle.std.proofs.lemmas.List.{append-nil}
use Rattle.tword.specs.Words.{most_neg, word_below}
use Rattle.tword.specs.Stores.{Store, place, with_word, as_cells}
use Rattle.tword.specs.Claims.{Claims, has_saved, saved_words}
use Rattle.tword.proofs.Passing.{inside_bounds}
use Rattle.tword.specs.Actions.{with_saved_word, is_slot}
use Rattle.tword.proofs.Copying.{with_cells-below, with_cells-above}
use Rattle.tproc.specs.Machine.{Control, workspace_of, priority_of}
use Rattle.tproc.specs.Queues.{appended}
use Rattle.tproc.specs.Placement.{IsWorkspace}
use Rattle.tproc.proofs.WordsApart.{LiesWord, length-with_word}
use Rattle.tplan.specs.declared.plan.Process.{Process}
use Rattle.tseen.proofs.Queued.{seats, seats_joined, seats_same}

-- a control with the processes of an image in its queues
abbrev pub queued : List Process → Control → Control
queued ds m = record m { high = seats 0 ds; low = seats 1 ds }

-- one more process comes behind those of its priority
pub queued_joined : (ds : List Process) (q : Process) (m : Control)
    → appended (workspace_of q.wdesc) (priority_of q.wdesc) (queued ds m) ≡ queued (ds ++ q ∷ []) m
queued_joined ds q m = by (cases_eq (priority_of q.wdesc) 0)
  where
    by : (priority_of q.wdesc ≡ 0) ⊎ (priority_of q.wdesc ≡ 0 → ⊥)
        → appended (workspace_of q.wdesc) (priority_of q.wdesc) (queued ds m) ≡ queued (ds ++ q ∷ []) m
    by (inl e) =
        let n : seats 1 (ds ++ q ∷ []) ≡ seats 1 ds =
        seats_same 1 ds q (λ f. omega (arith, e, f)) ∙ append-nil (seats 1 ds) in
        rw (seats_joined 0 ds q e, n, e) refl
    by (inr e) =
        let f : priority_of q.wdesc ≡ 1 = omega (arith, e) in
        let n : seats 0 (ds ++ q ∷ []) ≡ seats 0 ds = seats_same 0 ds q e ∙ append-nil (seats 0 ds) in
        rw (seats_joined 1 ds q f, n, f) refl

-- a cell lies in none of the two words that the scheduler sets below a workspace
abbrev pub IsBeside : ℕ → ℕ → Type 0
IsBeside i w =
    (k : ℕ) → (k ≡ 1) ⊎ (k ≡ 2) → (i < place (word_below w k)) ⊎ (place (word_below w k) + 4 ≤ i)

-- a word below a workspace that has its saved words lies in the memory
pub lies_below : (size w k : ℕ) → size ≤ 2 ^ 31 → IsWorkspace size w → w < 2 ^ 32 → (1 ≤ k) × (k ≤ 3)
    → LiesWord size (word_below w k)
lies_below size w k room h small b = of (inside_bounds size (saved_words w) h.1)
  where
    of : ((saved_words w).size ≡ 0) ⊎ ((most_neg ≤ word_below w 3) × (word_below w 3 - most_neg + 12 ≤ size))
        → LiesWord size (word_below w k)
    of (inl e) = absurd (omega arith)
    of (inr c) =
        let al : w % 4 ≡ 0 = eqb-true _ _ h.0 in
        record {
          above = omega (arith, c, b, small, al);
          within = omega (arith, c, b, small, al, room);
          aligned = omega (arith, c, b, small, al);
        }

-- the cell stays where a word below the workspace is set
pub cell_stays : (s : Store) (c : Claims) (w k v i : ℕ) → LiesWord (length s) (word_below w k)
    → (i < place (word_below w k)) ⊎ (place (word_below w k) + 4 ≤ i)
    → (length (with_saved_word s c w k v) ≡ length s) × (get_or (with_saved_word s c w k v) i None ≡ get_or s i None)
cell_stays s c w k v i l h = by (is_slot k && has_saved c w) h
  where
    by : (b : Bool) → (i < place (word_below w k)) ⊎ (place (word_below w k) + 4 ≤ i)
        → (length (cond b (with_word s (word_below w k) v) s) ≡ length s)
        × (get_or (cond b (with_word s (word_below w k) v) s) i None ≡ get_or s i None)
    by true (inl a) = (
      length-with_word s (word_below w k) v 0 l,
      with_cells-below s (word_below w k) 4 (as_cells (to_le_bytes w32 v)) l.above l.within refl i a,
    )
    by true (inr a) = (
      length-with_word s (word_below w k) v 0 l,
      with_cells-above s (word_below w k) 4 (as_cells (to_le_bytes w32 v)) l.above l.within refl i a,
    )
    by false a = (refl, refl)
