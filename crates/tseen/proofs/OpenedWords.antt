-- The words of a node before the first step.
use Rattle.std.proofs.Common.{◌≡◌, ◌≢◌, ℕ, zero, suc, ◌+◌, ◌-◌, ◌*◌, ◌<◌, ◌≤◌, ◌^◌, refl, sym, ap, ◌∙◌, subst, List}
use Rattle.std.proofs.Common.{[]}
use Rattle.std.proofs.Common.{◌∷◌, length, get_or, take, drop, Bool, true, false, Some, None, ◌⊎◌, inl, inr, arith}
use Rattle.std.proofs.Common.{All, IfSome, cond, ◌==◌, Contains, length-take, length-drop, get_or-take, get_or-drop}
use Rattle.std.specs.Prelude.{slice_range}
use Rattle.std.specs.List.{list_any}
use Rattle.std.proofs.lemmas.Bool.{cases_lt, both_ways, eq-eqb}
use Rattle.std.proofs.lemmas.List.{ext_get_or}
use Rattle.std.proofs.lemmas.List.Elements.{Contains-get_or}
use Rattle.std.proofs.lemmas.List.Folds.{list_any_at}
use Rattle.tword.specs.Words.{most_neg, word_below}
use Rattle.tword.specs.Stores.{Store, place}
use Rattle.tproc.specs.Machine.{Machine, workspace_of}
use Rattle.tproc.proofs.WordsApart.{LiesWord}
use Rattle.tplan.specs.declared.plan.Process.{Process}
use Rattle.tplan.specs.declared.plan.NodePlan.{NodePlan}
use Rattle.tprocesses.specs.Values.{Free, Saved, unknown}
use Rattle.tprocesses.specs.Touching.{word_number}
use Rattle.tprocesses.specs.Opening.{is_below, opened_cell, opened_word, loaded_byte}
use Rattle.tseen.specs.Known.{KnowsCells}
use Rattle.tseen.proofs.Loaded.{Holds}
use Rattle.tseen.proofs.Built.{IsBeside}
use Rattle.tseen.proofs.Adding.{IsBuilt, is_descheduled, lies}

-- four cells of a store
four_cells : (s : Store) (i : ℕ) → i + 4 ≤ length s
    → slice_range s i (i + 4)
    ≡ get_or s i None ∷ get_or s (i + 1) None ∷ get_or s (i + 2) None ∷ get_or s (i + 3) None ∷ []
four_cells s i h =
    ext_get_or None _ _ many (λ j b. at j (omega (arith, b, many)))
  where
    many : length (take (i + 4 - i) (drop i s)) ≡ 4
    many = rw (length-take, length-drop) (omega (arith, h))

    at : (j : ℕ) → j < 4 → get_or (take (i + 4 - i) (drop i s)) j None
        ≡ get_or (get_or s i None ∷ get_or s (i + 1) None ∷ get_or s (i + 2) None ∷ get_or s (i + 3) None ∷ []) j None
    at j b = get_or-take (i + 4 - i) (drop i s) j None (omega (arith, b)) ∙ get_or-drop i s j None ∙ cell j b
      where
        cell : (j : ℕ) → j < 4 → get_or s (i + j) None
            ≡ get_or (get_or s i None ∷ get_or s (i + 1) None ∷ get_or s (i + 2) None ∷ get_or s (i + 3) None ∷ []) j
            None
        cell zero b = let e : i + 0 ≡ i = omega arith in rw e refl
        cell (suc zero) b = refl
        cell (suc (suc zero)) b = refl
        cell (suc (suc (suc zero))) b = refl
        cell (suc (suc (suc (suc j)))) b = absurd (omega (arith, b))

-- one of two or of three words below a workspace
one_of : (ks : List ℕ) (i w address : ℕ) → i < length ks → word_below w (get_or ks i 0) ≡ address
    → list_any (λ k. word_below w k == address) ks ≡ true
one_of ks i w address inside e = list_any_at (λ k. word_below w k == address) ks i 0 inside (eq-eqb _ address e)

-- cells that lie apart
apart_cells : (k j a : ℕ) → j < 4 → LiesWord (2 ^ 31) a → a ≢ most_neg + 4 * k
    → (4 * k + j < place a) ⊎ (place a + 4 ≤ 4 * k + j)
apart_cells k j a small l other = by (cases_lt (4 * k + j) (place a)) (cases_lt (4 * k + j) (place a + 4))
  where
    by : (4 * k + j < place a) ⊎ (place a ≤ 4 * k + j) → (4 * k + j < place a + 4) ⊎ (place a + 4 ≤ 4 * k + j)
        → (4 * k + j < place a) ⊎ (place a + 4 ≤ 4 * k + j)
    by (inl u) v = inl u
    by (inr u) (inr v) = inr v
    by (inr u) (inl v) = absurd (other (omega (arith, u, v, small, l.above, l.aligned)))

module _ (plan : NodePlan) (start m : Machine) (room : plan.memory ≤ 2 ^ 31)
    (b : IsBuilt start plan.memory plan.image.processes m)
    (h : Holds (loaded_byte plan) plan.memory start.store) where
  -- the word below the workspace of a process of the image
  lies_there : (q : Process) (n : ℕ) → Contains plan.image.processes q → (1 ≤ n) × (n ≤ 3)
      → LiesWord plan.memory (word_below (workspace_of q.wdesc) n)
  lies_there q n c r =
      lies start plan.memory room plan.image.processes m b (workspace_of q.wdesc) n
      (is_descheduled start plan.memory room plan.image.processes m b q c) r

  -- it is found below the workspace
  found : (words : List ℕ) (q : Process) (i address : ℕ) → Contains plan.image.processes q → i < length words
      → word_below (workspace_of q.wdesc) (get_or words i 0) ≡ address → is_below plan words address ≡ true
  found words q i address c inside e =
      list_any_at (λ q. list_any (λ k. word_below (workspace_of q.wdesc) k == address) words) plan.image.processes c.0 q
      c.1
      (subst (λ (x : Process). list_any (λ k. word_below (workspace_of x.wdesc) k == address) words ≡ true) (sym c.2)
      (one_of words i (workspace_of q.wdesc) address inside e))

  -- a word that is not below a workspace lies apart from those that are
  beside : (k j : ℕ) → j < 4 → is_below plan (1 ∷ 2 ∷ []) (most_neg + 4 * k) ≡ false
      → All (λ q. IsBeside (4 * k + j) (workspace_of q.wdesc)) plan.image.processes
  beside k j small free i x inside =
      at (get_or plan.image.processes i x) (Contains-get_or plan.image.processes i x inside)
    where
      wide : (a : ℕ) → LiesWord plan.memory a → LiesWord (2 ^ 31) a
      wide a l = record { above = l.above; within = omega (arith, l.within, room); aligned = l.aligned }

      at : (q : Process) → Contains plan.image.processes q → IsBeside (4 * k + j) (workspace_of q.wdesc)
      at q c n (inl e) =
          rw e (apart_cells k j (word_below (workspace_of q.wdesc) 1) small
          (wide _ (lies_there q 1 c ((omega arith), (omega arith)))) (λ f.
          both_ways _ free (found (1 ∷ 2 ∷ []) q 0 (most_neg + 4 * k) c (omega arith) f)))
      at q c n (inr e) =
          rw e (apart_cells k j (word_below (workspace_of q.wdesc) 2) small
          (wide _ (lies_there q 2 c ((omega arith), (omega arith)))) (λ f.
          both_ways _ free (found (1 ∷ 2 ∷ []) q 1 (most_neg + 4 * k) c (omega arith) f)))

  -- a cell that is known holds what was loaded
  cell : (k j : ℕ) → j < 4 → 4 * k + 4 ≤ plan.memory
      → IfSome (opened_cell plan (most_neg + 4 * k) j) (λ v. get_or m.store (4 * k + j) None ≡ Some v)
  cell k j small inside = by (is_below plan (1 ∷ 2 ∷ []) (most_neg + 4 * k)) refl
    where
      by : (t : Bool) → is_below plan (1 ∷ 2 ∷ []) (most_neg + 4 * k) ≡ t
          → IfSome (cond t None (Some (loaded_byte plan (most_neg + 4 * k + j))))
          (λ v. get_or m.store (4 * k + j) None ≡ Some v)
      by true e = tt
      by false e =
          let f : most_neg + (4 * k + j) ≡ most_neg + 4 * k + j = omega arith in
          b.others (4 * k + j) (omega (arith, small, inside)) (beside k j small e)
          ∙ h.cells (4 * k + j) (omega (arith, small, inside)) ∙ ap (λ a. Some (loaded_byte plan a)) f

  -- the cells of a word
  pub word_known : (k : ℕ) → 4 * k + 4 ≤ plan.memory
      → KnowsCells (opened_word plan (most_neg + 4 * k)).cells (slice_range m.store (4 * k) (4 * k + 4))
  word_known k inside =
      let z : 4 * k + 0 ≡ 4 * k = omega arith in
      subst (KnowsCells (opened_word plan (most_neg + 4 * k)).cells)
      (sym (four_cells m.store (4 * k) (omega (arith, inside, b.ready.size)))) (
        rw z at (cell k 0 (omega arith) inside),
        (
          cell k 1 (omega arith) inside,
          (
            cell k 2 (omega arith) inside,
            (cell k 3 (omega arith) inside, tt),
          ),
        ),
      )

  -- the saved words of a process of the image
  pub saved_there : (q : Process) (n : ℕ) → Contains plan.image.processes q → (n < 3)
      → (opened_word plan (most_neg + 4 * word_number (word_below (workspace_of q.wdesc) (suc n)))).used ≡ Saved
  saved_there q n c small =
      let l : LiesWord plan.memory (word_below (workspace_of q.wdesc) (suc n)) =
      lies_there q (suc n) c ((omega arith), (omega (arith, small))) in
      let f : word_below (workspace_of q.wdesc) (suc n)
      ≡ most_neg + 4 * word_number (word_below (workspace_of q.wdesc) (suc n)) = omega (arith, l.above, l.aligned) in
      ap (λ t. cond t Saved Free)
      (found (1 ∷ 2 ∷ 3 ∷ []) q n (most_neg + 4 * word_number (word_below (workspace_of q.wdesc) (suc n))) c
      (omega (arith, small)) (ap (word_below (workspace_of q.wdesc)) (same n small) ∙ f))
    where
      same : (n : ℕ) → n < 3 → get_or (1 ∷ 2 ∷ 3 ∷ []) n 0 ≡ suc n
      same zero h = refl
      same (suc zero) h = refl
      same (suc (suc zero)) h = refl
      same (suc (suc (suc n))) h = absurd (omega (arith, h))

  -- those of them that are not known
  pub unknown_there : (q : Process) (n : ℕ) → Contains plan.image.processes q → (n < 2)
      → (opened_word plan (most_neg + 4 * word_number (word_below (workspace_of q.wdesc) (suc n)))).cells ≡ unknown
  unknown_there q n c small =
      let l : LiesWord plan.memory (word_below (workspace_of q.wdesc) (suc n)) =
      lies_there q (suc n) c ((omega arith), (omega (arith, small))) in
      let f : word_below (workspace_of q.wdesc) (suc n)
      ≡ most_neg + 4 * word_number (word_below (workspace_of q.wdesc) (suc n)) = omega (arith, l.above, l.aligned) in
      let e : is_below plan (1 ∷ 2 ∷ []) (most_neg + 4 * word_number (word_below (workspace_of q.wdesc) (suc n)))
      ≡ true =
      found (1 ∷ 2 ∷ []) q n (most_neg + 4 * word_number (word_below (workspace_of q.wdesc) (suc n))) c
      (omega (arith, small)) (ap (word_below (workspace_of q.wdesc)) (same n small) ∙ f) in
      rw e refl
    where
      same : (n : ℕ) → n < 2 → get_or (1 ∷ 2 ∷ []) n 0 ≡ suc n
      same zero h = refl
      same (suc zero) h = refl
      same (suc (suc n)) h = absurd (omega (arith, h))
