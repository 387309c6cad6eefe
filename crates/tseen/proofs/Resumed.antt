-- The words of a workspace whose process goes on, and those of the others.
use Rattle.std.proofs.Common.{◌≡◌, ◌≢◌, ℕ, zero, suc, ◌+◌, ◌-◌, ◌*◌, ◌<◌, ◌≤◌, ◌/◌, ◌%◌, ◌^◌, sym, ap, subst, ◌∙◌, List}
use Rattle.std.proofs.Common.{◌∷◌, false, get_or, Contains, AllPairs, None, arith, ◌⊎◌, inl, inr}
use Rattle.std.proofs.lemmas.Bool.{both_ways, cases_eq}
use Rattle.tword.specs.Words.{most_neg, word_below}
use Rattle.tword.specs.Stores.{Store}
use Rattle.tword.specs.Claims.{overlap, saved_words}
use Rattle.tword.proofs.Hiding.{overlap-from}
use Rattle.tword.proofs.Passing.{inside_bounds}
use Rattle.tproc.specs.Placement.{IsWorkspace}
use Rattle.tproc.proofs.WordsApart.{LiesWord}
use Rattle.tprocesses.specs.Places.{WordAt}
use Rattle.tprocesses.specs.Values.{Value, Free, Saved, word_in}
use Rattle.tprocesses.specs.Touching.{Site}
use Rattle.tseen.proofs.After.{State}
use Rattle.tseen.proofs.Cells.{word_of, use_of, Knows, IsWhole, Tells, four_of}
use Rattle.tseen.proofs.Built.{lies_below}
use Rattle.tseen.proofs.Saving.{below, other_number, IsUnsaved}

-- two that are first and later in a list that has each once
pub first_other : (R : ℕ → ℕ → Type 0) (w : ℕ) (ds : List ℕ) → AllPairs R (w ∷ ds) → (v : ℕ) → Contains ds v → R w v
first_other R w ds h v c = subst (R w) c.2 (h zero (suc c.0) v (omega arith) (omega (arith, c.1)))

-- the words below a workspace, by the lowest one
module _ (size w : ℕ) (room : size ≤ 2 ^ 31) (space : IsWorkspace size w) (small : w < 2 ^ 32) where
  pub lies : (j : ℕ) → 1 ≤ j → j ≤ 3 → LiesWord size (word_below w j)
  lies j a b = lies_below size w j room space small (a, b)

  pub from_lowest : (j : ℕ) → 1 ≤ j → j ≤ 3 → word_below w j ≡ word_below w 3 + 4 * (3 - j)
  from_lowest j a b = of (inside_bounds size (saved_words w) space.1)
    where
      of : ((saved_words w).size ≡ 0) ⊎ ((most_neg ≤ word_below w 3) × (word_below w 3 - most_neg + 12 ≤ size))
          → word_below w j ≡ word_below w 3 + 4 * (3 - j)
      of (inl z) = absurd (omega arith)
      of (inr h) = omega (arith, a, b, small, h.0, h.1, room)

  -- so they are three
  pub numbers_apart : (i j : ℕ) → 1 ≤ i → i < j → j ≤ 3 → below w j ≢ below w i
  numbers_apart i j a b c e =
      let l : LiesWord size (word_below w i) = lies i a (omega arith) in
      let k : LiesWord size (word_below w j) = lies j (omega arith) c in
      omega (
        arith,
        a,
        b,
        c,
        e,
        l.above,
        k.above,
        l.aligned,
        k.aligned,
        from_lowest i a (omega arith),
        from_lowest j (omega arith) c,
      )

-- words below workspaces that share none
pub other_words : (size w v i j : ℕ) → size ≤ 2 ^ 31 → IsWorkspace size w → w < 2 ^ 32 → IsWorkspace size v → v < 2 ^ 32
    → overlap (saved_words w) (saved_words v) ≡ false → 1 ≤ i → i ≤ 3 → 1 ≤ j → j ≤ 3 → below v i ≢ below w j
other_words size w v i j room space small space' small' apart a b c d e =
    both_ways _ apart
    (overlap-from (saved_words w) (saved_words v) (omega arith) (omega arith)
    (omega (
      arith,
      same,
      from_lowest size w room space small j c d,
      from_lowest size v room space' small' i a b,
      a,
      b,
      c,
      d,
    ))
    (omega (
      arith,
      same,
      from_lowest size w room space small j c d,
      from_lowest size v room space' small' i a b,
      a,
      b,
      c,
      d,
    )))
  where
    same : word_below v i ≡ word_below w j
    same =
        let l : LiesWord size (word_below w j) = lies size w room space small j c d in
        let k : LiesWord size (word_below v i) = lies size v room space' small' i a b in
        omega (arith, e, l.above, k.above, l.aligned, k.aligned)

module _ (site : Site) (whole : site.size % 4 ≡ 0) (w : ℕ) (s v : State) (freed : IsUnsaved site whole s v w)
    (one : use_of s site.number (below w 1) ≡ Saved) (two : use_of s site.number (below w 2) ≡ Saved) where
  abbrev n : ℕ
  n = site.number

  -- a word is one of the three, or as it was
  pub by_freed : (P : ℕ → Type 0) → P (below w 1) → P (below w 2) → P (below w 3)
      → ((j : ℕ) → j ≢ below w 1 → j ≢ below w 2 → j ≢ below w 3 → v (WordAt n j) ≡ s (WordAt n j) → P j)
      → (j : ℕ) → P j
  by_freed P first second third other j =
      by (cases_eq j (below w 1)) (cases_eq j (below w 2)) (cases_eq j (below w 3))
    where
      by : (j ≡ below w 1) ⊎ (j ≡ below w 1 → ⊥) → (j ≡ below w 2) ⊎ (j ≡ below w 2 → ⊥)
          → (j ≡ below w 3) ⊎ (j ≡ below w 3 → ⊥) → P j
      by (inl e) b c = subst P (sym e) first
      by (inr a) (inl e) c = subst P (sym e) second
      by (inr a) (inr b) (inl e) = subst P (sym e) third
      by (inr a) (inr b) (inr c) =
          other j a b c (freed.set.rest (WordAt n j) (other_number n w j a b c))

  -- its cells are what they were
  pub cells_then : (j : ℕ) → (word_of v n j).cells ≡ (word_of s n j).cells
  cells_then =
      by_freed (λ j. (word_of v n j).cells ≡ (word_of s n j).cells)
      (ap (λ (z : Value). (word_in z).cells) freed.set.one) (ap (λ (z : Value). (word_in z).cells) freed.set.two)
      (ap (λ (z : Value). (word_in z).cells) freed.set.three)
      (λ j a b c e. ap (λ (z : Value). (word_in z).cells) e)

  pub whole_then : (j : ℕ) → IsWhole (s (WordAt n j)) → IsWhole (v (WordAt n j))
  whole_then =
      by_freed (λ j. IsWhole (s (WordAt n j)) → IsWhole (v (WordAt n j)))
      (λ h. record {
        word = record { cells = (word_of s n (below w 1)).cells; used = Free };
        is = freed.set.one;
        four
            = four_of (s (WordAt n (below w 1))) h;
      })
      (λ h. record {
        word = record { cells = (word_of s n (below w 2)).cells; used = Free };
        is = freed.set.two;
        four
            = four_of (s (WordAt n (below w 2))) h;
      })
      (λ h. record {
        word = record { cells = (word_of s n (below w 3)).cells; used = Free };
        is = freed.set.three;
        four
            = four_of (s (WordAt n (below w 3))) h;
      })
      (λ j a b c e h. subst IsWhole (sym e) h)

  -- so the memory is told as before
  pub tells_then : (s' : State) (size : ℕ) (store : Store) → ((j : ℕ) → s' (WordAt n j) ≡ v (WordAt n j))
      → Tells s n size store → Tells s' n size store
  tells_then s' size store same t =
      record {
        length = t.length;
        words = λ j h. subst IsWhole (sym (same j)) (whole_then j (t.words j h));
        cells = λ i h.
            subst (λ (z : Store). Knows (get_or z (i % 4) None) (get_or store i None))
            (sym (ap (λ (z : Value). (word_in z).cells) (same (i / 4)) ∙ cells_then (i / 4))) (t.cells i h);
      }
