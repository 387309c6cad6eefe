-- The store after the last of a queue was linked to one more: only saved words changed, and what changed was unknown.
use Rattle.std.proofs.Common.{◌≡◌, ℕ, zero, suc, ◌+◌, ◌<◌, ◌≤◌, ◌/◌, ◌%◌, refl, sym, ap, subst, ◌∙◌, length}
use Rattle.std.proofs.Common.{get_or, Option, Some, None, ◌⊎◌, inl, inr, arith}
use Rattle.std.specs.Prelude.{slice_range}
use Rattle.std.specs.Int.{w32, from_le_bytes}
use Rattle.std.proofs.lemmas.Bool.{cases_lt}
use Rattle.std.proofs.lemmas.List.{ext_get_or}
use Rattle.tword.specs.Words.{word_below}
use Rattle.tword.specs.Stores.{Store, place, word_at, shown}
use Rattle.tword.specs.Claims.{Claims}
use Rattle.tproc.proofs.WordsApart.{LiesWord}
use Rattle.treduction.proofs.LinkActions.{linked}
use Rattle.tprocesses.specs.Values.{Saved, unknown}
use Rattle.tprocesses.specs.Touching.{word_number}
use Rattle.tseen.specs.Words.{AreSavedWords}
use Rattle.tseen.proofs.After.{State}
use Rattle.tseen.proofs.Built.{cell_stays}
use Rattle.tseen.proofs.Cells.{word_of, use_of, cell, Knows, Tells, range-at, range-length}
use Rattle.tseen.proofs.Staying.{used_two, unknown_two}

-- saved words alone changed, where they are not known
pub record IsLinked (s : State) (n : ℕ) (store store' : Store) : Type 0 where
  pub size : length store' ≡ length store
  pub only : (i : ℕ) → (use_of s n (i / 4) ≡ Saved → ⊥) → get_or store' i None ≡ get_or store i None
  pub known : (i : ℕ) → (cell s n i ≡ None) ⊎ (get_or store' i None ≡ get_or store i None)

pub nothing_known : (j : ℕ) → get_or unknown j None ≡ None
nothing_known zero = refl
nothing_known (suc zero) = refl
nothing_known (suc (suc zero)) = refl
nothing_known (suc (suc (suc zero))) = refl
nothing_known (suc (suc (suc (suc j)))) = refl

module _ (s : State) (n : ℕ) (store : Store) (c : Claims) (w : ℕ) where
  linked_to : (v : ℕ) → AreSavedWords s n v → LiesWord (length store) (word_below v 2)
      → IsLinked s n store (linked (Some v) c w store)
  linked_to v saved l =
      record {
        size = (cell_stays store c v 2 w (place (word_below v 2) + 4) l (inr (omega arith))).0;
        only = λ i h. only i h (cases_lt i (place (word_below v 2))) (cases_lt i (place (word_below v 2) + 4));
        known = λ i. known i (cases_lt i (place (word_below v 2))) (cases_lt i (place (word_below v 2) + 4));
      }
    where
      there : (i : ℕ) → place (word_below v 2) ≤ i → i < place (word_below v 2) + 4
          → i / 4 ≡ word_number (word_below v 2)
      there i a b = omega (arith, a, b, l.above, l.aligned)

      only : (i : ℕ) → (use_of s n (i / 4) ≡ Saved → ⊥) → (i < place (word_below v 2)) ⊎ (place (word_below v 2) ≤ i)
          → (i < place (word_below v 2) + 4) ⊎ (place (word_below v 2) + 4 ≤ i)
          → get_or (linked (Some v) c w store) i None ≡ get_or store i None
      only i h (inl a) b = (cell_stays store c v 2 w i l (inl a)).1
      only i h (inr a) (inr b) = (cell_stays store c v 2 w i l (inr b)).1
      only i h (inr a) (inl b) = absurd (h (ap (use_of s n) (there i a b) ∙ used_two s n v saved))

      known : (i : ℕ) → (i < place (word_below v 2)) ⊎ (place (word_below v 2) ≤ i)
          → (i < place (word_below v 2) + 4) ⊎ (place (word_below v 2) + 4 ≤ i)
          → (cell s n i ≡ None) ⊎ (get_or (linked (Some v) c w store) i None ≡ get_or store i None)
      known i (inl a) b = inr (cell_stays store c v 2 w i l (inl a)).1
      known i (inr a) (inr b) = inr (cell_stays store c v 2 w i l (inr b)).1
      known i (inr a) (inl b) =
          inl (ap (λ j. get_or (word_of s n j).cells (i % 4) None) (there i a b)
          ∙ ap (λ (cs : Store). get_or cs (i % 4) None) (unknown_two s n v saved) ∙ nothing_known (i % 4))

  pub linked_then : (last : Option ℕ)
      → ((v : ℕ) → last ≡ Some v → AreSavedWords s n v × LiesWord (length store) (word_below v 2))
      → IsLinked s n store (linked last c w store)
  linked_then None there = record { size = refl; only = λ i h. refl; known = λ i. inr refl }
  linked_then (Some v) there = linked_to v (there v refl).0 (there v refl).1

-- so it is still told of
pub linked_tells : (s : State) (n size : ℕ) (store store' : Store) → IsLinked s n store store' → Tells s n size store
    → Tells s n size store'
linked_tells s n size store store' k t =
    record { length = k.size ∙ t.length; words = t.words; cells = λ i h. by i (k.known i) (t.cells i h) }
  where
    by : (i : ℕ) → (cell s n i ≡ None) ⊎ (get_or store' i None ≡ get_or store i None)
        → Knows (cell s n i) (get_or store i None) → Knows (cell s n i) (get_or store' i None)
    by i (inl e) h = subst (λ (x : Option ℕ). Knows x (get_or store' i None)) (sym e) tt
    by i (inr e) h = subst (λ (x : Option ℕ). Knows (cell s n i) x) (sym e) h

-- a word whose cells stand stands
pub word_alike : (store store' : Store) (a : ℕ) → length store' ≡ length store → LiesWord (length store) a
    → ((j : ℕ) → j < 4 → get_or store' (place a + j) None ≡ get_or store (place a + j) None)
    → word_at store' a ≡ word_at store a
word_alike store store' a size l each =
    ap (λ (xs : Store). from_le_bytes w32 (shown xs))
    (ext_get_or None (slice_range store' (place a) (place a + 4)) (slice_range store (place a) (place a + 4))
    (long' ∙ sym long) (λ i h.
    let small : i < 4 = omega (arith, long', h) in
    range-at store' (place a) 4 i small ∙ each i small ∙ sym (range-at store (place a) 4 i small)))
  where
    long : length (slice_range store (place a) (place a + 4)) ≡ 4
    long = range-length store (place a) 4 l.within

    long' : length (slice_range store' (place a) (place a + 4)) ≡ 4
    long' = range-length store' (place a) 4 (omega (arith, size, l.within))
