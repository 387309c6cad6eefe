-- Words of which less is known than before, and that are used as before.
use Rattle.std.proofs.Common.{◌≡◌, ℕ, zero, suc, ◌/◌, ◌%◌, refl, sym, ap, subst, ◌∙◌}
use Rattle.std.proofs.Common.{◌⊎◌, inl, inr, get_or, length, Option, None}
use Rattle.std.proofs.lemmas.Bool.{eq-eqb, cases_eq}
use Rattle.tword.specs.Stores.{Store}
use Rattle.tprocesses.specs.Places.{Name, WordAt}
use Rattle.tprocesses.specs.Values.{Value, Free, Saved, Stand, IsWord, word_in, unknown}
use Rattle.tprocesses.specs.Touching.{Site, kept}
use Rattle.tseen.proofs.After.{State}
use Rattle.tseen.proofs.Cells.{word_of, use_of, Knows, IsWhole, Tells, four_of}
use Rattle.tseen.proofs.Written.{is_word_of}
use Rattle.tseen.proofs.Stored.{GoesOn}
use Rattle.tseen.proofs.Finished.{StandsNow}
use Rattle.tseen.proofs.Nets.{chosen}
use Rattle.tseen.proofs.Saving.{below, other_number, IsSaved, IsUnsaved}

-- a value of which less is known, which stays where it is no free word
pub record IsSoftened (old new : Value) : Type 0 where
  pub used : (word_in new).used ≡ (word_in old).used
  pub whole : IsWhole old → IsWhole new
  pub cells : (j : ℕ) (x : Option ℕ) → Knows (get_or (word_in old).cells j None) x
      → Knows (get_or (word_in new).cells j None) x
  pub stays : ((word_in old).used ≡ Free → ⊥) → new ≡ old

pub softened_self : (old new : Value) → new ≡ old → IsSoftened old new
softened_self old new e =
    record {
      used = ap (λ (v : Value). (word_in v).used) e;
      whole = λ w. subst IsWhole (sym e) w;
      cells = λ j x k. subst (λ (v : Value). Knows (get_or (word_in v).cells j None) x) (sym e) k;
      stays = λ h. e;
    }

-- the same cells
pub softened_same : (old new : Value) (cells : Store) → new ≡ IsWord (record { cells = cells; used = Free })
    → cells ≡ (word_in old).cells → (word_in old).used ≡ Free → IsSoftened old new
softened_same old new cs e same free =
    record {
      used = ap (λ (v : Value). (word_in v).used) e ∙ sym free;
      whole = λ w.
          record { word = record { cells = cs; used = Free }; is = e; four = ap length same ∙ four_of old w };
      cells = λ j x k. subst (λ (v : Value). Knows (get_or (word_in v).cells j None) x) (sym e)
          (subst (λ (z : Store). Knows (get_or z j None) x) (sym same) k);
      stays = λ h. absurd (h free);
    }

pub none_at : (j : ℕ) → get_or unknown j None ≡ None
none_at zero = refl
none_at (suc zero) = refl
none_at (suc (suc zero)) = refl
none_at (suc (suc (suc zero))) = refl
none_at (suc (suc (suc (suc j)))) = refl

-- cells that are not known
pub softened_unknown : (old new : Value) (cells : Store) → new ≡ IsWord (record { cells = cells; used = Free })
    → cells ≡ unknown → (word_in old).used ≡ Free → IsSoftened old new
softened_unknown old new cs e none free =
    record {
      used = ap (λ (v : Value). (word_in v).used) e ∙ sym free;
      whole = λ w. record { word = record { cells = cs; used = Free }; is = e; four = ap length none };
      cells = λ j x k. subst (λ (v : Value). Knows (get_or (word_in v).cells j None) x) (sym e)
          (subst (λ (z : Store). Knows (get_or z j None) x) (sym none)
          (subst (λ (o : Option ℕ). Knows o x) (sym (none_at j)) tt));
      stays = λ h. absurd (h free);
    }

-- a state with the words of another
abbrev pub with_words : ℕ → State → State → State
with_words n words others q = chosen (is_word_of n q) (words q) (others q)

-- words of a memory of which less is known tell of it still
pub softened_goes : (n size : ℕ) (t v : State) (store : Store) → Tells t n size store
    → ((k : ℕ) → IsSoftened (t (WordAt n k)) (v (WordAt n k))) → GoesOn n size t (with_words n v t) store store
softened_goes n size t v store tells soft =
    record {
      tells = record {
        length = tells.length;
        words = λ k h. (soft_at k).whole (tells.words k h);
        cells = λ i h. (soft_at (i / 4)).cells (i % 4) (get_or store i None) (tells.cells i h);
      };
      keeps = record {
        uses = λ k. (soft_at k).used;
        whole = λ k w. (soft_at k).whole w;
        kept = λ k h. (soft_at k).stays h;
        others = λ q h. rw h refl;
      };
      only = λ i h. refl;
    }
  where
    soft_at : (k : ℕ) → IsSoftened (t (WordAt n k)) (with_words n v t (WordAt n k))
    soft_at k = rw (eq-eqb n n refl) (soft k)

-- words below a workspace that were saved and freed again
module _ (site : Site) (whole : site.size % 4 ≡ 0) (w : ℕ) (x : Name) (stand : Stand) (t u v s' v' : State)
    (words : (k : ℕ) → u (WordAt site.number k) ≡ t (WordAt site.number k))
    (saved : IsSaved site whole u v w kept) (rests : StandsNow site x stand v s')
    (freed : IsUnsaved site whole s' v' w) where
  abbrev n : ℕ
  n = site.number

  -- the cells of a word as it was saved
  saved_cells : (k : ℕ) (cells : Store) → v (WordAt n k) ≡ IsWord (record { cells = cells; used = Saved })
      → (word_of s' n k).cells ≡ cells
  saved_cells k cells e = ap (λ (z : Value). (word_in z).cells) (rests.others (WordAt n k) refl ∙ e)

  free_before : (k : ℕ) → use_of u n k ≡ Free → use_of t n k ≡ Free
  free_before k e = ap (λ (z : Value). (word_in z).used) (sym (words k)) ∙ e

  pub softened : (k : ℕ) → IsSoftened (t (WordAt n k)) (v' (WordAt n k))
  softened k = by (cases_eq k (below w 1)) (cases_eq k (below w 2)) (cases_eq k (below w 3))
    where
      one : IsSoftened (t (WordAt n (below w 1))) (v' (WordAt n (below w 1)))
      one =
          softened_unknown _ _ (word_of s' n (below w 1)).cells freed.set.one
          (saved_cells (below w 1) unknown saved.set.one)
          (free_before (below w 1) saved.touched_one.touched.free)

      two : IsSoftened (t (WordAt n (below w 2))) (v' (WordAt n (below w 2)))
      two =
          softened_unknown _ _ (word_of s' n (below w 2)).cells freed.set.two
          (saved_cells (below w 2) unknown saved.set.two)
          (free_before (below w 2) saved.touched_two.touched.free)

      three : IsSoftened (t (WordAt n (below w 3))) (v' (WordAt n (below w 3)))
      three =
          softened_same _ _ (word_of s' n (below w 3)).cells freed.set.three
          (saved_cells (below w 3) (word_of u n (below w 3)).cells saved.set.three
          ∙ ap (λ (z : Value). (word_in z).cells) (words (below w 3)))
          (free_before (below w 3) saved.touched_three.touched.free)

      by : (k ≡ below w 1) ⊎ (k ≡ below w 1 → ⊥) → (k ≡ below w 2) ⊎ (k ≡ below w 2 → ⊥)
          → (k ≡ below w 3) ⊎ (k ≡ below w 3 → ⊥) → IsSoftened (t (WordAt n k)) (v' (WordAt n k))
      by (inl e) b c = subst (λ j. IsSoftened (t (WordAt n j)) (v' (WordAt n j))) (sym e) one
      by (inr a) (inl e) c = subst (λ j. IsSoftened (t (WordAt n j)) (v' (WordAt n j))) (sym e) two
      by (inr a) (inr b) (inl e) = subst (λ j. IsSoftened (t (WordAt n j)) (v' (WordAt n j))) (sym e) three
      by (inr a) (inr b) (inr c) =
          softened_self _ _
          (freed.set.rest (WordAt n k) (other_number n w k a b c) ∙ rests.others (WordAt n k) refl
          ∙ saved.set.rest (WordAt n k) (other_number n w k a b c) ∙ words k)
