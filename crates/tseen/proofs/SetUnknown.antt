-- A word of the store that is set where no byte of it is known.
use Rattle.std.proofs.Common.{refl, ◌≤◌, ◌+◌, ◌*◌, length, ◌≡◌, ℕ, ◌<◌, ◌/◌, ◌%◌, sym, ap, subst, ◌∙◌, get_or, Option}
use Rattle.std.proofs.Common.{None, arith, ◌⊎◌, inl, inr}
use Rattle.std.specs.Int.{w32, to_le_bytes}
use Rattle.std.proofs.lemmas.Bool.{cases_eq, eqb-true}
use Rattle.tword.proofs.Copying.{with_cells-in}
use Rattle.tword.specs.Stores.{as_cells, Store, with_word}
use Rattle.tword.specs.Touches.{Mode}
use Rattle.tproc.proofs.WordsApart.{LiesWord, length-with_word}
use Rattle.tprocesses.specs.Changes.{Change, Put}
use Rattle.tprocesses.specs.Places.{WordAt}
use Rattle.tprocesses.specs.Values.{Value, Use, IsWord, word_in, unknown}
use Rattle.tprocesses.specs.Touching.{Site, word_number}
use Rattle.tseen.proofs.Stored.{knows_same}
use Rattle.tseen.proofs.Written.{changed_there, changed_word}
use Rattle.tseen.proofs.Cells.{IsWhole, word_of, cell, Knows, Tells}
use Rattle.tseen.proofs.After.{changed, State}
use Rattle.tseen.proofs.Spans.{word_placed}
use Rattle.tseen.proofs.Writing.{IsWordTouched}
use Rattle.tseen.proofs.Softened.{none_at}
use Rattle.tseen.proofs.Yielding.{other_cell_stays}

-- what is told of the store stays so
pub set_unknown : (s : State) (n size : ℕ) (store : Store) (a v : ℕ) → Tells s n size store → LiesWord size a
    → (word_of s n (word_number a)).cells ≡ unknown → Tells s n size (with_word store a v)
set_unknown s n size store a v tells lies none =
    record {
      length = length-with_word store a v 0 there ∙ tells.length;
      words = tells.words;
      cells = λ i h. by i h (cases_eq (i / 4) (word_number a));
    }
  where
    there : LiesWord (length store) a
    there = subst (λ z. LiesWord z a) (sym tells.length) lies

    by : (i : ℕ) → i < size → (i / 4 ≡ word_number a) ⊎ (i / 4 ≡ word_number a → ⊥)
        → Knows (cell s n i) (get_or (with_word store a v) i None)
    by i h (inl e) =
        subst (λ (z : Store). Knows (get_or z (i % 4) None) (get_or (with_word store a v) i None))
        (sym (ap (λ b. (word_of s n b).cells) e ∙ none))
        (subst (λ (o : Option ℕ). Knows o (get_or (with_word store a v) i None)) (sym (none_at (i % 4))) tt)
    by i h (inr e) =
        subst (λ (o : Option ℕ). Knows (cell s n i) o) (sym (other_cell_stays store a v i there e)) (tells.cells i h)

-- where a word lies that was touched
pub touched_lies : (site : Site) (whole : site.size % 4 ≡ 0) (s : State) (mode : Mode) (a : ℕ)
    → IsWordTouched site whole s mode a → LiesWord site.size a
touched_lies site whole s mode a t =
    record {
      above = t.above;
      within = omega (arith, t.at, t.within);
      aligned = eqb-true _ _ (word_placed site.size a t.placed).0;
    }

-- a memory with the same words is told alike
pub tells_alike : (s t : State) (n size : ℕ) (store : Store) → ((i : ℕ) → t (WordAt n i) ≡ s (WordAt n i))
    → Tells s n size store → Tells t n size store
tells_alike s t n size store same tells =
    record {
      length = tells.length;
      words = λ i h. subst IsWhole (sym (same i)) (tells.words i h);
      cells = λ i h.
          subst (λ (v : Value). Knows (get_or (word_in v).cells (i % 4) None) (get_or store i None))
          (sym (same (i / 4))) (tells.cells i h);
    }

-- a word is set on both sides, whatever it was in use for
pub word_put : (s : State) (n size : ℕ) (store : Store) (a v : ℕ) (used : Use) → Tells s n size store → LiesWord size a
    → Tells (changed (WordAt n (word_number a)) (Put (IsWord (record {
      cells = as_cells (to_le_bytes w32 v);
      used = used;
    }))) s) n size (with_word store a v)
word_put s n size store a v used tells lies =
    record {
      length = length-with_word store a v 0 there ∙ tells.length;
      words = λ i h. word i h (cases_eq (word_number a) i);
      cells = λ i h. cell_is i h (cases_eq (word_number a) (i / 4));
    }
  where
    there : LiesWord (length store) a
    there = subst (λ z. LiesWord z a) (sym tells.length) lies

    c : Change
    c = Put (IsWord (record { cells = as_cells (to_le_bytes w32 v); used = used }))

    t : State
    t = changed (WordAt n (word_number a)) c s

    here : IsWhole (t (WordAt n (word_number a)))
    here =
        record {
          word = record { cells = as_cells (to_le_bytes w32 v); used = used };
          is = changed_there n (word_number a) c s;
          four = refl;
        }

    word : (i : ℕ) → 4 * i + 4 ≤ size → (word_number a ≡ i) ⊎ (word_number a ≡ i → ⊥) → IsWhole (t (WordAt n i))
    word i h (inl e) = subst (λ j. IsWhole (t (WordAt n j))) e here
    word i h (inr e) = subst IsWhole (sym (changed_word n (word_number a) c s i e)) (tells.words i h)

    cell_is : (i : ℕ) → i < size → (word_number a ≡ i / 4) ⊎ (word_number a ≡ i / 4 → ⊥)
        → Knows (cell t n i) (get_or (with_word store a v) i None)
    cell_is i h (inl e) =
        let at : cell t n i ≡ get_or (as_cells (to_le_bytes w32 v)) (i % 4) None =
        ap (λ j. get_or (word_of t n j).cells (i % 4) None) (sym e)
        ∙ ap (λ (z : Value). get_or (word_in z).cells (i % 4) None) (changed_there n (word_number a) c s) in
        let set : get_or (with_word store a v) i None ≡ get_or (as_cells (to_le_bytes w32 v)) (i % 4) None =
        with_cells-in store a 4 (as_cells (to_le_bytes w32 v)) there.above there.within refl i
        (omega (arith, e, lies.above, lies.aligned)) (omega (arith, e, lies.above, lies.aligned))
        ∙ ap (λ j. get_or (as_cells (to_le_bytes w32 v)) j None) (omega (arith, e, lies.above, lies.aligned)) in
        subst (λ (o : Option ℕ). Knows o (get_or (with_word store a v) i None)) (sym at)
        (subst (λ (o : Option ℕ). Knows (get_or (as_cells (to_le_bytes w32 v)) (i % 4) None) o) (sym set)
        (knows_same (get_or (as_cells (to_le_bytes w32 v)) (i % 4) None)))
    cell_is i h (inr e) =
        subst (λ (z : Value). Knows (get_or (word_in z).cells (i % 4) None) (get_or (with_word store a v) i None))
        (sym (changed_word n (word_number a) c s (i / 4) e))
        (subst (λ (o : Option ℕ). Knows (cell s n i) o) (sym (other_cell_stays store a v i there (λ f. e (sym f))))
        (tells.cells i h))
