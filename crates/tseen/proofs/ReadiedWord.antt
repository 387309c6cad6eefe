-- A store in which the word of the state of an alternative was set, and no other one.
use Rattle.std.proofs.Common.{◌≡◌, ◌≢◌, ℕ, ◌+◌, ◌/◌, ◌%◌, refl, sym, ap, subst, ◌∙◌, Bool, true}
use Rattle.std.proofs.Common.{false, length, get_or, Option, None, ◌⊎◌, inl, inr, arith}
use Rattle.std.proofs.lemmas.Bool.{cases_eq}
use Rattle.tword.specs.Stores.{Store, place, word_at, with_word}
use Rattle.tproc.specs.Channels.{ready}
use Rattle.tproc.proofs.WordsApart.{LiesWord, length-with_word, word_set}
use Rattle.treduction.proofs.Notifying.{told}
use Rattle.tprocesses.specs.Places.{WordAt}
use Rattle.tprocesses.specs.Values.{word_in, unknown}
use Rattle.tprocesses.specs.Touching.{word_number}
use Rattle.tseen.specs.Words.{cells_at}
use Rattle.tseen.proofs.After.{State}
use Rattle.tseen.proofs.Cells.{cell, Knows, Tells}
use Rattle.tseen.proofs.QueueLinks.{nothing_known, word_alike}
use Rattle.tseen.proofs.Yielding.{other_cell_stays}

-- the word at an address says that its alternative is ready, and the others are as before
pub record IsReadied (address : ℕ) (store store' : Store) : Type 0 where
  pub size : length store' ≡ length store
  pub only : (i : ℕ) → i / 4 ≢ word_number address → get_or store' i None ≡ get_or store i None
  pub is : word_at store' address ≡ ready

-- where it was set
pub word_readied : (store : Store) (address : ℕ) → LiesWord (length store) address
    → IsReadied address store (with_word store address ready)
word_readied store address lies =
    record {
      size = length-with_word store address ready 0 lies;
      only = λ i h. other_cell_stays store address ready i lies h;
      is = word_set store address ready lies (omega arith);
    }

-- or where it was ready before
pub told_readied : (store : Store) (address : ℕ) (go : Bool) → LiesWord (length store) address
    → (go ≡ false → word_at store address ≡ ready) → IsReadied address store (told go address store)
told_readied store address true lies h = word_readied store address lies
told_readied store address false lies h = record { size = refl; only = λ i e. refl; is = h refl }

module _ (address : ℕ) (store store' : Store) (k : IsReadied address store store') where
  -- another word stays
  pub other_stays : (a : ℕ) → LiesWord (length store) a → word_number a ≢ word_number address
      → word_at store' a ≡ word_at store a
  other_stays a lies h =
      word_alike store store' a k.size lies (λ j b. k.only (place a + j) (λ e. h (omega (
        arith,
        e,
        b,
        lies.above,
        lies.aligned,
      ))))

  -- what is told of a store, if nothing was known of the word
  pub readied_tells : (s : State) (n size : ℕ) → cells_at s n address ≡ unknown → Tells s n size store
      → Tells s n size store'
  readied_tells s n size none t =
      record {
        length = k.size ∙ t.length;
        words = t.words;
        cells = λ i h. by i (cases_eq (i / 4) (word_number address)) (t.cells i h);
      }
    where
      by : (i : ℕ) → (i / 4 ≡ word_number address) ⊎ (i / 4 ≡ word_number address → ⊥)
          → Knows (cell s n i) (get_or store i None) → Knows (cell s n i) (get_or store' i None)
      by i (inr e) h = subst (λ (x : Option ℕ). Knows (cell s n i) x) (sym (k.only i e)) h
      by i (inl e) h =
          subst (λ (x : Option ℕ). Knows x (get_or store' i None))
          (sym (ap (λ j. get_or (word_in (s (WordAt n j))).cells (i % 4) None) e
          ∙ ap (λ (cs : Store). get_or cs (i % 4) None) none ∙ nothing_known (i % 4))) tt
