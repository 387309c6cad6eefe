-- The memory of a node in a state, cell by cell.
use Rattle.std.proofs.Common.{◌≡◌, ℕ, zero, suc, ◌+◌, ◌-◌, ◌*◌, ◌<◌, ◌≤◌, ◌/◌, ◌%◌, refl, sym, ap, subst, ◌∙◌, []}
use Rattle.std.proofs.Common.{◌∷◌, length, get_or, drop, Option, Some, None, arith, IfSome, length-take}
use Rattle.std.proofs.Common.{length-drop, get_or-take, get_or-drop}
use Rattle.std.specs.Prelude.{slice_range}
use Rattle.tword.specs.Stores.{Store}
use Rattle.tprocesses.specs.Places.{WordAt}
use Rattle.tprocesses.specs.Values.{Value, Word, Use, IsWord, word_in}
use Rattle.tseen.specs.Known.{KnowsCells}
use Rattle.tseen.specs.Words.{ShowsWord, ShowsStore}
use Rattle.tseen.proofs.After.{State}

-- a word of a node, its use, and cell i of the node's memory
abbrev pub word_of : State → (n k : ℕ) → Word
word_of s n k = word_in (s (WordAt n k))

abbrev pub use_of : State → (n k : ℕ) → Use
use_of s n k = (word_of s n k).used

abbrev pub cell : State → (n i : ℕ) → Option ℕ
cell s n i = get_or (word_of s n (i / 4)).cells (i % 4) None

-- a cell that is known is there
abbrev pub Knows : Option ℕ → Option ℕ → Type 0
Knows known there = IfSome known (λ b. there ≡ Some b)

-- a value is a word of four cells
pub record IsWhole (v : Value) : Type 0 where
  pub word : Word
  pub is : v ≡ IsWord word
  pub four : length word.cells ≡ 4

-- the memory of a node in a state tells of a store
pub record Tells (s : State) (n size : ℕ) (store : Store) : Type 0 where
  pub length : length store ≡ size
  pub words : (k : ℕ) → 4 * k + 4 ≤ size → IsWhole (s (WordAt n k))
  pub cells : (i : ℕ) → i < size → Knows (cell s n i) (get_or store i None)

pub four_of : (v : Value) → IsWhole v → length (word_in v).cells ≡ 4
four_of v w = ap (λ (x : Value). length (word_in x).cells) w.is ∙ w.four

-- cells that are known are as many
pub knows-length : (known there : Store) → KnowsCells known there → length known ≡ length there
knows-length [] [] h = refl
knows-length [] (c ∷ cs) h = absurd h
knows-length (k ∷ ks) [] h = absurd h
knows-length (k ∷ ks) (c ∷ cs) h = ap suc (knows-length ks cs h.1)

-- each one
pub knows-at : (known there : Store) → KnowsCells known there → (i : ℕ)
    → Knows (get_or known i None) (get_or there i None)
knows-at [] [] h i = tt
knows-at [] (c ∷ cs) h i = absurd h
knows-at (k ∷ ks) [] h i = absurd h
knows-at (k ∷ ks) (c ∷ cs) h zero = h.0
knows-at (k ∷ ks) (c ∷ cs) h (suc i) = knows-at ks cs h.1 i

pub knows-from : (known there : Store) → length known ≡ length there
    → ((i : ℕ) → i < length known → Knows (get_or known i None) (get_or there i None)) → KnowsCells known there
knows-from [] [] e h = tt
knows-from [] (c ∷ cs) e h = absurd (omega (arith, e))
knows-from (k ∷ ks) [] e h = absurd (omega (arith, e))
knows-from (k ∷ ks) (c ∷ cs) e h = (
  h 0 (omega arith),
  knows-from ks cs (omega (arith, e)) (λ i l. h (suc i) (omega arith)),
)

-- some of the cells
pub range-at : (xs : Store) (a n i : ℕ) → i < n → get_or (slice_range xs a (a + n)) i None ≡ get_or xs (a + i) None
range-at xs a n i h =
    let e : a + n - a ≡ n = omega arith in rw e (get_or-take n (drop a xs) i None h ∙ get_or-drop a xs i None)

pub range-length : (xs : Store) (a n : ℕ) → a + n ≤ length xs → length (slice_range xs a (a + n)) ≡ n
range-length xs a n h = let e : a + n - a ≡ n = omega arith in rw (e, length-take, length-drop) (omega arith)

-- what is shown is told cell by cell
module _ (s : State) (n size : ℕ) (store : Store) where
  pub tells_from : length store ≡ size → size % 4 ≡ 0 → ShowsStore s n store size → Tells s n size store
  tells_from e whole shows = record { length = e; words = words; cells = cells }
    where
      words : (k : ℕ) → 4 * k + 4 ≤ size → IsWhole (s (WordAt n k))
      words k h =
          let w : ShowsWord store k (s (WordAt n k)) = shows k h in
          record {
            word = w.word;
            is = w.is;
            four = knows-length w.word.cells (slice_range store (4 * k) (4 * k + 4)) w.cells
                ∙ range-length store (4 * k) 4 (omega (arith, e));
          }

      cells : (i : ℕ) → i < size → Knows (cell s n i) (get_or store i None)
      cells i h =
          let w : ShowsWord store (i / 4) (s (WordAt n (i / 4))) = shows (i / 4) (omega (arith, whole)) in
          let k : Knows (get_or w.word.cells (i % 4) None)
          (get_or (slice_range store (4 * (i / 4)) (4 * (i / 4) + 4)) (i % 4) None) =
          knows-at w.word.cells (slice_range store (4 * (i / 4)) (4 * (i / 4) + 4)) w.cells (i % 4) in
          let at : get_or (slice_range store (4 * (i / 4)) (4 * (i / 4) + 4)) (i % 4) None ≡ get_or store i None =
          range-at store (4 * (i / 4)) 4 (i % 4) (omega arith)
          ∙ ap (λ j. get_or store j None) (omega arith) in
          subst (λ (v : Value). Knows (get_or (word_in v).cells (i % 4) None) (get_or store i None)) (sym w.is)
          (subst (λ (x : Option ℕ). Knows (get_or w.word.cells (i % 4) None) x) at k)

  -- and the other way round
  pub shows_from : Tells s n size store → ShowsStore s n store size
  shows_from t k h =
      record {
        word = w.word;
        is = w.is;
        cells = knows-from w.word.cells (slice_range store (4 * k) (4 * k + 4))
            (w.four ∙ sym (range-length store (4 * k) 4 (omega (arith, t.length)))) each;
      }
    where
      w : IsWhole (s (WordAt n k))
      w = t.words k h

      each : (i : ℕ) → i < length w.word.cells
          → Knows (get_or w.word.cells i None) (get_or (slice_range store (4 * k) (4 * k + 4)) i None)
      each i l =
          let small : i < 4 = omega (arith, w.four) in
          let at : get_or (slice_range store (4 * k) (4 * k + 4)) i None ≡ get_or store (4 * k + i) None =
          range-at store (4 * k) 4 i small in
          let word : (4 * k + i) / 4 ≡ k = omega arith in
          let byte : (4 * k + i) % 4 ≡ i = omega arith in
          let c : cell s n (4 * k + i) ≡ get_or w.word.cells i None =
          ap (λ j. get_or (word_of s n j).cells ((4 * k + i) % 4) None) word
          ∙ ap (λ j. get_or (word_of s n k).cells j None) byte
          ∙ ap (λ (v : Value). get_or (word_in v).cells i None) w.is in
          subst (λ (x : Option ℕ). Knows (get_or w.word.cells i None) x) (sym at)
          (subst (λ (x : Option ℕ). Knows x (get_or store (4 * k + i) None)) c
          (t.cells (4 * k + i) (omega arith)))
