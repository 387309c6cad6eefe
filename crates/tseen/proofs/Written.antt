-- What a write leaves: the cells of its span, and all else as it was.
use Rattle.std.proofs.Common.{◌≡◌, ℕ, zero, suc, ◌+◌, ◌-◌, ◌*◌, ◌<◌, ◌≤◌, ◌/◌, ◌%◌, refl, sym, ap, subst, ◌∙◌}
use Rattle.std.proofs.Common.{length, get_or, take, drop, Bool, false, None, arith}
use Rattle.std.proofs.Common.{◌⊎◌, inl, inr, get_or-take, get_or-drop, length-take, length-drop}
use Rattle.std.specs.Prelude.{◌==◌}
use Rattle.std.proofs.lemmas.Bool.{eq-eqb, ne_eqb, cases_eq, cases_lt}
use Rattle.tword.specs.Stores.{Store}
use Rattle.tprocesses.specs.Places.{Place, WordAt}
use Rattle.tprocesses.specs.Values.{Value, Word, Use, Free, IsWord, word_in}
use Rattle.tprocesses.specs.Changes.{Change, Put, apply}
use Rattle.tprocesses.specs.Touching.{Site, put_words}
use Rattle.tseen.proofs.After.{State, changed, After}
use Rattle.tseen.proofs.Cells.{word_of, use_of, cell, IsWhole}

-- a place is a word of a node
abbrev pub is_word_of : ℕ → Place → Bool
is_word_of n (WordAt m k) = n == m
is_word_of n _ = false

module _ (n k : ℕ) (c : Change) (s : State) where
  -- a change of a word
  pub changed_there : changed (WordAt n k) c s (WordAt n k) ≡ apply c (s (WordAt n k))
  changed_there = rw (eq-eqb n n refl, eq-eqb k k refl) refl

  pub changed_word : (l : ℕ) → (k ≡ l → ⊥) → changed (WordAt n k) c s (WordAt n l) ≡ s (WordAt n l)
  changed_word l h = rw (eq-eqb n n refl, ne_eqb k l h) refl

  pub changed_else : (q : Place) → is_word_of n q ≡ false → changed (WordAt n k) c s q ≡ s q
  changed_else (WordAt m l) h = rw h refl
  changed_else _ h = refl

-- a state that differs in the cells of free words alone
pub record Keeps (n : ℕ) (s t : State) : Type 0 where
  pub uses : (k : ℕ) → use_of t n k ≡ use_of s n k
  pub whole : (k : ℕ) → IsWhole (s (WordAt n k)) → IsWhole (t (WordAt n k))
  pub kept : (k : ℕ) → (use_of s n k ≡ Free → ⊥) → t (WordAt n k) ≡ s (WordAt n k)
  pub others : (q : Place) → is_word_of n q ≡ false → t q ≡ s q

pub keeps_self : (n : ℕ) (s : State) → Keeps n s s
keeps_self n s =
    record { uses = λ k. refl; whole = λ k w. w; kept = λ k h. refl; others = λ q h. refl }

pub keeps_more : (n : ℕ) (s t u : State) → Keeps n s t → Keeps n t u → Keeps n s u
keeps_more n s t u a b =
    record {
      uses = λ k. b.uses k ∙ a.uses k;
      whole = λ k w. b.whole k (a.whole k w);
      kept = λ k h. b.kept k (λ e. h (sym (a.uses k) ∙ e)) ∙ a.kept k h;
      others = λ q h. b.others q h ∙ a.others q h;
    }

-- a word was stored, for this use, with the cells from a place on
pub record IsLaidFor (used : Use) (v : Value) (words : Store) (from : ℕ) : Type 0 where
  pub word : Word
  pub is : v ≡ IsWord word
  pub is_used : word.used ≡ used
  pub four : length word.cells ≡ 4
  pub cells : (j : ℕ) → j < 4 → get_or word.cells j None ≡ get_or words (from + j) None

-- words in a row were stored
pub record AreLaidFor (used : Use) (n first count : ℕ) (words : Store) (s t : State) : Type 0 where
  pub inside : (k : ℕ) → first ≤ k → k < first + count → IsLaidFor used (t (WordAt n k)) words (4 * (k - first))
  pub outside : (k : ℕ) → (k < first) ⊎ (first + count ≤ k) → t (WordAt n k) ≡ s (WordAt n k)
  pub others : (q : Place) → is_word_of n q ≡ false → t q ≡ s q

-- for programs
abbrev pub IsLaid : Value → Store → ℕ → Type 0
IsLaid v words from = IsLaidFor Free v words from

abbrev pub AreLaid : (n first count : ℕ) → Store → State → State → Type 0
AreLaid n first count words s t = AreLaidFor Free n first count words s t

module _ (site : Site) (used : Use) where
  abbrev n : ℕ
  n = site.number

  pub put_words_then : (count first : ℕ) (words : Store) (s : State) (Q : Unit {0} → State → Type 0)
      → length words ≡ 4 * count → ((t : State) → AreLaidFor used n first count words s t → Q tt t)
      → After (put_words site used first count words) s Q
  put_words_then zero first words s Q size h =
      h s (record { inside = λ k a b. absurd (omega arith); outside = λ k b. refl; others = λ q b. refl })
  put_words_then (suc count) first words s Q size h =
      put_words_then count (suc first) (drop 4 words) mid Q (length-drop 4 words ∙ omega (arith, size)) (λ t l.
      h t (more t l))
    where
      new : Value
      new = IsWord (record { cells = take 4 words; used = used })

      mid : State
      mid = changed (WordAt n first) (Put new) s

      more : (t : State) → AreLaidFor used n (suc first) count (drop 4 words) mid t
          → AreLaidFor used n first (suc count) words s t
      more t l =
          record {
            inside = λ k a b. inside k a b (cases_eq first k);
            outside = λ k b. outside k b;
            others = λ q b. l.others q b ∙ changed_else n first (Put new) s q b;
          }
        where
          here : IsLaidFor used (t (WordAt n first)) words (4 * (first - first))
          here =
              let none : 4 * (first - first) ≡ 0 = omega arith in
              record {
                word = record { cells = take 4 words; used = used };
                is = l.outside first (inl (omega arith)) ∙ changed_there n first (Put new) s;
                is_used = refl;
                four = length-take 4 words ∙ omega (arith, size);
                cells = λ j b. get_or-take 4 words j None b ∙ ap (λ i. get_or words i None) (omega arith);
              }

          there : (k : ℕ) → first ≤ k → k < first + suc count → (first ≡ k → ⊥)
              → IsLaidFor used (t (WordAt n k)) words (4 * (k - first))
          there k a b e =
              let d : IsLaidFor used (t (WordAt n k)) (drop 4 words) (4 * (k - suc first)) =
              l.inside k (omega (arith, e)) (omega arith) in
              record {
                word = d.word;
                is = d.is;
                is_used = d.is_used;
                four = d.four;
                cells = λ j c. d.cells j c ∙ get_or-drop 4 words (4 * (k - suc first) + j) None
                    ∙ ap (λ i. get_or words i None) (omega (arith, e));
              }

          inside : (k : ℕ) → first ≤ k → k < first + suc count → (first ≡ k) ⊎ (first ≡ k → ⊥)
              → IsLaidFor used (t (WordAt n k)) words (4 * (k - first))
          inside k a b (inl e) = subst (λ i. IsLaidFor used (t (WordAt n i)) words (4 * (i - first))) e here
          inside k a b (inr e) = there k a b e

          outside : (k : ℕ) → (k < first) ⊎ (first + suc count ≤ k) → t (WordAt n k) ≡ s (WordAt n k)
          outside k (inl b) =
              l.outside k (inl (omega arith)) ∙ changed_word n first (Put new) s k (λ e. omega (arith, e))
          outside k (inr b) =
              l.outside k (inr (omega arith)) ∙ changed_word n first (Put new) s k (λ e. omega (arith, e))

-- the cells of a row were set to others, from a place on
pub record AreSet (n from : ℕ) (new : Store) (s t : State) : Type 0 where
  pub inside : (j : ℕ) → j < length new → cell t n (from + j) ≡ get_or new j None
  pub outside : (i : ℕ) → (i < from) ⊎ (from + length new ≤ i) → cell t n i ≡ cell s n i

-- words that were free and are stored
pub laid_keeps : (n first count : ℕ) (words : Store) (s t : State)
    → ((k : ℕ) → first ≤ k → k < first + count → use_of s n k ≡ Free) → AreLaid n first count words s t → Keeps n s t
laid_keeps n first count words s t free l =
    record {
      uses = λ k. uses k (cases_lt k first) (cases_lt k (first + count));
      whole = λ k w. whole k w (cases_lt k first) (cases_lt k (first + count));
      kept = λ k h. kept k h (cases_lt k first) (cases_lt k (first + count));
      others = l.others;
    }
  where
    uses : (k : ℕ) → (k < first) ⊎ (first ≤ k) → (k < first + count) ⊎ (first + count ≤ k) → use_of t n k ≡ use_of s n k
    uses k (inl a) b = ap (λ (v : Value). (word_in v).used) (l.outside k (inl a))
    uses k (inr a) (inr b) = ap (λ (v : Value). (word_in v).used) (l.outside k (inr b))
    uses k (inr a) (inl b) =
        let d : IsLaid (t (WordAt n k)) words (4 * (k - first)) = l.inside k a b in
        ap (λ (v : Value). (word_in v).used) d.is ∙ d.is_used ∙ sym (free k a b)

    whole : (k : ℕ) → IsWhole (s (WordAt n k)) → (k < first) ⊎ (first ≤ k) → (k < first + count) ⊎ (first + count ≤ k)
        → IsWhole (t (WordAt n k))
    whole k w (inl a) b = subst IsWhole (sym (l.outside k (inl a))) w
    whole k w (inr a) (inr b) = subst IsWhole (sym (l.outside k (inr b))) w
    whole k w (inr a) (inl b) =
        let d : IsLaid (t (WordAt n k)) words (4 * (k - first)) = l.inside k a b in
        record { word = d.word; is = d.is; four = d.four }

    kept : (k : ℕ) → (use_of s n k ≡ Free → ⊥) → (k < first) ⊎ (first ≤ k)
        → (k < first + count) ⊎ (first + count ≤ k) → t (WordAt n k) ≡ s (WordAt n k)
    kept k h (inl a) b = l.outside k (inl a)
    kept k h (inr a) (inr b) = l.outside k (inr b)
    kept k h (inr a) (inl b) = absurd (h (free k a b))

-- a cell of words that are stored, and of the others
pub laid_cell : {used : Use} (n first count : ℕ) (words : Store) (s t : State)
    → AreLaidFor used n first count words s t → (j : ℕ) → j < 4 * count → cell t n (4 * first + j) ≡ get_or words j None
laid_cell {used} n first count words s t l j b =
    let word : (4 * first + j) / 4 ≡ first + j / 4 = omega arith in
    let byte : (4 * first + j) % 4 ≡ j % 4 = omega arith in
    let d : IsLaidFor used (t (WordAt n (first + j / 4))) words (4 * (first + j / 4 - first)) =
    l.inside (first + j / 4) (omega arith) (omega arith) in
    ap (λ k. get_or (word_of t n k).cells ((4 * first + j) % 4) None) word
    ∙ ap (λ i. get_or (word_of t n (first + j / 4)).cells i None) byte
    ∙ ap (λ (v : Value). get_or (word_in v).cells (j % 4) None) d.is
    ∙ d.cells (j % 4) (omega arith) ∙ ap (λ i. get_or words i None) (omega arith)

pub other_cell : {used : Use} (n first count : ℕ) (words : Store) (s t : State)
    → AreLaidFor used n first count words s t → (i : ℕ)
    → (i < 4 * first) ⊎ (4 * first + 4 * count ≤ i) → cell t n i ≡ cell s n i
other_cell {used} n first count words s t l i (inl b) =
    ap (λ (v : Value). get_or (word_in v).cells (i % 4) None) (l.outside (i / 4) (inl (omega arith)))
other_cell {used} n first count words s t l i (inr b) =
    ap (λ (v : Value). get_or (word_in v).cells (i % 4) None) (l.outside (i / 4) (inr (omega arith)))
