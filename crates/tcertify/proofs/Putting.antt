-- Words in a row that are put, and words whose counts of pending outputs change, as the words stand in the end.
use Rattle.std.proofs.Common.{◌≡◌, ℕ, zero, suc, ◌+◌, ◌<◌, ◌≤◌, refl, sym, ap, ◌∙◌, arith}
use Rattle.std.proofs.Common.{◌⊎◌, inl, inr, List, ◌++◌, drop, set}
use Rattle.std.proofs.Common.{pos, Bool, true, false, Option, Some, None, Ok}
use Rattle.std.specs.Prelude.{All, ◌==◌, slice_get, if◌then◌else◌}
use Rattle.std.proofs.lemmas.Bool.{cases_eq}
use Rattle.std.proofs.lemmas.List.Elements.{All-cons, All-nil}
use Rattle.tagents.specs.WalkAccesses.{Changes}
use Rattle.tword.specs.Stores.{Store}
use Rattle.tprocesses.specs.Places.{Place, WordAt, Sending, Standing, Ports, Half, LinkHalf, Error, HaltOnError}
use Rattle.tprocesses.specs.Places.{Unfinished, Life, Successions, Messages, Kept, Population, HasRun, FlagChanged}
use Rattle.tprocesses.specs.Values.{Use, Value, Word, IsWord, IsAmount}
use Rattle.tprocesses.specs.Changes.{Put, Puts}
use Rattle.tprocesses.specs.Touching.{Site, put_words}
use Rattle.tcertify.specs.declared.stored.StoredWord.{StoredWord}
use Rattle.tcertify.specs.Cells.{cells_of}
use Rattle.tcertify.specs.Running.{State, changed, run_part}
use Rattle.tcertify.specs.Spans.{cells_from, cells_or, sent_or, word_or_none}
use Rattle.tcertify.specs.Walked.{Accessed, accesses}
use Rattle.tcertify.specs.Words.{sending_or, use_of, with_words, word_of, word_or}
use Rattle.tcertify.proofs.Places.{set_elsewhere, set_here, state_set}

-- a number is below another one, or not
pub below_or : (j k : ℕ) → (j < k) ⊎ (k ≤ j)
below_or zero zero = inr (omega arith)
below_or zero (suc k) = inl (omega arith)
below_or (suc j) zero = inr (omega arith)
below_or (suc j) (suc k) = by (below_or j k)
  where
    by : (j < k) ⊎ (k ≤ j) → (suc j < suc k) ⊎ (suc k ≤ suc j)
    by (inl h) = inl (omega arith)
    by (inr h) = inr (omega arith)

-- words that are alike stand alike
alike_word : (o p : Option StoredWord) (v : Value) → word_or_none o ≡ word_or_none p → word_or o v ≡ word_or p v
alike_word None None v e = refl
alike_word None (Some y) v e = cc
alike_word (Some x) None v e = cc
alike_word (Some x) (Some y) v e =
    let same : word_of x ≡ word_of y = cc in ap (λ (w : Word). IsWord w) same

alike_sent : (o p : Option StoredWord) (v : Value) → sent_or o ≡ sent_or p → sending_or o v ≡ sending_or p v
alike_sent None None v e = refl
alike_sent None (Some y) v e = cc
alike_sent (Some x) None v e = cc
alike_sent (Some x) (Some y) v e =
    let same : x.sending ≡ y.sending = cc in
    ap (λ (n : ℕ). IsAmount (pos n)) same

module _ (n : ℕ) (vs ws : List StoredWord) (rest : State) where
  in_node : (b : Bool) (x y z : Value) → x ≡ y → (if b then x else z) ≡ (if b then y else z)
  in_node true x y z e = e
  in_node false x y z e = refl

  module _ (words : (k : ℕ) → word_or_none (slice_get vs k) ≡ word_or_none (slice_get ws k))
      (sent : (k : ℕ) → sent_or (slice_get vs k) ≡ sent_or (slice_get ws k)) where
    stands_at : (p : Place) → with_words n vs rest p ≡ with_words n ws rest p
    stands_at (WordAt m k) =
        in_node (n == m) (word_or (slice_get vs k) (rest (WordAt m k))) (word_or (slice_get ws k) (rest (WordAt m k)))
        (rest (WordAt m k)) (alike_word (slice_get vs k) (slice_get ws k) (rest (WordAt m k)) (words k))
    stands_at (Sending m k) =
        in_node (n == m) (sending_or (slice_get vs k) (rest (Sending m k)))
        (sending_or (slice_get ws k) (rest (Sending m k))) (rest (Sending m k))
        (alike_sent (slice_get vs k) (slice_get ws k) (rest (Sending m k)) (sent k))
    stands_at (Standing z) = refl
    stands_at (Ports z) = refl
    stands_at (Half m l z) = refl
    stands_at (LinkHalf z l) = refl
    stands_at (Unfinished z) = refl
    stands_at (Error m) = refl
    stands_at (HaltOnError m) = refl
    stands_at (Life m l) = refl
    stands_at (Successions m l) = refl
    stands_at (Messages z) = refl
    stands_at (Kept z) = refl
    stands_at (Population m) = refl
    stands_at (HasRun m l) = refl
    stands_at (FlagChanged m) = refl

    pub stand_alike : with_words n vs rest ≡ with_words n ws rest
    stand_alike = λ i p. stands_at p i

-- the use of a word
word_used : (y : StoredWord) (u : Use) → use_of y.used ≡ u
    → IsWord (record { cells = cells_of y.cells; used = u }) ≡ IsWord (word_of y)
word_used y u e = ap (λ (v : Use). IsWord (record { cells = cells_of y.cells; used = v })) (sym e)

-- the words of a row are put: those that stand there in the end
module _ (s : Site) (u : Use) (vs : List StoredWord) (rest : State) where
  pub put_rows : (count k : ℕ) (ws : List StoredWord)
      → ((j : ℕ) → k ≤ j → j < k + count → (x : StoredWord) × (slice_get ws j ≡ Some x))
      → ((j : ℕ) → k ≤ j → j < k + count → (y : StoredWord) × (slice_get vs j ≡ Some y) × (use_of y.used ≡ u))
      → ((j : ℕ) → sent_or (slice_get vs j) ≡ sent_or (slice_get ws j))
      → ((j : ℕ) → (j < k) ⊎ (k + count ≤ j) → word_or_none (slice_get vs j) ≡ word_or_none (slice_get ws j))
      → run_part (put_words s u k count (cells_from vs k count)) (with_words s.number ws rest)
      ≡ (Ok tt, with_words s.number vs rest)
  put_rows zero k ws has given sent outside =
      ap (λ (t : State). (Ok tt, t)) (sym (stand_alike s.number vs ws rest (λ j. outside j (at j (below_or j k))) sent))
    where
      at : (j : ℕ) → (j < k) ⊎ (k ≤ j) → (j < k) ⊎ (k + 0 ≤ j)
      at j (inl h) = inl h
      at j (inr h) = inr (omega arith)
  put_rows (suc count) k ws has given sent outside =
      let low : k < k + suc count = omega arith in
      let here : k ≤ k = omega arith in
      let x = has k here low in let y = given k here low in
      let same : y.0.sending ≡ x.0.sending =
      some_same y.0.sending x.0.sending (ap sent_or (sym y.1) ∙ sent k ∙ ap sent_or x.1) in
      let next = set ws k y.0 in
      ap (λ (o : Option StoredWord). run_part (put_words s u k (suc count) (cells_or o ++ cells_from vs (suc k) count))
      (with_words s.number ws rest)) y.1
      ∙ ap (λ (v : Value). run_part (put_words s u (suc k) count (cells_from vs (suc k) count))
      (changed (WordAt s.number k) (Put v) (with_words s.number ws rest))) (word_used y.0 u y.2)
      ∙ ap (run_part (put_words s u (suc k) count (cells_from vs (suc k) count)))
      (sym (state_set s.number ws k x.0 y.0 x.1 same rest))
      ∙ put_rows count (suc k) next
      (λ j a b. let z = has j (omega arith) (omega arith) in
      (z.0, set_elsewhere ws k j y.0 (λ e. absurd (omega arith)) ∙ z.1))
      (λ j a b. given j (omega arith) (omega arith))
      (λ j. sent j ∙ sym (kept_sent j (cases_eq k j) x.0 y.0 x.1 same))
      (λ j h. outside_next j h (cases_eq k j) y.0 y.1)
    where
      some_same : (a b : ℕ) → Some a ≡ Some b → a ≡ b
      some_same a b e = cc

      kept_sent : (j : ℕ) → (k ≡ j) ⊎ (k ≡ j → ⊥) → (x y : StoredWord) → slice_get ws k ≡ Some x
          → y.sending ≡ x.sending → sent_or (slice_get (set ws k y) j) ≡ sent_or (slice_get ws j)
      kept_sent j (inl e) x y there same =
          ap (λ (m : ℕ). sent_or (slice_get (set ws k y) m)) (sym e) ∙ ap sent_or (set_here ws k y x there)
          ∙ ap (λ (n : ℕ). Some n) same ∙ ap sent_or (sym there) ∙ ap (λ (m : ℕ). sent_or (slice_get ws m)) e
      kept_sent j (inr other) x y there same = ap sent_or (set_elsewhere ws k j y other)

      outside_next : (j : ℕ) → (j < suc k) ⊎ (suc k + count ≤ j) → (k ≡ j) ⊎ (k ≡ j → ⊥) → (y : StoredWord)
          → slice_get vs k ≡ Some y → word_or_none (slice_get vs j) ≡ word_or_none (slice_get (set ws k y) j)
      outside_next j h (inl e) y there =
          let x = has k (omega arith) (omega arith) in
          ap (λ (m : ℕ). word_or_none (slice_get vs m)) (sym e) ∙ ap word_or_none there
          ∙ ap word_or_none (sym (set_here ws k y x.0 x.1))
          ∙ ap (λ (m : ℕ). word_or_none (slice_get (set ws k y) m)) e
      outside_next j (inl h) (inr other) y there =
          outside j (inl (omega (arith, λ (e : k ≡ j). other e)))
          ∙ ap word_or_none (sym (set_elsewhere ws k j y other))
      outside_next j (inr h) (inr other) y there =
          outside j (inr (omega arith)) ∙ ap word_or_none (sym (set_elsewhere ws k j y other))

-- what puts words in a row accesses
pub put_told : (Q : Accessed → Type 0) (s : Site) (u : Use) (count k : ℕ) (words : Store) (t : State)
    → ((j : ℕ) → k ≤ j → j < k + count → Q (record { place = WordAt s.number j; mode = Changes Puts }))
    → All Q (accesses (put_words s u k count words) t)
put_told Q s u zero k words t h = All-nil Q
put_told Q s u (suc count) k words t h =
    let low : k < k + suc count = omega arith in
    let here : k ≤ k = omega arith in
    All-cons Q _ _ (h k here low)
    (put_told Q s u count (suc k) (drop 4 words) _ (λ j a b. h j (omega arith) (omega arith)))
