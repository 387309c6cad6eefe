-- What a touch of the memory tells that went through, and what a write leaves.
use Rattle.tprocesses.specs.Values.{Awaiting}
use Rattle.std.proofs.Common.{◌≡◌, ℕ, zero, suc, ◌+◌, ◌-◌, ◌*◌, ◌<◌, ◌≤◌, ◌/◌, ◌%◌, refl, ap, subst, ◌∙◌, [], ◌++◌}
use Rattle.std.proofs.Common.{length, get_or, Bool, true, false, cond, None, arith, ◌⊎◌, inl, inr, length-append}
use Rattle.std.specs.Prelude.{ℤ, pos, negsuc}
use Rattle.std.proofs.lemmas.Bool.{eqb-true, cases_eq, cases_lt}
use Rattle.std.proofs.lemmas.List.{get_or_append_left, get_or-append_right}
use Rattle.tword.specs.Stores.{Store}
use Rattle.tword.specs.Claims.{Claims}
use Rattle.tword.specs.Touches.{Mode, Reads, Writes, claim_break}
use Rattle.tprocesses.specs.Places.{WordAt, Sending}
use Rattle.tprocesses.specs.Values.{Choosing, Use, Free, Saved, Receiving, Engaged, Last, Spoilt, amount_in}
use Rattle.tword.specs.declared.breaks.Break.TheVariants.{InTransit}
use Rattle.tprocesses.specs.Parts.{Breaks, gives, stopping, done, ◌>>=◌}
use Rattle.tprocesses.specs.Touching.{Site, free_cells, settled, touch_word, touch_words, is_zero}
use Rattle.tseen.proofs.After.{State, After, after_bind}
use Rattle.tseen.proofs.Spans.{word_of_number}
use Rattle.tseen.proofs.Cells.{word_of, use_of, cell, IsWhole, four_of}

-- a word is free, and to be written it is in no pending output
pub record IsTouched (s : State) (n : ℕ) (mode : Mode) (k : ℕ) : Type 0 where
  pub free : use_of s n k ≡ Free
  pub unsent : mode ≡ Writes → amount_in (s (Sending n k)) ≡ pos 0

-- claims let such words be touched
pub record Permits (s : State) (n : ℕ) (claims : Claims) : Type 0 where
  pub reads : (k : ℕ) → use_of s n k ≡ Free → claim_break claims Reads (word_of_number k) ≡ None
  pub writes : (k : ℕ) → use_of s n k ≡ Free → amount_in (s (Sending n k)) ≡ pos 0
      → claim_break claims Writes (word_of_number k) ≡ None

pub permitted : (s : State) (n : ℕ) (claims : Claims) (mode : Mode) (k : ℕ) → Permits s n claims → IsTouched s n mode k
    → claim_break claims mode (word_of_number k) ≡ None
permitted s n claims Reads k p t = p.reads k t.free
permitted s n claims Writes k p t = p.writes k t.free (t.unsent refl)

-- words in a row were touched, and these are their cells
pub record AreTouched (s : State) (n : ℕ) (mode : Mode) (first count : ℕ) (words : Store) : Type 0 where
  pub touched : (k : ℕ) → first ≤ k → k < first + count → IsTouched s n mode k
  pub size : length words ≡ 4 * count
  pub cells : (j : ℕ) → j < 4 * count → get_or words j None ≡ cell s n (4 * first + j)

pub zero_is : (z : ℤ) → is_zero z ≡ true → z ≡ pos 0
zero_is (pos m) h = ap pos (eqb-true m 0 h)
zero_is (negsuc m) h = cc

module _ (site : Site) where
  abbrev n : ℕ
  n = site.number

  pub touch_word_then : (mode : Mode) (k : ℕ) (s : State) (Q : Store → State → Type 0)
      → (IsTouched s n mode k → Q (word_of s n k).cells s) → After (touch_word site mode k) s Q
  touch_word_then mode k s Q h = by (use_of s n k) refl
    where
      settles : (mode : Mode) → (IsTouched s n mode k → Q (word_of s n k).cells s)
          → use_of s n k ≡ Free → After (settled site mode k >>= (λ _. gives (word_of s n k).cells)) s Q
      settles Reads h e = h (record { free = e; unsent = λ f. cc })
      settles Writes h e = unless_sent (is_zero (amount_in (s (Sending n k)))) refl
        where
          unless_sent : (t : Bool) → is_zero (amount_in (s (Sending n k))) ≡ t
              → After (cond t done (stopping (Breaks InTransit)) >>= (λ _. gives (word_of s n k).cells)) s Q
          unless_sent true z = h (record { free = e; unsent = λ f. zero_is _ z })
          unless_sent false z = tt

      by : (u : Use) → use_of s n k ≡ u
          → After (free_cells u (word_of s n k).cells >>= (λ cells. settled site mode k >>= (λ _. gives cells))) s Q
      by Free e = settles mode h e
      by Saved e = tt
      by Receiving e = tt
      by Engaged e = tt
      by Choosing e = tt
      by Awaiting e = tt
      by (Last p) e = tt
      by Spoilt e = tt

  pub touch_words_then : (mode : Mode) (count first : ℕ) (s : State) (Q : Store → State → Type 0)
      → ((k : ℕ) → first ≤ k → k < first + count → IsWhole (s (WordAt n k)))
      → ((words : Store) → AreTouched s n mode first count words → Q words s)
      → After (touch_words site mode first count) s Q
  touch_words_then mode zero first s Q whole h =
      h [] (record { touched = λ k a b. absurd (omega arith); size = refl; cells = λ j b. absurd (omega arith) })
  touch_words_then mode (suc count) first s Q whole h =
      after_bind (touch_word site mode first) _ s Q
      (touch_word_then mode first s _ (λ t. after_bind (touch_words site mode (suc first) count) _ s Q
      (touch_words_then mode count (suc first) s _ (λ k a b. whole k (omega arith) (omega arith)) (λ rest r.
      h ((word_of s n first).cells ++ rest) (more t rest r)))))
    where
      four : length (word_of s n first).cells ≡ 4
      four = four_of (s (WordAt n first)) (whole first (omega arith) (omega arith))

      more : IsTouched s n mode first → (rest : Store) → AreTouched s n mode (suc first) count rest
          → AreTouched s n mode first (suc count) ((word_of s n first).cells ++ rest)
      more t rest r =
          record {
            touched = λ k a b. one k a b (cases_eq first k);
            size = length-append (word_of s n first).cells rest ∙ omega (arith, four, r.size);
            cells = λ j b. at j b (cases_lt j 4);
          }
        where
          one : (k : ℕ) → first ≤ k → k < first + suc count → (first ≡ k) ⊎ (first ≡ k → ⊥) → IsTouched s n mode k
          one k a b (inl e) = subst (IsTouched s n mode) e t
          one k a b (inr e) = r.touched k (omega (arith, e)) (omega arith)

          at : (j : ℕ) → j < 4 * suc count → (j < 4) ⊎ (4 ≤ j)
              → get_or ((word_of s n first).cells ++ rest) j None ≡ cell s n (4 * first + j)
          at j b (inl l) =
              let word : (4 * first + j) / 4 ≡ first = omega arith in
              let byte : (4 * first + j) % 4 ≡ j = omega arith in
              get_or_append_left (word_of s n first).cells rest None j (omega (arith, four))
              ∙ rw (word, byte) refl
          at j b (inr l) =
              get_or-append_right (word_of s n first).cells rest 4 j None four l ∙ r.cells (j - 4) (omega arith)
              ∙ ap (cell s n) (omega arith)
