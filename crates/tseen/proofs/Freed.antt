-- Saved words below a workspace that are words for programs again.
use Rattle.tprocesses.specs.Parts.{Doing}
use Rattle.tseen.proofs.Cells.{cell}
use Rattle.tseen.proofs.SavedThen.{nothing_known}
use Rattle.std.proofs.Common.{Bool, true, false, true≢false}
use Rattle.tseen.specs.Words.{is_set_aside}
use Rattle.tseen.proofs.After.{changed, after_require}
use Rattle.tprocesses.specs.Parts.{require, WordInUse}
use Rattle.tprocesses.specs.Choosing.{changes_use}
use Rattle.tprocesses.specs.Touching.{same_use, word_for}
use Rattle.tprocesses.specs.Changes.{Change, Put, used_word}
use Rattle.tprocesses.specs.Values.{Use, Receiving, Engaged, Choosing, Awaiting, Last, Spoilt, Context}
use Rattle.std.proofs.lemmas.Bool.{cases_eq}
use Rattle.std.proofs.Common.{◌≡◌, ◌≢◌, ℕ, ◌%◌, ◌/◌, refl, sym, ap, subst, ◌∙◌, get_or, Option, None, ◌⊎◌}
use Rattle.std.proofs.Common.{inl, inr}
use Rattle.tword.specs.Stores.{Store}
use Rattle.tword.specs.Words.{word_below}
use Rattle.tprocesses.specs.Places.{Place, WordAt}
use Rattle.tprocesses.specs.Values.{Value, Word, Free, Saved, IsWord, word_in}
use Rattle.tprocesses.specs.Parts.{◌>>=◌}
use Rattle.tprocesses.specs.Touching.{Site}
use Rattle.tprocesses.specs.Standing.{unsave_word, unsave_upper}
use Rattle.tseen.proofs.After.{State, After, after_bind}
use Rattle.tseen.proofs.Cells.{word_of, use_of, Knows, IsWhole, four_of, Tells}
use Rattle.tseen.proofs.Saving.{below, IsApart, IsUnsaved, with_used, putting, changed_at}
use Rattle.tseen.proofs.Written.{changed_word, changed_there}
use Rattle.tseen.proofs.Saving.{unsave_word_then}
use Rattle.tseen.proofs.Resumed.{by_freed}

-- no word of an input, of a channel or of a count
abbrev pub is_plain : Use → Bool
is_plain Free = true
is_plain Choosing = true
is_plain _ = false

-- a saved word is free, with its cells
abbrev pub freed_word : State → (n j : ℕ) → Value
freed_word s n j = IsWord (record { cells = (word_of s n j).cells; used = Free })

-- a word is as it was, or was saved and is free, or has the state of an alternative whose process runs now
abbrev pub WordFreed : (n w : ℕ) (s v : State) (j : ℕ) → Type 0
WordFreed n w s v j =
    (v (WordAt n j) ≡ s (WordAt n j)) ⊎ (((use_of s n j ≡ Saved) × (v (WordAt n j) ≡ freed_word s n j))
    ⊎ ((j ≡ below w 3) × (use_of s n j ≡ Awaiting) × (v (WordAt n j) ≡ IsWord (used_word Choosing))))

-- some of the words below a workspace, which were saved, are free, and all else is as it was
pub record IsFreed (n w : ℕ) (s v : State) : Type 0 where
  pub words : (j : ℕ) → WordFreed n w s v j
  pub rest : (q : Place) → IsApart n w q → v q ≡ s q

-- all three
pub all_freed : (site : Site) (whole : site.size % 4 ≡ 0) (w : ℕ) (s v : State)
    → use_of s site.number (below w 1) ≡ Saved → use_of s site.number (below w 2) ≡ Saved
    → IsUnsaved site whole s v w → IsFreed site.number w s v
all_freed site whole w s v one two freed =
    record {
      words = by_freed site whole w s v freed one two (WordFreed site.number w s v)
          (inr (inl (one, freed.set.one))) (inr (inl (two, freed.set.two)))
          (inr (inl (freed.saved_three, freed.set.three)))
          (λ j a b c e. inl e);
      rest = freed.set.rest;
    }

module _ (n w : ℕ) (s v : State) (freed : IsFreed n w s v) where
  -- what is not set aside stays
  pub unsaved_stays : (j : ℕ) → (is_set_aside (use_of s n j) ≡ true → ⊥) → v (WordAt n j) ≡ s (WordAt n j)
  unsaved_stays j h = by (freed.words j)
    where
      by : WordFreed n w s v j
          → v (WordAt n j) ≡ s (WordAt n j)
      by (inl e) = e
      by (inr (inl e)) = absurd (h (ap is_set_aside e.0))
      by (inr (inr e)) = absurd (h (ap is_set_aside e.1))

  -- the use of a word: free, as before, or for the state of an alternative
  pub used_then : (j : ℕ) → (is_plain (use_of v n j) ≡ true) ⊎ (use_of v n j ≡ use_of s n j)
  used_then j = by (freed.words j)
    where
      by : WordFreed n w s v j
          → (is_plain (use_of v n j) ≡ true) ⊎ (use_of v n j ≡ use_of s n j)
      by (inl e) = inr (ap (λ (z : Value). (word_in z).used) e)
      by (inr (inl e)) = inl (ap (λ (z : Value). is_plain (word_in z).used) e.1)
      by (inr (inr e)) = inl (ap (λ (z : Value). is_plain (word_in z).used) e.2)

  knows_then : (j : ℕ) (y : Option ℕ) → Knows (cell s n j) y → Knows (cell v n j) y
  knows_then j y h = by (freed.words (j / 4))
    where
      by : WordFreed n w s v (j / 4) → Knows (cell v n j) y
      by (inl e) =
          subst (λ (z : Store). Knows (get_or z (j % 4) None) y) (sym (ap (λ (z : Value). (word_in z).cells) e)) h
      by (inr (inl e)) =
          subst (λ (z : Store). Knows (get_or z (j % 4) None) y) (sym (ap (λ (z : Value). (word_in z).cells) e.1)) h
      by (inr (inr e)) = nothing_known v n j y (ap (λ (z : Value). (word_in z).cells) e.2)

  whole_then : (j : ℕ) → IsWhole (s (WordAt n j)) → IsWhole (v (WordAt n j))
  whole_then j h = by (freed.words j)
    where
      by : WordFreed n w s v j
          → IsWhole (v (WordAt n j))
      by (inl e) = subst IsWhole (sym e) h
      by (inr (inl e)) =
          record {
            word = record { cells = (word_of s n j).cells; used = Free };
            is = e.1;
            four = four_of (s (WordAt n j)) h;
          }
      by (inr (inr e)) = record { word = used_word Choosing; is = e.2; four = refl }

  -- the memory is told as before
  pub tells_then : (s' : State) (size : ℕ) (store : Store) → ((j : ℕ) → s' (WordAt n j) ≡ v (WordAt n j))
      → Tells s n size store → Tells s' n size store
  tells_then s' size store same t =
      record {
        length = t.length;
        words = λ j h. subst IsWhole (sym (same j)) (whole_then j (t.words j h));
        cells = λ i h.
            subst (λ (z : Store). Knows (get_or z (i % 4) None) (get_or store i None))
            (sym (ap (λ (z : Value). (word_in z).cells) (same (i / 4))))
            (knows_then i (get_or store i None) (t.cells i h));
      }

-- a process goes on whose alternative was made to go on: the upper two are freed
module _ (site : Site) (whole : site.size % 4 ≡ 0) where
  abbrev n : ℕ
  n = site.number

  same_awaiting : (u : Use) → same_use u Awaiting ≡ true → u ≡ Awaiting
  same_awaiting Awaiting h = refl
  same_awaiting Free h = absurd (true≢false (sym h))
  same_awaiting Saved h = absurd (true≢false (sym h))
  same_awaiting Receiving h = absurd (true≢false (sym h))
  same_awaiting Engaged h = absurd (true≢false (sym h))
  same_awaiting Choosing h = absurd (true≢false (sym h))
  same_awaiting (Last q) h = absurd (true≢false (sym h))
  same_awaiting Spoilt h = absurd (true≢false (sym h))

  pub unsave_chosen_then : (d : Context) (rest : Doing) (s : State) (Q : Unit {0} → State → Type 0)
      → below d.wptr 3 ≢ below d.wptr 2 → below d.wptr 3 ≢ below d.wptr 1 → below d.wptr 2 ≢ below d.wptr 1
      → use_of s n (below d.wptr 1) ≡ Saved → use_of s n (below d.wptr 2) ≡ Saved
      → ((t : State) → IsFreed n d.wptr s t → use_of s n (below d.wptr 3) ≡ Awaiting
      → t (WordAt n (below d.wptr 3)) ≡ IsWord (used_word Choosing)
      → (t (WordAt n (below d.wptr 1)) ≡ freed_word s n (below d.wptr 1))
      × (t (WordAt n (below d.wptr 2)) ≡ freed_word s n (below d.wptr 2)) → After rest t Q)
      → After (changes_use site d Awaiting Choosing >>= (λ _. unsave_upper site d.wptr >>= (λ _. rest))) s Q
  unsave_chosen_then d next s Q c1 c2 b one two h =
      after_bind (changes_use site d Awaiting Choosing) _ s Q
      (after_bind (word_for site Awaiting (below w 3)) _ s _
      (after_bind (require (same_use (use_of s n (below w 3)) Awaiting) WordInUse) _ s _
      (after_require (same_use (use_of s n (below w 3)) Awaiting) WordInUse s _ (λ is.
      after_bind (unsave_upper site w) _ s3 Q
      (after_bind (unsave_word site (word_below w 2)) _ s3 _ (unsave_word_then site whole (word_below w 2) s3 _ (λ u2.
      unsave_word_then site whole (word_below w 1) s2 _ (λ u1.
      h s1 (record { words = words (same_awaiting _ is); rest = rest }) (same_awaiting _ is) third
      (first, second)))))))))
    where
      w : ℕ
      w = d.wptr

      s3 : State
      s3 = changed (WordAt n (below w 3)) (Put (IsWord (used_word Choosing))) s

      s2 : State
      s2 = with_used site whole (below w 2) (word_of s3 n (below w 2)).cells Free s3

      s1 : State
      s1 = with_used site whole (below w 1) (word_of s2 n (below w 1)).cells Free s2

      put_two : Change
      put_two = putting site whole (word_of s3 n (below w 2)).cells Free

      put_one : Change
      put_one = putting site whole (word_of s2 n (below w 1)).cells Free

      two_before : word_of s3 n (below w 2) ≡ word_of s n (below w 2)
      two_before = ap word_in (changed_word n (below w 3) (Put (IsWord (used_word Choosing))) s (below w 2) c1)

      one_before : word_of s2 n (below w 1) ≡ word_of s n (below w 1)
      one_before =
          ap word_in (changed_word n (below w 2) put_two s3 (below w 1) b
          ∙ changed_word n (below w 3) (Put (IsWord (used_word Choosing))) s (below w 1) c2)

      third : s1 (WordAt n (below w 3)) ≡ IsWord (used_word Choosing)
      third =
          changed_word n (below w 1) put_one s2 (below w 3) (λ g. c2 (sym g))
          ∙ changed_word n (below w 2) put_two s3 (below w 3) (λ g. c1 (sym g))
          ∙ changed_there n (below w 3) (Put (IsWord (used_word Choosing))) s

      first : s1 (WordAt n (below w 1)) ≡ freed_word s n (below w 1)
      first =
          changed_there n (below w 1) put_one s2
          ∙ ap (λ (v : Word). IsWord (record { cells = v.cells; used = Free })) one_before

      second : s1 (WordAt n (below w 2)) ≡ freed_word s n (below w 2)
      second =
          changed_word n (below w 1) put_one s2 (below w 2) (λ i. b (sym i))
          ∙ changed_there n (below w 2) put_two s3
          ∙ ap (λ (v : Word). IsWord (record { cells = v.cells; used = Free })) two_before

      words : use_of s n (below w 3) ≡ Awaiting → (j : ℕ) → WordFreed n w s s1 j
      words is j = by (cases_eq (below w 1) j) (cases_eq (below w 2) j) (cases_eq (below w 3) j)
        where
          by : (below w 1 ≡ j) ⊎ (below w 1 ≡ j → ⊥) → (below w 2 ≡ j) ⊎ (below w 2 ≡ j → ⊥)
              → (below w 3 ≡ j) ⊎ (below w 3 ≡ j → ⊥) → WordFreed n w s s1 j
          by (inl e) f g =
              subst (WordFreed n w s s1) e (inr (inl (one, first)))
          by (inr e) (inl f) g =
              subst (WordFreed n w s s1) f (inr (inl (two, second)))
          by (inr e) (inr f) (inl g) = subst (WordFreed n w s s1) g (inr (inr (refl, is, third)))
          by (inr e) (inr f) (inr g) =
              inl (changed_word n (below w 1) put_one s2 j e ∙ changed_word n (below w 2) put_two s3 j f
              ∙ changed_word n (below w 3) (Put (IsWord (used_word Choosing))) s j g)

      rest : (q : Place) → IsApart n w q → s1 q ≡ s q
      rest q p =
          changed_at n (below w 1) put_one s2 q p.one ∙ changed_at n (below w 2) put_two s3 q p.two
          ∙ changed_at n (below w 3) (Put (IsWord (used_word Choosing))) s q p.three
