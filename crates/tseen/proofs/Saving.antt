-- The words below a workspace become saved words, and words for programs again.
use Rattle.tprocesses.specs.Values.{Awaiting}
use Rattle.std.proofs.Common.{◌≡◌, ◌≢◌, ℕ, refl, sym, ap, ◌∙◌, true, false, true≢false, ◌⊎◌, inl, inr, ◌%◌}
use Rattle.std.proofs.lemmas.Bool.{eq-eqb, ne_eqb, cases_eq}
use Rattle.tword.specs.Stores.{Store}
use Rattle.tword.specs.Words.{word_below}
use Rattle.tword.specs.Touches.{Writes}
use Rattle.tprocesses.specs.Places.{Place, WordAt, Sending, Standing, Ports, Half, LinkHalf, Error, HaltOnError, Life}
use Rattle.tprocesses.specs.Places.{Unfinished, Successions, Messages, Kept, Population, HasRun, FlagChanged}
use Rattle.tprocesses.specs.Values.{Choosing, Value, Word, Use, Free, Saved, Receiving, Engaged, Last, Spoilt, IsWord}
use Rattle.tprocesses.specs.Values.{word_in}
use Rattle.tprocesses.specs.Values.{unknown}
use Rattle.tprocesses.specs.Changes.{Change, Put}
use Rattle.tprocesses.specs.Parts.{WordInUse, require}
use Rattle.tprocesses.specs.Touching.{Site, word_number, same_use, word_for, touch_word_at, save_word, save}
use Rattle.tprocesses.specs.Touching.{forgotten}
use Rattle.tprocesses.specs.Standing.{unsave_word, unsave}
use Rattle.tseen.proofs.After.{State, changed, After, after_bind, after_require}
use Rattle.tseen.proofs.Cells.{word_of, use_of}
use Rattle.tseen.proofs.Written.{changed_there, changed_word, is_word_of}
use Rattle.tseen.proofs.Writing.{IsWordTouched, touch_word_at_then}

-- a change of a word leaves each other place
pub changed_at : (n k : ℕ) (c : Change) (s : State) (q : Place) → q ≢ WordAt n k → changed (WordAt n k) c s q ≡ s q
changed_at n k c s (WordAt m l) h = by (cases_eq n m) (cases_eq k l)
  where
    by : (n ≡ m) ⊎ (n ≡ m → ⊥) → (k ≡ l) ⊎ (k ≡ l → ⊥)
        → changed (WordAt n k) c s (WordAt m l) ≡ s (WordAt m l)
    by (inl e) (inl f) = absurd (h (ap (λ j. WordAt j l) (sym e) ∙ ap (WordAt n) (sym f)))
    by (inl e) (inr f) = rw (eq-eqb n m e, ne_eqb k l f) refl
    by (inr e) d = rw (ne_eqb n m e) refl
changed_at n k c s (Sending m l) h = refl
changed_at n k c s (Standing x) h = refl
changed_at n k c s (Ports x) h = refl
changed_at n k c s (Half m d side) h = refl
changed_at n k c s (LinkHalf m side) h = refl
changed_at n k c s (Unfinished m) h = refl
changed_at n k c s (Error m) h = refl
changed_at n k c s (HaltOnError m) h = refl
changed_at n k c s (Life m w) h = refl
changed_at n k c s (Successions m w) h = refl
changed_at n k c s (Messages m) h = refl
changed_at n k c s (Kept m) h = refl
changed_at n k c s (Population m) h = refl
changed_at n k c s (HasRun m q) h = refl
changed_at n k c s (FlagChanged m) h = refl

-- the number of a word below a workspace
abbrev pub below : ℕ → ℕ → ℕ
below w j = word_number (word_below w j)

-- a place is none of the three words below a workspace
pub record IsApart (n w : ℕ) (q : Place) : Type 0 where
  pub one : q ≢ WordAt n (below w 1)
  pub two : q ≢ WordAt n (below w 2)
  pub three : q ≢ WordAt n (below w 3)

pub no_word : (n w : ℕ) (q : Place) → is_word_of n q ≡ false → IsApart n w q
no_word n w q h =
    record { one = λ e. is_not (below w 1) e; two = λ e. is_not (below w 2) e; three = λ e. is_not (below w 3) e }
  where
    is_not : (k : ℕ) → q ≡ WordAt n k → ⊥
    is_not k e = true≢false (sym (eq-eqb n n refl) ∙ sym (ap (is_word_of n) e) ∙ h)

pub other_number : (n w k : ℕ) → k ≢ below w 1 → k ≢ below w 2 → k ≢ below w 3 → IsApart n w (WordAt n k)
other_number n w k a b c =
    record { one = λ e. a (number e); two = λ e. b (number e); three = λ e. c (number e) }
  where
    number : {i j : ℕ} → WordAt n i ≡ WordAt n j → i ≡ j
    number e = cc

not_used : Saved ≡ Free → ⊥
not_used e = cc

same_saved : (u : Use) → same_use u Saved ≡ true → u ≡ Saved
same_saved Saved h = refl
same_saved Free h = absurd (true≢false (sym h))
same_saved Receiving h = absurd (true≢false (sym h))
same_saved Engaged h = absurd (true≢false (sym h))
same_saved Choosing h = absurd (true≢false (sym h))
same_saved Awaiting h = absurd (true≢false (sym h))
same_saved (Last p) h = absurd (true≢false (sym h))
same_saved Spoilt h = absurd (true≢false (sym h))

module _ (site : Site) (whole : site.size % 4 ≡ 0) where
  abbrev n : ℕ
  n = site.number

  -- a word of these cells and this use is put, and a state with it
  abbrev pub putting : Store → Use → Change
  putting cells used = Put (IsWord (record { cells = cells; used = used }))

  abbrev pub with_used : ℕ → Store → Use → State → State
  with_used k cells used s = changed (WordAt n k) (putting cells used) s

  pub save_word_then : (a : ℕ) (new : Store → Store) (s : State) (Q : Unit {0} → State → Type 0)
      → (IsWordTouched site whole s Writes a
      → Q tt (with_used (word_number a) (new (word_of s n (word_number a)).cells) Saved s))
      → After (save_word site a new) s Q
  save_word_then a new s Q h =
      after_bind (touch_word_at site Writes a) _ s Q (touch_word_at_then site whole Writes a s _ h)

  pub unsave_word_then : (a : ℕ) (s : State) (Q : Unit {0} → State → Type 0)
      → (use_of s n (word_number a) ≡ Saved
      → Q tt (with_used (word_number a) (word_of s n (word_number a)).cells Free s))
      → After (unsave_word site a) s Q
  unsave_word_then a s Q h =
      after_bind (word_for site Saved (word_number a)) _ s Q
      (after_bind (require (same_use (use_of s n (word_number a)) Saved) WordInUse) _ s _
      (after_require (same_use (use_of s n (word_number a)) Saved) WordInUse s _ (λ e.
      h (same_saved (use_of s n (word_number a)) e))))

  -- the three words have these cells and this use now, and all else is as it was
  pub record IsSet (s t : State) (w : ℕ) (used : Use) (lowest others : Store → Store) : Type 0 where
    pub three : t (WordAt n (below w 3))
        ≡ IsWord (record { cells = lowest (word_of s n (below w 3)).cells; used = used })
    pub two : t (WordAt n (below w 2))
        ≡ IsWord (record { cells = others (word_of s n (below w 2)).cells; used = used })
    pub one : t (WordAt n (below w 1))
        ≡ IsWord (record { cells = others (word_of s n (below w 1)).cells; used = used })
    pub rest : (q : Place) → IsApart n w q → t q ≡ s q

  -- the words were touched, so they differ, and are saved now
  pub record IsSaved (s t : State) (w : ℕ) (lowest : Store → Store) : Type 0 where
    pub touched_three : IsWordTouched site whole s Writes (word_below w 3)
    pub touched_two : IsWordTouched site whole s Writes (word_below w 2)
    pub touched_one : IsWordTouched site whole s Writes (word_below w 1)
    pub three_two : below w 3 ≢ below w 2
    pub three_one : below w 3 ≢ below w 1
    pub two_one : below w 2 ≢ below w 1
    pub set : IsSet s t w Saved lowest forgotten

  -- a word that is touched after another was set for another use is another, and was touched as it was
  module _ (k : ℕ) (cells : Store) (s : State) where
    pub other_touched : (a : ℕ) → IsWordTouched site whole (with_used k cells Saved s) Writes a → k ≢ word_number a
    other_touched a t e =
        not_used (sym (ap (λ (v : Value). (word_in v).used) (changed_there n k (putting cells Saved) s))
        ∙ ap (use_of (with_used k cells Saved s) n) e ∙ t.touched.free)

    pub touched_before : (a : ℕ) → IsWordTouched site whole (with_used k cells Saved s) Writes a
        → IsWordTouched site whole s Writes a
    touched_before a t =
        record {
          placed = t.placed;
          touched = record {
            free = ap (λ (v : Value). (word_in v).used)
                (sym (changed_word n k (putting cells Saved) s (word_number a) (other_touched a t))) ∙ t.touched.free;
            unsent = t.touched.unsent;
          };
          at = t.at;
          above = t.above;
          within = t.within;
        }

  pub save_then : (w : ℕ) (lowest : Store → Store) (s : State) (Q : Unit {0} → State → Type 0)
      → ((t : State) → IsSaved s t w lowest → Q tt t) → After (save site w lowest) s Q
  save_then w lowest s Q h =
      after_bind (save_word site (word_below w 3) lowest) _ s Q (save_word_then (word_below w 3) lowest s _ (λ t3.
      after_bind (save_word site (word_below w 2) forgotten) _ s3 Q
      (save_word_then (word_below w 2) forgotten s3 _ (λ t2.
      save_word_then (word_below w 1) forgotten s2 Q (λ t1. h s1 (more t3 t2 t1))))))
    where
      s3 : State
      s3 = with_used (below w 3) (lowest (word_of s n (below w 3)).cells) Saved s

      s2 : State
      s2 = with_used (below w 2) unknown Saved s3

      s1 : State
      s1 = with_used (below w 1) unknown Saved s2

      more : IsWordTouched site whole s Writes (word_below w 3) → IsWordTouched site whole s3 Writes (word_below w 2)
          → IsWordTouched site whole s2 Writes (word_below w 1) → IsSaved s s1 w lowest
      more t3 t2 t1 =
          let a : below w 3 ≢ below w 2 =
          other_touched (below w 3) (lowest (word_of s n (below w 3)).cells) s (word_below w 2) t2 in
          let b : below w 2 ≢ below w 1 = other_touched (below w 2) unknown s3 (word_below w 1) t1 in
          let u1 : IsWordTouched site whole s3 Writes (word_below w 1) =
          touched_before (below w 2) unknown s3 (word_below w 1) t1 in
          let d : below w 3 ≢ below w 1 =
          other_touched (below w 3) (lowest (word_of s n (below w 3)).cells) s (word_below w 1) u1 in
          record {
            touched_three = t3;
            touched_two = touched_before (below w 3) (lowest (word_of s n (below w 3)).cells) s (word_below w 2) t2;
            touched_one = touched_before (below w 3) (lowest (word_of s n (below w 3)).cells) s (word_below w 1) u1;
            three_two = a;
            three_one = d;
            two_one = b;
            set = record {
              three = changed_word n (below w 1) (putting unknown Saved) s2 (below w 3) (λ e. d (sym e))
                  ∙ changed_word n (below w 2) (putting unknown Saved) s3 (below w 3) (λ e. a (sym e))
                  ∙ changed_there n (below w 3) (putting (lowest (word_of s n (below w 3)).cells) Saved) s;
              two = changed_word n (below w 1) (putting unknown Saved) s2 (below w 2) (λ e. b (sym e))
                  ∙ changed_there n (below w 2) (putting unknown Saved) s3;
              one = changed_there n (below w 1) (putting unknown Saved) s2;
              rest = λ q p. changed_at n (below w 1) (putting unknown Saved) s2 q p.one
                  ∙ changed_at n (below w 2) (putting unknown Saved) s3 q p.two
                  ∙ changed_at n (below w 3) (putting (lowest (word_of s n (below w 3)).cells) Saved) s q p.three;
            };
          }

  -- saved words are words for programs again, with their cells
  pub record IsUnsaved (s t : State) (w : ℕ) : Type 0 where
    pub saved_three : use_of s n (below w 3) ≡ Saved
    pub set : IsSet s t w Free (λ cells. cells) (λ cells. cells)

  pub unsave_then : (w : ℕ) (s : State) (Q : Unit {0} → State → Type 0) → below w 3 ≢ below w 2
      → below w 3 ≢ below w 1 → below w 2 ≢ below w 1
      → ((t : State) → IsUnsaved s t w → Q tt t) → After (unsave site w) s Q
  unsave_then w s Q a d b h =
      after_bind (unsave_word site (word_below w 3)) _ s Q (unsave_word_then (word_below w 3) s _ (λ u3.
      after_bind (unsave_word site (word_below w 2)) _ s3 Q (unsave_word_then (word_below w 2) s3 _ (λ u2.
      unsave_word_then (word_below w 1) s2 Q (λ u1. h s1 (more u3))))))
    where
      s3 : State
      s3 = with_used (below w 3) (word_of s n (below w 3)).cells Free s

      s2 : State
      s2 = with_used (below w 2) (word_of s3 n (below w 2)).cells Free s3

      s1 : State
      s1 = with_used (below w 1) (word_of s2 n (below w 1)).cells Free s2

      two_before : word_of s3 n (below w 2) ≡ word_of s n (below w 2)
      two_before =
          ap word_in (changed_word n (below w 3) (putting (word_of s n (below w 3)).cells Free) s (below w 2) a)

      one_before : word_of s2 n (below w 1) ≡ word_of s n (below w 1)
      one_before =
          ap word_in (changed_word n (below w 2) (putting (word_of s3 n (below w 2)).cells Free) s3 (below w 1) b
          ∙ changed_word n (below w 3) (putting (word_of s n (below w 3)).cells Free) s (below w 1) d)

      more : use_of s n (below w 3) ≡ Saved → IsUnsaved s s1 w
      more u3 =
          record {
            saved_three = u3;
            set = record {
              three = changed_word n (below w 1) (putting (word_of s2 n (below w 1)).cells Free) s2
                  (below w 3) (λ e. d (sym e))
                  ∙ changed_word n (below w 2) (putting (word_of s3 n (below w 2)).cells Free) s3
                  (below w 3) (λ e. a (sym e))
                  ∙ changed_there n (below w 3) (putting (word_of s n (below w 3)).cells Free) s;
              two = changed_word n (below w 1) (putting (word_of s2 n (below w 1)).cells Free) s2
                  (below w 2) (λ e. b (sym e))
                  ∙ changed_there n (below w 2) (putting (word_of s3 n (below w 2)).cells Free) s3
                  ∙ ap (λ (v : Word). IsWord (record { cells = v.cells; used = Free })) two_before;
              one = changed_there n (below w 1) (putting (word_of s2 n (below w 1)).cells Free) s2
                  ∙ ap (λ (v : Word). IsWord (record { cells = v.cells; used = Free })) one_before;
              rest = λ q p. changed_at n (below w 1) (putting (word_of s2 n (below w 1)).cells Free) s2 q p.one
                  ∙ changed_at n (below w 2) (putting (word_of s3 n (below w 2)).cells Free) s3 q p.two
                  ∙ changed_at n (below w 3) (putting (word_of s n (below w 3)).cells Free) s q p.three;
            };
          }
