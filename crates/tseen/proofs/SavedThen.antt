-- The words of a node after a workspace was saved: the three below it are saved words, the others are as before.
use Rattle.std.proofs.Common.{◌≡◌, ◌≢◌, ℕ, ◌%◌, ◌/◌, refl, sym, ap, subst, ◌∙◌, get_or, Contains, Option, None, List}
use Rattle.std.proofs.Common.{◌⊎◌, inl, inr, false}
use Rattle.std.proofs.lemmas.Bool.{cases_eq}
use Rattle.tword.specs.Stores.{Store}
use Rattle.tplan.specs.declared.plan.NodePlan.{NodePlan}
use Rattle.tprocesses.specs.Places.{WordAt}
use Rattle.tprocesses.specs.Values.{Value, Use, Free, Saved, Receiving, IsWord, word_in, unknown}
use Rattle.tprocesses.specs.Touching.{kept}
use Rattle.tprocesses.specs.Machine.{site_of, awaits_successor}
use Rattle.tseen.specs.Words.{AreSavedWords, is_set_aside}
use Rattle.tseen.proofs.After.{State}
use Rattle.tseen.proofs.Cells.{word_of, use_of, cell, Knows, IsWhole, four_of}
use Rattle.tseen.proofs.Stored.{GoesOn}
use Rattle.tseen.proofs.Saving.{below, other_number, IsSaved}
use Rattle.tseen.proofs.Softened.{none_at}
use Rattle.tseen.proofs.Staying.{saved_words, saved_words_stay, used_one}
use Rattle.tseen.proofs.Unclaimed.{aside_not_free}

-- what was saved is not free
pub saved_not_free : {used : Use} → used ≡ Saved → used ≡ Free → ⊥
saved_not_free e f = differ (sym e ∙ f)
  where
    differ : Saved ≡ Free → ⊥
    differ e = cc

-- nothing is known of a cell of an unknown word
pub nothing_known : (s : State) (n j : ℕ) (y : Option ℕ) → (word_of s n (j / 4)).cells ≡ unknown → Knows (cell s n j) y
nothing_known s n j y e =
    subst (λ (z : Store). Knows (get_or z (j % 4) None) y) (sym e)
    (subst (λ (o : Option ℕ). Knows o y) (sym (none_at (j % 4))) tt)

-- after an instruction a workspace was saved, and no other word changed
pub record HasSaved (n : ℕ) (plan : NodePlan) (s last : State) (w : ℕ) : Type 0 where
  pub whole : plan.memory % 4 ≡ 0
  -- the states after the instruction, before the workspace was saved, and after it
  pub t : State
  pub u : State
  pub v : State
  pub store : Store
  pub store' : Store
  pub on : GoesOn n plan.memory s t store store'
  pub saved : IsSaved (site_of n plan) whole u v w kept
  pub before : (j : ℕ) → u (WordAt n j) ≡ t (WordAt n j)
  pub after : (j : ℕ) → last (WordAt n j) ≡ v (WordAt n j)

module _ {n : ℕ} {plan : NodePlan} {s last : State} {w : ℕ} (k : HasSaved n plan s last w) where
  pub free_before : (j : ℕ) → use_of k.u n j ≡ Free → use_of s n j ≡ Free
  free_before j e = sym (k.on.keeps.uses j) ∙ ap (λ (z : Value). (word_in z).used) (sym (k.before j)) ∙ e

  -- the words below the workspace were free
  pub first_free : use_of s n (below w 1) ≡ Free
  first_free = free_before (below w 1) k.saved.touched_one.touched.free

  second_free : use_of s n (below w 2) ≡ Free
  second_free = free_before (below w 2) k.saved.touched_two.touched.free

  pub third_free : use_of s n (below w 3) ≡ Free
  third_free = free_before (below w 3) k.saved.touched_three.touched.free

  -- what they are now, and all others
  pub one_is : last (WordAt n (below w 1)) ≡ IsWord (record { cells = unknown; used = Saved })
  one_is = k.after (below w 1) ∙ k.saved.set.one

  pub two_is : last (WordAt n (below w 2)) ≡ IsWord (record { cells = unknown; used = Saved })
  two_is = k.after (below w 2) ∙ k.saved.set.two

  pub three_is : last (WordAt n (below w 3))
      ≡ IsWord (record { cells = (word_of k.t n (below w 3)).cells; used = Saved })
  three_is =
      k.after (below w 3) ∙ k.saved.set.three
      ∙ ap (λ (z : Value). IsWord (record { cells = (word_in z).cells; used = Saved })) (k.before (below w 3))

  pub other_is : (j : ℕ) → j ≢ below w 1 → j ≢ below w 2 → j ≢ below w 3 → last (WordAt n j) ≡ k.t (WordAt n j)
  other_is j a b c = k.after j ∙ k.saved.set.rest (WordAt n j) (other_number n w j a b c) ∙ k.before j

  -- a word that was not free stays
  pub unfree_stays : (j : ℕ) → (use_of s n j ≡ Free → ⊥) → last (WordAt n j) ≡ s (WordAt n j)
  unfree_stays j h =
      other_is j (λ e. h (subst (λ z. use_of s n z ≡ Free) (sym e) first_free))
      (λ e. h (subst (λ z. use_of s n z ≡ Free) (sym e) second_free))
      (λ e. h (subst (λ z. use_of s n z ≡ Free) (sym e) third_free)) ∙ k.on.keeps.kept j h

  -- a word is one of the three, or as it was
  by_word : (P : ℕ → Type 0) → P (below w 1) → P (below w 2) → P (below w 3)
      → ((j : ℕ) → last (WordAt n j) ≡ k.t (WordAt n j) → P j) → (j : ℕ) → P j
  by_word P one two three other j = by (cases_eq j (below w 1)) (cases_eq j (below w 2)) (cases_eq j (below w 3))
    where
      by : (j ≡ below w 1) ⊎ (j ≡ below w 1 → ⊥) → (j ≡ below w 2) ⊎ (j ≡ below w 2 → ⊥)
          → (j ≡ below w 3) ⊎ (j ≡ below w 3 → ⊥) → P j
      by (inl e) b c = subst P (sym e) one
      by (inr a) (inl e) c = subst P (sym e) two
      by (inr a) (inr b) (inl e) = subst P (sym e) three
      by (inr a) (inr b) (inr c) = other j (other_is j a b c)

  -- its use: saved, or as before
  pub used_now : (j : ℕ) → (use_of last n j ≡ Saved) ⊎ (use_of last n j ≡ use_of s n j)
  used_now j =
      by_word (λ j. (use_of last n j ≡ Saved) ⊎ (use_of last n j ≡ use_of s n j))
      (inl (ap (λ (z : Value). (word_in z).used) one_is)) (inl (ap (λ (z : Value). (word_in z).used) two_is))
      (inl (ap (λ (z : Value). (word_in z).used) three_is))
      (λ j e. inr (ap (λ (z : Value). (word_in z).used) e ∙ k.on.keeps.uses j)) j

  -- it has four cells
  pub whole_word : (j : ℕ) → IsWhole (k.t (WordAt n j)) → IsWhole (last (WordAt n j))
  whole_word j =
      by_word (λ j. IsWhole (k.t (WordAt n j)) → IsWhole (last (WordAt n j)))
      (λ h. record { word = record { cells = unknown; used = Saved }; is = one_is; four = refl })
      (λ h. record { word = record { cells = unknown; used = Saved }; is = two_is; four = refl })
      (λ h. record {
        word = record { cells = (word_of k.t n (below w 3)).cells; used = Saved };
        is = three_is;
        four = four_of (k.t (WordAt n (below w 3))) h;
      })
      (λ j e h. subst IsWhole (sym e) h) j

  -- words of inputs stay so, and none awaits a successor
  pub receives_still : (j : ℕ) → use_of s n j ≡ Receiving → use_of last n j ≡ Receiving
  receives_still j e = ap (λ (z : Value). (word_in z).used) (unfree_stays j (λ f. differ (sym e ∙ f))) ∙ e
    where
      differ : Receiving ≡ Free → ⊥
      differ e = cc

  pub no_successor : (j : ℕ) → awaits_successor (use_of s n j) ≡ false → awaits_successor (use_of last n j) ≡ false
  no_successor j h = by (used_now j)
    where
      by : (use_of last n j ≡ Saved) ⊎ (use_of last n j ≡ use_of s n j) → awaits_successor (use_of last n j) ≡ false
      by (inl e) = ap awaits_successor e
      by (inr e) = ap awaits_successor e ∙ h

  -- the saved words of each list that the workspace has joined
  pub saved_each : (ws : List ℕ) → ((a : ℕ) → Contains ws a → AreSavedWords s n a) → (a : ℕ)
      → Contains ws a ⊎ (w ≡ a) → AreSavedWords last n a
  saved_each ws old a (inl h) =
      saved_words_stay s last n a (λ j e. unfree_stays j (aside_not_free e)) (old a h)
  saved_each ws old a (inr e) =
      subst (AreSavedWords last n) e
      (saved_words last n w (ap (λ (z : Value). (word_in z).used) one_is)
      (ap (λ (z : Value). (word_in z).used) two_is) (ap (λ (z : Value). is_set_aside (word_in z).used) three_is)
      (ap (λ (z : Value). (word_in z).cells) one_is) (ap (λ (z : Value). (word_in z).cells) two_is))

  -- who has saved words has another workspace
  pub is_new : (a : ℕ) → AreSavedWords s n a → a ≢ w
  is_new a h e =
      saved_not_free (subst (λ z. use_of s n (below z 1) ≡ Saved) e (used_one s n a h)) first_free
