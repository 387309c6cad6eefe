-- A jump at which a process yields: the words after it.
use Rattle.tseen.proofs.Choices.{is_lasting, lasting_not_free, lasting_not_saved}
use Rattle.std.proofs.Common.{◌≡◌, ◌≢◌, ℕ, ◌+◌, ◌*◌, ◌<◌, ◌≤◌, ◌/◌, ◌%◌, refl, sym, ap, subst, ◌∙◌, true, false, length}
use Rattle.std.proofs.Common.{get_or, Contains, Ok, Option, None, arith, ◌⊎◌, inl, inr, map}
use Rattle.std.specs.Prelude.{◌||◌}
use Rattle.std.proofs.lemmas.Bool.{cases_eq, eqb-true, or_parts}
use Rattle.tword.specs.Words.{most_neg, word_below}
use Rattle.tword.specs.Stores.{Store, place, word_at}
use Rattle.tword.specs.Touches.{word_place_break}
use Rattle.tword.specs.Actions.{run}
use Rattle.tcode.specs.declared.instruction.Instruction.{Instruction}
use Rattle.tcode.specs.Decoding.{decode}
use Rattle.tcpu.specs.declared.registers.Next.TheVariants.{Jumped}
use Rattle.tcpu.specs.Outcomes.{Outcome}
use Rattle.tproc.specs.Machine.{Control, Machine, claims_of, descheduled, workspace_of}
use Rattle.tplan.specs.declared.plan.Plan.{Plan}
use Rattle.tnet.specs.Rendezvous.{Configuration}
use Rattle.tprocesses.specs.Places.{Place, Name, WordAt, Sending}
use Rattle.tprocesses.specs.Values.{Value, Free, Saved, Context, Rests, word_in, unknown}
use Rattle.tprocesses.specs.Performing.{Performed}
use Rattle.tprocesses.specs.Touching.{Site, word_number, kept}
use Rattle.tprocesses.specs.Machine.{site_of}
use Rattle.tseen.specs.Words.{AreMarked, AreSavedWords, use_at}
use Rattle.tseen.specs.Steps.{IsCurrent, yields}
use Rattle.tseen.proofs.After.{State}
use Rattle.tseen.proofs.Spans.{word_placed}
use Rattle.tseen.proofs.Cells.{word_of, use_of, cell, Knows, Tells}
use Rattle.tseen.proofs.Written.{is_word_of}
use Rattle.tseen.proofs.Writing.{word_lies}
use Rattle.tseen.proofs.Finished.{is_flag_of, is_life_of, is_stand_of, HasMoved, StandsNow}
use Rattle.tseen.proofs.Completed.{is_own}
use Rattle.tseen.proofs.Own.{word_stays}
use Rattle.tseen.proofs.Stepped.{shown_node, there, Executed}
use Rattle.tseen.proofs.Saving.{below, no_word, IsSaved}
use Rattle.tseen.proofs.Joined.{who}
use Rattle.tseen.proofs.SavedThen.{HasSaved, saved_not_free, nothing_known, third_free, one_is, two_is, three_is}
use Rattle.tseen.proofs.SavedThen.{other_is, unfree_stays, used_now, whole_word, receives_still, no_successor}
use Rattle.tseen.proofs.SavedThen.{saved_each, is_new}
use Rattle.tseen.proofs.Staying.{unknown_two, marks_from}
use Rattle.tseen.proofs.Yielding.{made, behind, behind_there, word_before, link_saved, saved_words_of, cell_stays}
use Rattle.tseen.proofs.Yielding.{word_stays_after, size_after}

module _ (p : Plan) (c : Configuration) (s : State) (n : ℕ) (x : Name) (k : IsCurrent p c s n x) (i : Instruction)
    (decodes : run (decode k.node.machine.control.kind k.node.machine.control.registers.iptr) k.node.machine.store
    (claims_of k.node.machine.control) ≡ Ok (i, k.node.machine.store)) (pp : Performed Outcome) (t : State)
    (d : Executed p c s n x k i pp t) (jumps : d.next ≡ Jumped) (low : (there p c s n x k).level ≡ 1)
    (yields_now : yields k.node.machine.control ≡ true) (u v : State)
    (moved_on : HasMoved (site_of n k.plan) (there p c s n x k).context.wptr d.after.wptr t u)
    (saved : IsSaved (site_of n k.plan) (there p c s n x k).whole u v d.after.wptr kept)
    (resting : Context) (s' : State)
    (rests : StandsNow (site_of n k.plan) x (Rests resting) v s') where
  abbrev m : Control
  m = k.node.machine.control

  abbrev w : ℕ
  w = d.after.wptr

  abbrev site : Site
  site = site_of n k.plan

  abbrev link : ℕ
  link = word_number (word_below (behind p c s n x k i decodes pp t d jumps low yields_now u v moved_on saved) 2)

  abbrev now : Machine
  now = made p c s n x k i decodes pp t d jumps low yields_now u v moved_on saved

  pub before : (j : ℕ) → u (WordAt n j) ≡ t (WordAt n j)
  before = word_before p c s n x k i decodes pp t d jumps low yields_now u v moved_on saved

  -- what is neither a word nor of the process stays
  pub at : (q : Place) → is_own n x q ≡ false → is_word_of n q ≡ false → s' q ≡ s q
  at q h o =
      let parts : ((is_flag_of n q || is_life_of n q) ≡ false) × (is_stand_of x q ≡ false) = or_parts _ _ h in
      rests.others q parts.1 ∙ saved.set.rest q (no_word n w q o) ∙ moved_on.others q (or_parts _ _ parts.0).1
      ∙ d.on.keeps.others q o

  -- words
  abbrev pub words : HasSaved n k.plan s s' w
  words =
      record {
        whole = (there p c s n x k).whole;
        t = t;
        u = u;
        v = v;
        store = k.node.machine.store;
        store' = d.store';
        on = d.on;
        saved = saved;
        before = before;
        after = λ j. rests.others (WordAt n j) refl;
      }

  pub unfree : (j : ℕ) → (use_of s n j ≡ Free → ⊥) → s' (WordAt n j) ≡ s (WordAt n j)
  unfree = unfree_stays words

  pub used : (j : ℕ) → (use_of s' n j ≡ Saved) ⊎ (use_of s' n j ≡ use_of s n j)
  used = used_now words

  -- the memory is told
  pub tells_now : Tells s' n k.plan.memory now.store
  tells_now =
      record {
        length = size_after p c s n x k i decodes pp t d jumps low yields_now u v moved_on saved;
        words = λ j h. whole_word words j (d.on.tells.words j h);
        cells = λ j h. known_cell j h;
      }
    where
      as_before : (j : ℕ) → j < k.plan.memory → (word_of s' n (j / 4)).cells ≡ (word_of t n (j / 4)).cells
          → j / 4 ≢ below w 1 → j / 4 ≢ link → Knows (cell s' n j) (get_or now.store j None)
      as_before j h e a b =
          subst (λ (y : Option ℕ). Knows (cell s' n j) y)
          (sym (cell_stays p c s n x k i decodes pp t d jumps low yields_now u v moved_on saved j a b))
          (subst (λ (z : Store). Knows (get_or z (j % 4) None) (get_or d.store' j None)) (sym e)
          (d.on.tells.cells j h))

      link_saved_here : use_of s n link ≡ Saved
      link_saved_here = link_saved p c s n x k i decodes pp t d jumps low yields_now u v moved_on saved

      link_unknown : (word_of s' n link).cells ≡ unknown
      link_unknown =
          ap (λ (z : Value). (word_in z).cells) (unfree link (saved_not_free link_saved_here))
          ∙ unknown_two s n (behind p c s n x k i decodes pp t d jumps low yields_now u v moved_on saved)
          (saved_words_of p c s n x k i decodes pp t d jumps low yields_now u v moved_on saved
          (behind p c s n x k i decodes pp t d jumps low yields_now u v moved_on saved)
          (behind_there p c s n x k i decodes pp t d jumps low yields_now u v moved_on saved))

      known_cell : (j : ℕ) → j < k.plan.memory → Knows (cell s' n j) (get_or now.store j None)
      known_cell j h = by (cases_eq (j / 4) (below w 1)) (cases_eq (j / 4) (below w 2)) (cases_eq (j / 4) (below w 3))
          (cases_eq (j / 4) link)
        where
          by : (j / 4 ≡ below w 1) ⊎ (j / 4 ≡ below w 1 → ⊥) → (j / 4 ≡ below w 2) ⊎ (j / 4 ≡ below w 2 → ⊥)
              → (j / 4 ≡ below w 3) ⊎ (j / 4 ≡ below w 3 → ⊥) → (j / 4 ≡ link) ⊎ (j / 4 ≡ link → ⊥)
              → Knows (cell s' n j) (get_or now.store j None)
          by (inl e) b g f =
              nothing_known s' n j _
              (ap (λ z. (word_of s' n z).cells) e ∙ ap (λ (z : Value). (word_in z).cells) (one_is words))
          by (inr a) (inl e) g f =
              nothing_known s' n j _
              (ap (λ z. (word_of s' n z).cells) e ∙ ap (λ (z : Value). (word_in z).cells) (two_is words))
          by (inr a) (inr b) (inl e) (inl f) =
              absurd (saved_not_free link_saved_here
              (subst (λ z. use_of s n z ≡ Free) (sym e ∙ f) (third_free words)))
          by (inr a) (inr b) (inl e) (inr f) =
              as_before j h (ap (λ z. (word_of s' n z).cells) e ∙ ap (λ (z : Value). (word_in z).cells) (three_is words)
              ∙ ap (λ z. (word_of t n z).cells) (sym e)) a f
          by (inr a) (inr b) (inr g) (inl f) =
              nothing_known s' n j _ (ap (λ z. (word_of s' n z).cells) f ∙ link_unknown)
          by (inr a) (inr b) (inr g) (inr f) =
              as_before j h (ap (λ (z : Value). (word_in z).cells) (other_is words (j / 4) a b g)) a f

  -- a word in use as a channel or for an alternative stays
  pub lasting_stays : (a : ℕ) → word_place_break (length k.node.machine.store) a ≡ None
      → is_lasting (use_at s n a) ≡ true
      → word_at now.store a ≡ word_at k.node.machine.store a
  lasting_stays a h e =
      let size : length k.node.machine.store ≡ k.plan.memory = (shown_node p c s n x k).size in
      let placed : word_place_break site.size a ≡ None = subst (λ z. word_place_break z a ≡ None) size h in
      let l : (place a ≡ 4 * word_number a) × (most_neg ≤ a) × (4 * word_number a + 4 ≤ k.plan.memory) =
      word_lies site (there p c s n x k).whole a placed in
      let aligned : a % 4 ≡ 0 = eqb-true _ _ (word_placed site.size a placed).0 in
      word_stays_after p c s n x k i decodes pp t d jumps low yields_now u v moved_on saved a
      (record { above = l.1; within = omega (arith, l.0, l.1, l.2); aligned = aligned })
      (lasting_not_free e) (lasting_not_saved e)
      ∙ word_stays s n k.plan.memory k.node.machine.store d.store' a d.on.only size d.on.tells.length l.0 l.2
      (lasting_not_free e)

  -- the claims are marked
  old_saved : (a : ℕ) → Contains (descheduled m) a → AreSavedWords s n a
  old_saved = saved_words_of p c s n x k i decodes pp t d jumps low yields_now u v moved_on saved

  pub marks_now : AreMarked s' n (k.shows.sent n) now.control
  marks_now =
      marks_from s s' n (k.shows.sent n) (k.shows.sent n) m now.control
      (λ a h. saved_each words (descheduled m) old_saved a
      (who w m.high m.low (map (λ y. workspace_of y.process) m.waiting) 1 a h)) (λ l. refl)
      (receives_still words)
      (λ j. at (Sending n j) refl refl ∙ (shown_node p c s n x k).marks.outputs j)
      (λ j. no_successor words j ((shown_node p c s n x k).marks.no_successor j)) (shown_node p c s n x k).marks

  -- who runs is none of those that are queued or wait
  pub new_there : (a : ℕ) → Contains (descheduled m) a → a ≢ w
  new_there a h = is_new words a (old_saved a h)
