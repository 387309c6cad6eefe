-- A process takes its half of an internal channel: what its part of the step tells, and what it leaves.
use Rattle.tprocesses.specs.Values.{Awaiting}
use Rattle.tprocesses.specs.Values.{AwaitedBy}
use Rattle.std.proofs.Common.{◌≡◌, ◌≢◌, ℕ, ◌+◌, ◌*◌, ◌≤◌, ◌/◌, ◌%◌, refl, sym, ap, subst, ◌∙◌, Bool, true, false}
use Rattle.std.proofs.Common.{true≢false, length, get_or, Option, Some, None, ◌⊎◌, inl, inr, pos}
use Rattle.std.specs.Prelude.{◌==◌, is_some, slice_get, if◌then◌else◌}
use Rattle.std.proofs.lemmas.Bool.{eqb-true, cases_eq}
use Rattle.tword.specs.Stores.{Store}
use Rattle.tword.specs.declared.span.Span.{Span}
use Rattle.tword.specs.declared.breaks.Break.TheVariants.{ChannelMisuse}
use Rattle.tword.specs.Touches.{word_place_break}
use Rattle.tproc.specs.declared.channels.Side.{Side}
use Rattle.tproc.specs.Channels.{mode_of}
use Rattle.tproc.specs.Queues.{not_process}
use Rattle.tplan.specs.declared.plan.Plan.{Plan}
use Rattle.tplan.specs.declared.plan.NodePlan.{NodePlan}
use Rattle.tagents.specs.Walks.{deed_of, are_open, label_of, state_after}
use Rattle.tagents.specs.Agents.{Does}
use Rattle.tprocesses.specs.Places.{Place, Name, WordAt, Sending, Half, same_place}
use Rattle.tprocesses.specs.Values.{EnabledBy, Holder, Nobody, Choosing, TakenBy, Value, Word, Use, Free, Saved}
use Rattle.tprocesses.specs.Values.{Receiving, Engaged, Last, Spoilt, Context, Waits}
use Rattle.tprocesses.specs.Values.{IsWord, IsHalf, word_in, half_in, amount_in, unknown}
use Rattle.tprocesses.specs.Changes.{Put, Engage, apply, engaged, taken, known_word, used_word}
use Rattle.tprocesses.specs.Parts.{Part, Doing, Breaks, require, unless, walk_of}
use Rattle.tprocesses.specs.Touching.{Site, word_number, unsent, touch, save, forgotten}
use Rattle.tprocesses.specs.Standing.{forget}
use Rattle.tprocesses.specs.ChannelMessages.{is_nobody, takes_half}
use Rattle.tprocesses.specs.Scheduling.{successor_step, goes_on_after}
use Rattle.tprocesses.specs.Machine.{Successor, process_machine, step_of, site_of, at_site}
use Rattle.tprocesses.specs.Certified.{machine_of}
use Rattle.tseen.specs.AgentSteps.{NothingStops}
use Rattle.tseen.proofs.Ends.{unsent_then}
use Rattle.tseen.proofs.After.{State, changed, After, after_bind, after_require, after_unless}
use Rattle.tseen.proofs.Cells.{word_of, cell, Knows, IsWhole, Tells}
use Rattle.tseen.proofs.Touched.{IsTouched}
use Rattle.tseen.proofs.Written.{is_word_of, changed_there, changed_word, changed_else}
use Rattle.tseen.proofs.Writing.{IsSpanTouched, touch_then, AreWhole}
use Rattle.tseen.proofs.Finished.{is_stand_of, StandsNow, stands_then, place_itself}
use Rattle.tseen.proofs.Saving.{below, no_word, other_number, IsSaved, save_then}
use Rattle.tseen.proofs.Softened.{none_at}

-- a place is this half of a channel
abbrev pub is_half_of : (n channel : ℕ) → Side → Place → Bool
is_half_of n channel side q = same_place (Half n channel side) q

-- the step at a node that the plan has
pub at_planned : {A : Type 0} (p : Plan) (n : ℕ) (plan : NodePlan) (step : Site → Part A)
    → slice_get p.nodes n ≡ Some plan → at_site p n step ≡ step (site_of n plan)
at_planned p n plan step e = rw (e, at_site) refl

-- a word that is spoilt has an agent whose step stops
pub not_spoilt : (p : Plan) (plan : NodePlan) (n k : ℕ) (s : State) (w : Word) → slice_get p.nodes n ≡ Some plan
    → s (WordAt n k) ≡ IsWord w → w.used ≡ Spoilt → NothingStops p s → ⊥
not_spoilt p plan n k s w planned is spoilt none =
    let opens : are_open (process_machine p) (Successor n k) s ≡ true = rw (is, spoilt) refl in
    let does : Does (machine_of p) s (label_of (process_machine p) (Successor n k) s)
    (state_after (process_machine p) (deed_of (walk_of (step_of p (Successor n k))) s) s) = rw opens refl in
    true≢false (sym stops ∙ none (Successor n k) _ _ refl does)
  where
    stops : is_some (deed_of (walk_of (step_of p (Successor n k))) s).stops ≡ true
    stops =
        subst (λ (d : Doing). is_some (deed_of (walk_of d) s).stops ≡ true)
        (sym (at_planned p n plan (successor_step k) planned))
        (subst (λ (u : Use). is_some (deed_of (walk_of (goes_on_after (site_of n plan) k u)) s).stops ≡ true)
        (sym (ap (λ (v : Value). (word_in v).used) is ∙ spoilt)) refl)

engaged_four : (u : Use) (cells : Store) → length (engaged u cells).cells ≡ 4
engaged_four Free cells = by (known_word cells)
  where
    by : (v : Option ℕ) → length (taken v).cells ≡ 4
    by None = refl
    by (Some v) = of (v == not_process)
      where
        of : (b : Bool) → length (if b then used_word Engaged else used_word Spoilt).cells ≡ 4
        of true = refl
        of false = refl
engaged_four Saved cells = refl
engaged_four Receiving cells = refl
engaged_four Engaged cells = refl
engaged_four Choosing cells = refl
engaged_four Awaiting cells = refl
engaged_four (Last p) cells = refl
engaged_four Spoilt cells = refl

-- a word that was taken as a channel and is not spoilt
abbrev pub IsFound : Word → Type 0
IsFound w = ((w.used ≡ Free) × (known_word w.cells ≡ Some not_process)) ⊎ (w.used ≡ Engaged)

pub engaged_found : (w : Word) → ((engaged w.used w.cells).used ≡ Spoilt → ⊥)
    → IsFound w × (engaged w.used w.cells ≡ used_word Engaged)
engaged_found w h = by w.used refl h
  where
    free : w.used ≡ Free → (v : Option ℕ) → known_word w.cells ≡ v → ((taken v).used ≡ Spoilt → ⊥)
        → IsFound w × (taken v ≡ used_word Engaged)
    free e None f h = absurd (h refl)
    free e (Some v) f h = of (v == not_process) refl h
      where
        of : (b : Bool) → (v == not_process) ≡ b
            → ((if b then used_word Engaged else used_word Spoilt).used ≡ Spoilt → ⊥)
            → IsFound w × ((if b then used_word Engaged else used_word Spoilt) ≡ used_word Engaged)
        of true g h = (inl (e, f ∙ ap Some (eqb-true _ _ g)), refl)
        of false g h = absurd (h refl)

    by : (u : Use) → w.used ≡ u → ((engaged u w.cells).used ≡ Spoilt → ⊥)
        → IsFound w × (engaged u w.cells ≡ used_word Engaged)
    by Free e h = free e (known_word w.cells) refl h
    by Engaged e h = (inr e, refl)
    by Saved e h = absurd (h refl)
    by Choosing e h = absurd (h refl)
    by Awaiting e h = absurd (h refl)
    by Receiving e h = absurd (h refl)
    by (Last p) e h = absurd (h refl)
    by Spoilt e h = absurd (h refl)

module _ (site : Site) (whole : site.size % 4 ≡ 0) where
  abbrev n : ℕ
  n = site.number

  module _ (x : Name) (c : Context) (side : Side) (channel : ℕ) (buffer : Span) where
    abbrev k : ℕ
    k = word_number channel

    abbrev w : ℕ
    w = c.wptr

    -- the half is taken
    abbrev pub claimed : State → State
    claimed u = changed (Half n channel side) (Put (IsHalf (TakenBy (record { process = x; buffer = buffer })))) u

    -- the channel word is
    abbrev pub engaging : State → State
    engaging t = changed (WordAt n k) Engage t

    -- a process has taken its half, and waits
    pub record IsHalfTaken (u v : State) : Type 0 where
      pub placed : word_place_break site.size channel ≡ None
      pub empty : half_in (u (Half n channel side)) ≡ Nobody
      pub unsent : amount_in (u (Sending n k)) ≡ pos 0
      pub lowered : State
      pub saved : IsSaved site whole (claimed u) lowered w forgotten
      pub words : Store
      pub touched : IsSpanTouched (engaging lowered) n site.size (mode_of side) buffer words
      pub waits : StandsNow site x (Waits (forget c)) (engaging lowered) v

    -- words stay whole
    lowered_whole : (u t : State) → AreWhole site whole u → IsSaved site whole (claimed u) t w forgotten
        → AreWhole site whole t
    lowered_whole u t h s i l =
        by (cases_eq i (below w 1)) (cases_eq i (below w 2)) (cases_eq i (below w 3))
      where
        none_known : (j : ℕ) → t (WordAt n j) ≡ IsWord (record { cells = unknown; used = Saved })
            → IsWhole (t (WordAt n j))
        none_known j e = record { word = record { cells = unknown; used = Saved }; is = e; four = refl }

        by : (i ≡ below w 1) ⊎ (i ≡ below w 1 → ⊥) → (i ≡ below w 2) ⊎ (i ≡ below w 2 → ⊥)
            → (i ≡ below w 3) ⊎ (i ≡ below w 3 → ⊥) → IsWhole (t (WordAt n i))
        by (inl e) b d = subst (λ j. IsWhole (t (WordAt n j))) (sym e) (none_known (below w 1) s.set.one)
        by (inr a) (inl e) d = subst (λ j. IsWhole (t (WordAt n j))) (sym e) (none_known (below w 2) s.set.two)
        by (inr a) (inr b) (inl e) =
            subst (λ j. IsWhole (t (WordAt n j))) (sym e) (none_known (below w 3) s.set.three)
        by (inr a) (inr b) (inr d) =
            subst IsWhole (sym (s.set.rest (WordAt n i) (other_number n w i a b d))) (h i l)

    engaging_whole : (t : State) → AreWhole site whole t → AreWhole site whole (engaging t)
    engaging_whole t h i l = by (cases_eq k i)
      where
        of : IsWhole (t (WordAt n k)) → IsWhole (engaging t (WordAt n k))
        of g =
            record {
              word = engaged g.word.used g.word.cells;
              is = changed_there n k Engage t ∙ ap (apply Engage) g.is;
              four = engaged_four g.word.used g.word.cells;
            }

        by : (k ≡ i) ⊎ (k ≡ i → ⊥) → IsWhole (engaging t (WordAt n i))
        by (inl e) = subst (λ j. IsWhole (engaging t (WordAt n j))) e (of (subst (λ j. IsWhole (t (WordAt n j)))
            (sym e) (h i l)))
        by (inr e) = subst IsWhole (sym (changed_word n k Engage t i e)) (h i l)

    pub takes_half_then : Plan → (u : State) (Q : Unit {0} → State → Type 0) → AreWhole site whole u
        → ((v : State) → IsHalfTaken u v → Q tt v) → After (takes_half site x c side channel buffer) u Q
    takes_half_then p u Q h q =
        after_bind (unless (word_place_break site.size channel)) _ u Q
        (after_unless (word_place_break site.size channel) u _ (λ placed.
        after_bind (require (is_nobody (half_in (u (Half n channel side)))) (Breaks ChannelMisuse)) _ u Q
        (after_require (is_nobody (half_in (u (Half n channel side)))) (Breaks ChannelMisuse) u _ (λ empty.
        after_bind (unsent site k) _ (claimed u) Q (unsent_then site k (claimed u) _ (λ z.
        after_bind (save site w forgotten) _ (claimed u) Q (save_then site whole w forgotten (claimed u) _ (λ t saved.
        after_bind (touch site (mode_of side) buffer) _ (engaging t) Q
        (touch_then site whole (mode_of side) buffer (engaging t) _
        (engaging_whole t (lowered_whole u t h saved)) (λ words touched.
        stands_then site p x (Waits (forget c)) (engaging t) Q (λ v waits.
        q v (record {
          placed = placed;
          empty = is_empty (half_in (u (Half n channel side))) empty;
          unsent = z;
          lowered = t;
          saved = saved;
          words = words;
          touched = touched;
          waits = waits;
        }))))))))))))
      where
        is_empty : (h : Holder) → is_nobody h ≡ true → h ≡ Nobody
        is_empty Nobody e = refl
        is_empty (TakenBy r) e = absurd (true≢false (sym e))
        is_empty (EnabledBy y) e = absurd (true≢false (sym e))
        is_empty (AwaitedBy y) e = absurd (true≢false (sym e))

    -- what it leaves, where its channel word is not spoilt
    module _ (u v : State) (h : IsHalfTaken u v) (words : AreWhole site whole u)
        (inside : 4 * k + 4 ≤ site.size) (unspoilt : (y : Word) → v (WordAt n k) ≡ IsWord y → y.used ≡ Spoilt → ⊥) where
      abbrev t : State
      t = h.lowered

      word_now : (i : ℕ) → v (WordAt n i) ≡ engaging t (WordAt n i)
      word_now i = h.waits.others (WordAt n i) refl

      word_then : IsWhole (t (WordAt n k))
      word_then = lowered_whole u t words h.saved k inside

      engaged_now : v (WordAt n k) ≡ IsWord (engaged word_then.word.used word_then.word.cells)
      engaged_now = word_now k ∙ changed_there n k Engage t ∙ ap (apply Engage) word_then.is

      -- the channel word is none of the words below the workspace
      not_saved : t (WordAt n k) ≡ IsWord (record { cells = unknown; used = Saved }) → ⊥
      not_saved e =
          unspoilt (used_word Spoilt) (word_now k ∙ changed_there n k Engage t ∙ ap (apply Engage) e) refl

      pub apart_one : k ≢ below w 1
      apart_one e = not_saved (ap (λ i. t (WordAt n i)) e ∙ h.saved.set.one)

      pub apart_two : k ≢ below w 2
      apart_two e = not_saved (ap (λ i. t (WordAt n i)) e ∙ h.saved.set.two)

      pub apart_three : k ≢ below w 3
      apart_three e = not_saved (ap (λ i. t (WordAt n i)) e ∙ h.saved.set.three)

      word_before : t (WordAt n k) ≡ u (WordAt n k)
      word_before = h.saved.set.rest (WordAt n k) (other_number n w k apart_one apart_two apart_three)

      both : IsFound word_then.word × (engaged word_then.word.used word_then.word.cells ≡ used_word Engaged)
      both = engaged_found word_then.word (unspoilt _ engaged_now)

      -- it was a channel's, or named no process
      pub found : IsFound (word_of u n k)
      found = subst IsFound (ap word_in (sym word_then.is ∙ word_before)) both.0

      pub channel_now : v (WordAt n k) ≡ IsWord (used_word Engaged)
      channel_now = engaged_now ∙ ap IsWord both.1

      -- the words below the workspace
      pub one_now : v (WordAt n (below w 1)) ≡ IsWord (record { cells = unknown; used = Saved })
      one_now = word_now (below w 1) ∙ changed_word n k Engage t (below w 1) apart_one ∙ h.saved.set.one

      pub two_now : v (WordAt n (below w 2)) ≡ IsWord (record { cells = unknown; used = Saved })
      two_now = word_now (below w 2) ∙ changed_word n k Engage t (below w 2) apart_two ∙ h.saved.set.two

      pub three_now : v (WordAt n (below w 3)) ≡ IsWord (record { cells = unknown; used = Saved })
      three_now = word_now (below w 3) ∙ changed_word n k Engage t (below w 3) apart_three ∙ h.saved.set.three

      -- and each other one
      pub other_now : (i : ℕ) → i ≢ k → i ≢ below w 1 → i ≢ below w 2 → i ≢ below w 3
          → v (WordAt n i) ≡ u (WordAt n i)
      other_now i a b d e =
          word_now i ∙ changed_word n k Engage t i (λ f. a (sym f))
          ∙ h.saved.set.rest (WordAt n i) (other_number n w i b d e)

      -- what holds of each word: of the channel's, of those below the workspace, and of all others
      pub by_taken : (P : ℕ → Type 0) → P k → P (below w 1) → P (below w 2) → P (below w 3)
          → ((i : ℕ) → v (WordAt n i) ≡ u (WordAt n i) → i ≢ k → i ≢ below w 1 → i ≢ below w 2 → i ≢ below w 3 → P i)
          → (i : ℕ) → P i
      by_taken P channel one two three other i =
          by (cases_eq i k) (cases_eq i (below w 1)) (cases_eq i (below w 2)) (cases_eq i (below w 3))
        where
          by : (i ≡ k) ⊎ (i ≡ k → ⊥) → (i ≡ below w 1) ⊎ (i ≡ below w 1 → ⊥) → (i ≡ below w 2) ⊎ (i ≡ below w 2 → ⊥)
              → (i ≡ below w 3) ⊎ (i ≡ below w 3 → ⊥) → P i
          by (inl e) b d f = subst P (sym e) channel
          by (inr a) (inl e) d f = subst P (sym e) one
          by (inr a) (inr b) (inl e) f = subst P (sym e) two
          by (inr a) (inr b) (inr d) (inl e) = subst P (sym e) three
          by (inr a) (inr b) (inr d) (inr e) = other i (other_now i a b d e) a b d e

      -- the memory is told as before: no cell of these words is known
      pub tells_taken : (store : Store) → Tells u n site.size store → Tells v n site.size store
      tells_taken store tells =
          record {
            length = tells.length;
            words = λ i l. whole_now i (tells.words i l);
            cells = λ i l. known_cell (i / 4) i refl (tells.cells i l);
          }
        where
          set_to : (i : ℕ) (used : Use) → v (WordAt n i) ≡ IsWord (used_word used) → IsWhole (v (WordAt n i))
          set_to i used e = record { word = used_word used; is = e; four = refl }

          whole_now : (i : ℕ) → IsWhole (u (WordAt n i)) → IsWhole (v (WordAt n i))
          whole_now =
              by_taken (λ i. IsWhole (u (WordAt n i)) → IsWhole (v (WordAt n i)))
              (λ g. set_to k Engaged channel_now) (λ g. set_to (below w 1) Saved one_now)
              (λ g. set_to (below w 2) Saved two_now) (λ g. set_to (below w 3) Saved three_now)
              (λ i e a b d f g. subst IsWhole (sym e) g)

          nothing_known : (j : ℕ) (used : Use) → v (WordAt n j) ≡ IsWord (used_word used) → (i : ℕ) → i / 4 ≡ j
              → Knows (cell v n i) (get_or store i None)
          nothing_known j used e i f =
              subst (λ (z : Store). Knows (get_or z (i % 4) None) (get_or store i None))
              (sym (ap (λ a. (word_of v n a).cells) f ∙ ap (λ (z : Value). (word_in z).cells) e))
              (subst (λ (o : Option ℕ). Knows o (get_or store i None)) (sym (none_at (i % 4))) tt)

          known_cell : (j i : ℕ) → i / 4 ≡ j → Knows (cell u n i) (get_or store i None)
              → Knows (cell v n i) (get_or store i None)
          known_cell =
              by_taken (λ j. (i : ℕ) → i / 4 ≡ j → Knows (cell u n i) (get_or store i None)
              → Knows (cell v n i) (get_or store i None))
              (λ i f g. nothing_known k Engaged channel_now i f)
              (λ i f g. nothing_known (below w 1) Saved one_now i f)
              (λ i f g. nothing_known (below w 2) Saved two_now i f)
              (λ i f g. nothing_known (below w 3) Saved three_now i f)
              (λ j e a b d q i f g.
              subst (λ (z : Value). Knows (get_or (word_in z).cells (i % 4) None) (get_or store i None))
              (sym (ap (λ a. v (WordAt n a)) f ∙ e ∙ ap (λ a. u (WordAt n a)) (sym f))) g)

      -- the half is taken by the process
      pub half_now : Plan → v (Half n channel side)
          ≡ IsHalf (TakenBy (record { process = x; buffer = buffer }))
      half_now p =
          h.waits.others (Half n channel side) refl ∙ changed_else n k Engage t (Half n channel side) refl
          ∙ h.saved.set.rest (Half n channel side) (no_word n w (Half n channel side) refl)
          ∙ rw (place_itself p (Half n channel side)) refl

      -- all else stays
      pub stays : (q : Place) → is_word_of n q ≡ false → is_half_of n channel side q ≡ false → is_stand_of x q ≡ false
          → v q ≡ u q
      stays q word half stand =
          h.waits.others q stand ∙ changed_else n k Engage t q word ∙ h.saved.set.rest q (no_word n w q word)
          ∙ rw half refl

      -- the words of the buffer were free, and none of those above
      pub buffer_touched : (i : ℕ) → IsTouched (engaging t) n (mode_of side) i → IsTouched v n (mode_of side) i
      buffer_touched i g =
          record {
            free = ap (λ (z : Value). (word_in z).used) (word_now i) ∙ g.free;
            unsent = λ e. ap amount_in (h.waits.others (Sending n i) refl) ∙ g.unsent e;
          }
