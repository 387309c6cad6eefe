-- `alt` is seen.
use Rattle.tprocesses.specs.Places.{Sending}
use Rattle.tprocesses.specs.Values.{amount_in}
use Rattle.tprocesses.specs.Places.{Ports}
use Rattle.treduction.specs.Plain.{rank}
use Rattle.tprocesses.specs.Choosing.{has_port}
use Rattle.tprocesses.specs.Values.{ports_in}
use Rattle.tseen.proofs.Cells.{cell}
use Rattle.std.proofs.Common.{◌≡◌, ◌≢◌, ℕ, ◌+◌, ◌*◌, ◌/◌, ◌%◌, ◌<◌, ◌≤◌, refl, sym, ap, subst, ◌∙◌, Bool, true, false}
use Rattle.std.proofs.Common.{true≢false, length, Ok, arith, ◌⊎◌, inl, inr, Some, None, get_or}
use Rattle.std.proofs.lemmas.Bool.{cases_eq}
use Rattle.tword.specs.Words.{word_below}
use Rattle.tword.specs.Stores.{Store, with_word}
use Rattle.tword.specs.Actions.{run_from}
use Rattle.tword.specs.Touches.{Writes, word_break, word_place_break}
use Rattle.tcode.specs.declared.instruction.Operation.TheVariants.{Alt}
use Rattle.tcpu.specs.declared.registers.Registers.{Registers}
use Rattle.tproc.specs.declared.ran.Ran.TheVariants as ran
use Rattle.tproc.specs.Channels.{enabling}
use Rattle.tproc.specs.Machine.{Control, claims_of}
use Rattle.tproc.specs.Scheduler.{operation_step}
use Rattle.tproc.proofs.WordsApart.{LiesWord, word_set}
use Rattle.tplan.specs.declared.plan.Plan.{Plan}
use Rattle.tnet.specs.Rendezvous.{Configuration}
use Rattle.tprocesses.specs.Places.{Name, WordAt}
use Rattle.tprocesses.specs.Values.{Value, Use, Free, Choosing, Context, Runs, IsWord, word_in, stand_in}
use Rattle.tprocesses.specs.Changes.{Change, Put, used_word}
use Rattle.tprocesses.specs.Touching.{Site, touch_word_at}
use Rattle.tprocesses.specs.Choosing.{begins_choice, with_choice}
use Rattle.tprocesses.specs.Machine.{site_of}
use Rattle.tseen.specs.Alternatives.{IsSeenAtOnce}
use Rattle.tseen.specs.Choices.{Alternative, alternative_of, alternative_at, enables, HasChoice, state_use}
use Rattle.tseen.specs.Shown.{ShowsNode}
use Rattle.tseen.specs.Steps.{IsCurrent, LeadsTo}
use Rattle.tseen.proofs.After.{State, After, changed, after_bind, after_step}
use Rattle.tseen.proofs.AtOperation.{IsAtOperation, registers_at, context_at, control_at, operation_then}
use Rattle.tseen.proofs.Cells.{word_of, use_of, Knows, IsWhole, Tells}
use Rattle.tseen.proofs.Choices.{no_choice, alternative_none}
use Rattle.tseen.proofs.ChoicePlain.{IsPlainChoice, is_for_choice, plain_gone}
use Rattle.tseen.proofs.ChoiceShown.{gone_leads}
use Rattle.tseen.proofs.Finished.{StandsNow, stands_then}
use Rattle.tseen.proofs.Performed.{word_passes}
use Rattle.tseen.proofs.Running.{RunsThere}
use Rattle.tseen.proofs.Saving.{below}
use Rattle.tseen.proofs.SavedThen.{nothing_known}
use Rattle.tseen.proofs.SetUnknown.{set_unknown, touched_lies, tells_alike}
use Rattle.tseen.proofs.Stepped.{shown_node, there}
use Rattle.tseen.proofs.Stored.{permits_on}
use Rattle.tseen.proofs.Writing.{IsWordTouched, touch_word_at_then}
use Rattle.tseen.proofs.Written.{changed_there, changed_word, changed_else}
use Rattle.tseen.proofs.Yielding.{other_cell_stays}

-- a word of which nothing is known tells of any
pub tells_unknown : (s : State) (n j size : ℕ) (store : Store) (used : Use) → Tells s n size store
    → Tells (changed (WordAt n j) (Put (IsWord (used_word used))) s) n size store
tells_unknown s n j size store used tells =
    record {
      length = tells.length;
      words = λ i h. word i h (cases_eq j i);
      cells = λ i h. cell_is i h (cases_eq j (i / 4));
    }
  where
    c : Change
    c = Put (IsWord (used_word used))

    t : State
    t = changed (WordAt n j) c s

    word : (i : ℕ) → 4 * i + 4 ≤ size → (j ≡ i) ⊎ (j ≡ i → ⊥) → IsWhole (t (WordAt n i))
    word i h (inl e) =
        subst (λ a. IsWhole (t (WordAt n a))) e
        (record { word = used_word used; is = changed_there n j c s; four = refl })
    word i h (inr e) = subst IsWhole (sym (changed_word n j c s i e)) (tells.words i h)

    cell_is : (i : ℕ) → i < size → (j ≡ i / 4) ⊎ (j ≡ i / 4 → ⊥) → Knows (cell t n i) (get_or store i None)
    cell_is i h (inl e) =
        nothing_known t n i (get_or store i None)
        (ap (λ a. (word_of t n a).cells) (sym e) ∙ ap (λ (v : Value). (word_in v).cells) (changed_there n j c s))
    cell_is i h (inr e) =
        subst (λ (v : Value). Knows (get_or (word_in v).cells (i % 4) None) (get_or store i None))
        (sym (changed_word n j c s (i / 4) e)) (tells.cells i h)

module _ (p : Plan) (c : Configuration) (s : State) (n : ℕ) (x : Name) (k : IsCurrent p c s n x) where
  abbrev m : Control
  m = k.node.machine.control

  abbrev store : Store
  store = k.node.machine.store

  abbrev running : RunsThere s n k.plan k.node x
  running = there p c s n x k

  abbrev shown : ShowsNode s n k.plan (k.shows.named n) (k.shows.sent n) k.node
  shown = shown_node p c s n x k

  abbrev site : Site
  site = site_of n k.plan

  abbrev w : ℕ
  w = m.registers.wptr

  abbrev address : ℕ
  address = word_below w 3

  module _ (u : State) (a : IsAtOperation p c s n x k Alt u) where
    abbrev context : Context
    context = context_at p c s n x k a.size

    abbrev after : Registers
    after = registers_at p c s n x k a.size

    abbrev count : ℕ
    count = (control_at p c s n x k Alt a.size).count

    abbrev d : Context
    d = with_choice false context

    abbrev last : Store
    last = with_word store address enabling

    abbrev put : State
    put = changed (WordAt n (below w 3)) (Put (IsWord (used_word Choosing))) u

    module _ (t : IsWordTouched site running.whole u Writes address) (s' : State)
        (now : StandsNow site x (Runs d) put s') where
      lies : LiesWord (length store) address
      lies =
          subst (λ z. LiesWord z address) (sym shown.size)
          (touched_lies site running.whole u Writes address t)

      was_free : use_of s n (below w 3) ≡ Free
      was_free = sym (a.on.keeps.uses (below w 3)) ∙ t.touched.free

      word_now : (j : ℕ) → s' (WordAt n j) ≡ put (WordAt n j)
      word_now j = now.others (WordAt n j) refl

      used_there : use_of s' n (below w 3) ≡ Choosing
      used_there =
          ap (λ (v : Value). (word_in v).used) (word_now (below w 3)
          ∙ changed_there n (below w 3) (Put (IsWord (used_word Choosing))) u)

      other_word_now : (j : ℕ) → (below w 3 ≡ j → ⊥) → s' (WordAt n j) ≡ u (WordAt n j)
      other_word_now j e = word_now j ∙ changed_word n (below w 3) (Put (IsWord (used_word Choosing))) u j e

      tells_now : Tells s' n k.plan.memory last
      tells_now =
          tells_alike put s' n k.plan.memory last word_now
          (set_unknown put n k.plan.memory store address enabling
          (tells_unknown u n (below w 3) k.plan.memory store Choosing a.on.tells)
          (touched_lies site running.whole u Writes address t)
          (ap (λ (v : Value). (word_in v).cells)
          (changed_there n (below w 3) (Put (IsWord (used_word Choosing))) u)))

      no_alternative : alternative_at s n x ≡ None
      no_alternative =
          ap (λ (v : Value). alternative_of (stand_in v)) running.stood
          ∙ alternative_none true false running.context
          (no_choice s n m.links store x running.context shown.choices running.home
          running.stood (subst (λ z. use_of s n (below z 3) ≡ Free) (sym running.registers.wptr) was_free))

      none_some : {b : Alternative} → None ≡ Some b → ⊥
      none_some e = cc

      no_port : (e : ℕ) → enables s n x e ≡ true → ⊥
      no_port e h = (let own = shown.choices.owner x e running.home h in none_some (sym no_alternative ∙ own.1))

      abbrev new : Alternative
      new = record { skips = false; wptr = w; priority = running.context.priority; runs = true; waits = false }

      is_new : (b : Alternative) → alternative_at s' n x ≡ Some b → b ≡ new
      is_new b e = one_is (sym e ∙ ap (λ (v : Value). alternative_of (stand_in v)) now.is)
        where
          one_is : {b b' : Alternative} → Some b ≡ Some b' → b ≡ b'
          one_is g = cc

      new_choice : HasChoice s' n m.links last x new
      new_choice =
          record {
            small = (
              subst (λ z. z < 2) (sym running.registers.priority) running.small,
              k.steady.placed.words.wptr,
            );
            placed = subst (λ z. word_place_break z address ≡ None) (sym tells_now.length) t.placed;
            used = used_there;
            unseen = ap (λ (v : Value). (word_in v).cells) (word_now (below w 3)
                ∙ changed_there n (below w 3) (Put (IsWord (used_word Choosing))) u);
            unsent = ap amount_in (now.others (Sending n (below w 3)) refl
                ∙ changed_else n (below w 3) (Put (IsWord (used_word Choosing))) u (Sending n (below w 3)) refl)
                ∙ t.touched.unsent refl;
            state = inr (
              word_set store address enabling lies (omega arith),
              (
                refl,
                λ e h. absurd (no_port e
                    (kept e h)),
              ),
            );
            unready = λ e. absurd (true≢false (sym e));
          }
        where
          kept : (e : ℕ) → enables s' n x e ≡ true → enables s n x e ≡ true
          kept e h =
              sym (ap (λ (v : Value). has_port e (ports_in v))
              (now.others (Ports x) refl ∙ a.on.keeps.others (Ports x) refl)) ∙ h

      free_not_state : (y : Name) (b : Alternative) → HasChoice s n m.links store y b → below b.wptr 3 ≢ below w 3
      free_not_state y b it e = by b.runs (sym it.used ∙ ap (use_of s n) e ∙ was_free)
        where
          by : (r : Bool) → state_use r ≡ Free → ⊥
          by true f = cc
          by false f = cc

      plain : IsPlainChoice p c s n x k s' after last d
      plain =
          record {
            tells = tells_now;
            stands = now.is;
            knows = record {
              priority = running.registers.priority;
              wptr = refl;
              iptr = refl;
              a = running.registers.a;
              b = running.registers.b;
              c = running.registers.c;
              nothing_lent = running.registers.nothing_lent;
            };
            same_wptr = refl;
            same_error = refl;
            same_halting = refl;
            others = λ q e f. now.others q f
                ∙ changed_else n (below w 3) (Put (IsWord (used_word Choosing))) u q e ∙ a.on.keeps.others q e;
            words = λ j. words j (cases_eq (below w 3) j);
            only = λ i h. other_cell_stays store address enabling i lies
                (λ e. true≢false (sym (ap is_for_choice (ap (use_of s n) e ∙ was_free)) ∙ h));
            states = λ j e f. other_word_now j (λ h. f (sym h)) ∙ a.on.keeps.kept j (λ h. choosing_free (sym e ∙ h));
            state_cells = λ i e f. other_cell_stays store address enabling i lies f;
            own_choice = λ b e. subst (HasChoice s' n m.links last x) (sym (is_new b e)) new_choice;
            own_apart = λ y b f home is same b' e.
                free_not_state y b (shown.choices.choices y b home is) (ap (λ z. below z 3) same);
            own_word = λ y b f home is it. free_not_state y b it;
            own_keeps = λ e h. absurd (no_port e h);
          }
        where
          choosing_free : Choosing ≡ Free → ⊥
          choosing_free e = cc

          words : (j : ℕ) → (below w 3 ≡ j) ⊎ (below w 3 ≡ j → ⊥) → (s' (WordAt n j) ≡ s (WordAt n j))
              ⊎ ((is_for_choice (use_of s n j) ≡ true) × (is_for_choice (use_of s' n j) ≡ true))
          words j (inl e) =
              inr (subst (λ i. (is_for_choice (use_of s n i) ≡ true) × (is_for_choice (use_of s' n i) ≡ true)) e
              (ap is_for_choice was_free, ap is_for_choice used_there))
          words j (inr e) = by (is_for_choice (use_of s n j)) refl
            where
              by : (b : Bool) → is_for_choice (use_of s n j) ≡ b → (s' (WordAt n j) ≡ s (WordAt n j))
                  ⊎ ((is_for_choice (use_of s n j) ≡ true) × (is_for_choice (use_of s' n j) ≡ true))
              by true f =
                  inr (
                    f,
                    ap is_for_choice (ap (λ (v : Value). (word_in v).used) (other_word_now j e)
                        ∙ a.on.keeps.uses j) ∙ f,
                  )
              by false f =
                  inl (other_word_now j e
                  ∙ a.on.keeps.kept j (λ h. true≢false (sym (ap is_for_choice h) ∙ f)))

      passes : word_break (length store) (claims_of m) Writes address ≡ None
      passes =
          subst (λ z. word_break z (claims_of m) Writes address ≡ None) (sym shown.size)
          (word_passes site running.whole (claims_of m) u Writes address
          (permits_on s u n (claims_of m) a.on.keeps running.permits) t)

      runs : run_from (operation_step Alt (rank running.level) (control_at p c s n x k Alt a.size))
          store (claims_of m) store
          ≡ Ok ((record m { registers = after; count = count }, ran.Instruction), last)
      unfolding operation_step
      runs = rw passes refl

      alt_leads : LeadsTo p c n s'
      alt_leads =
          gone_leads p c s n x k s' after count m.links last d (plain_gone p c s n x k s' after count last d plain)
          (a.steps (record m { registers = after; count = count }) last runs)

    alt_then : After (begins_choice site x context) u (λ _ z. LeadsTo p c n z)
    alt_then =
        after_bind (touch_word_at site Writes address) _ u (λ _ z. LeadsTo p c n z)
        (touch_word_at_then site running.whole Writes address u _ (λ t.
        stands_then site p x (Runs d) put (λ _ z. LeadsTo p c n z) (λ s' now. alt_leads t s' now)))

pub alts_are_seen : IsSeenAtOnce Alt
alts_are_seen p c s s' n x k next makes none =
    after_step p x s s' (λ _ z. LeadsTo p c n z) makes
    (operation_then p c s n x k Alt (λ _ z. LeadsTo p c n z) next (λ u a. alt_then p c s n x k u a))
