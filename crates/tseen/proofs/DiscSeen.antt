-- `disc` is seen.
use Rattle.tprocesses.specs.Places.{Sending}
use Rattle.tprocesses.specs.Values.{amount_in}
use Rattle.tproc.specs.Steps.{step}
use Rattle.std.specs.Prelude.{◌&&◌}
use Rattle.std.proofs.Common.{◌≡◌, ℕ, ◌+◌, ◌*◌, ◌/◌, ◌≤◌, refl, sym, ap, subst, ◌∙◌, Bool, true, false}
use Rattle.std.proofs.Common.{true≢false, length, Ok, arith, ◌⊎◌, inl, inr, Some, None, get_or}
use Rattle.std.specs.Prelude.{◌==◌, if◌then◌else◌}
use Rattle.std.proofs.lemmas.Bool.{cases_eq}
use Rattle.tword.specs.Words.{word_below, most_neg}
use Rattle.tword.specs.Stores.{Store, place, word_at, with_word}
use Rattle.tword.specs.Touches.{Writes, word_place_break}
use Rattle.tcode.specs.declared.instruction.Operation.TheVariants.{Disc}
use Rattle.tcpu.specs.Outcomes.{all_to, flag}
use Rattle.tcpu.specs.declared.registers.Registers.{Registers}
use Rattle.tproc.specs.declared.channels.Side.TheVariants.{Input, Output}
use Rattle.tproc.specs.declared.ran.Ran.TheVariants as ran
use Rattle.tproc.specs.Channels.{ready}
use Rattle.tproc.specs.Machine.{Control}
use Rattle.tproc.specs.Queues.{not_process}
use Rattle.tproc.proofs.WordsApart.{LiesWord, length-with_word}
use Rattle.tplan.specs.declared.plan.Plan.{Plan}
use Rattle.tnet.specs.Rendezvous.{Configuration}
use Rattle.tprocesses.specs.Places.{Place, Name, WordAt, Ports, Half}
use Rattle.tprocesses.specs.Values.{Value, Free, Engaged, Choosing, Choice, Context, Runs, IsWord, IsHalf}
use Rattle.tprocesses.specs.Values.{ArePorts, Nobody, TakenBy, Request, word_in, stand_in, ports_in}
use Rattle.tprocesses.specs.Changes.{Change, Put, free_word}
use Rattle.tprocesses.specs.Touching.{Site, word_number}
use Rattle.tprocesses.specs.Choosing.{answers, has_port, without_port}
use Rattle.tprocesses.specs.Machine.{site_of}
use Rattle.tseen.specs.Choices.{Alternative, alternative_of, alternative_at, enabler, enabler_at, is_sent}
use Rattle.tseen.specs.Choices.{HasChoice, IsEnabled, IsReady, IsUnready, unready_word}
use Rattle.tseen.specs.Shown.{ShowsNode}
use Rattle.tseen.specs.Steps.{IsCurrent, LeadsTo}
use Rattle.tseen.proofs.After.{State, changed}
use Rattle.tseen.proofs.AtOperation.{IsAtOperation, registers_at, context_at, control_at}
use Rattle.tseen.proofs.Cells.{use_of, Tells}
use Rattle.tseen.proofs.Choices.{alternative_with}
use Rattle.tseen.proofs.ChoicePlain.{is_for_choice}
use Rattle.tseen.proofs.PortChanged.{IsPortChange, is_port_of, port_gone}
use Rattle.tseen.proofs.ChoiceShown.{gone, is_open, gone_leads}
use Rattle.tseen.proofs.Finished.{is_stand_of, StandsNow, place_itself}
use Rattle.tseen.proofs.OwnChoice.{own, has, lies as state_lies, no_other, other_word as other_state}
use Rattle.tseen.proofs.Ported.{without_has, has_without}
use Rattle.tseen.proofs.QueueLinks.{word_alike}
use Rattle.tseen.proofs.Running.{RunsThere}
use Rattle.tseen.proofs.Saving.{below}
use Rattle.tseen.proofs.Selecting.{with_offset, is_chosen}
use Rattle.tseen.proofs.SetUnknown.{tells_alike, word_put, touched_lies}
use Rattle.tseen.proofs.Stepped.{shown_node, there}
use Rattle.tseen.proofs.Writing.{IsWordTouched, word_lies}
use Rattle.tseen.proofs.Written.{is_word_of, changed_there, changed_word, changed_else}
use Rattle.tseen.proofs.Yielding.{other_cell_stays}

module _ (p : Plan) (c : Configuration) (s : State) (n : ℕ) (x : Name) (k : IsCurrent p c s n x) where
  abbrev m : Control
  m = k.node.machine.control

  abbrev store : Store
  store = k.node.machine.store

  abbrev running : RunsThere s n k.plan k.node x
  running = there p c s n x k

  abbrev shown : ShowsNode s n k.plan (k.shows.named n) (k.shows.sent n) k.node
  shown = shown_node p c s n x k

  abbrev site : Site
  site = site_of n k.plan

  abbrev w : ℕ
  w = m.registers.wptr

  abbrev address : ℕ
  address = word_below w 3

  abbrev channel : ℕ
  channel = m.registers.c

  abbrev j : ℕ
  j = word_number channel

  -- the state and the store where the channel was disabled
  abbrev pub dropped : (sent : Bool) → State → State
  dropped sent u =
      changed (Ports x) (Put (ArePorts (without_port channel (ports_in (u (Ports x))))))
      (if sent then changed (Half n channel Input) (Put (IsHalf Nobody)) u
      else changed (WordAt n j) (Put (IsWord (free_word not_process)))
      (changed (Half n channel Input) (Put (IsHalf Nobody)) u))

  abbrev pub dropped_store : (sent : Bool) → Store
  dropped_store sent = if sent then store else with_word store channel not_process

  module _ (u : State) (a : IsAtOperation p c s n x k Disc u) (enabled : enabler_at s n channel ≡ Some x) where
    port : IsEnabled s n store channel x
    port = shown.choices.enabled channel x enabled

    -- the channel word
    lies_there : (place channel ≡ 4 * j) × (most_neg ≤ channel) × (4 * j + 4 ≤ k.plan.memory)
    lies_there =
        word_lies site running.whole channel (subst (λ z. word_place_break z channel ≡ None) shown.size port.placed)

    lies_channel : LiesWord (length store) channel
    lies_channel =
        record {
          above = lies_there.1;
          within = omega (arith, lies_there.0, lies_there.2, shown.size);
          aligned = omega (arith, lies_there.0, lies_there.1);
        }

    pub tells_dropped : (b : Bool) → Tells (dropped b u) n k.plan.memory (dropped_store b)
    tells_dropped true = tells_alike u (dropped true u) n k.plan.memory store (λ i. refl) a.on.tells
    tells_dropped false =
        tells_alike (changed (WordAt n j) (Put (IsWord (free_word not_process)))
        (changed (Half n channel Input) (Put (IsHalf Nobody)) u)) (dropped false u) n k.plan.memory
        (with_word store channel not_process) (λ i. refl)
        (word_put (changed (Half n channel Input) (Put (IsHalf Nobody)) u) n k.plan.memory store channel not_process
        Free (tells_alike u (changed (Half n channel Input) (Put (IsHalf Nobody)) u) n k.plan.memory store (λ i. refl)
        a.on.tells) (subst (λ z. LiesWord z channel) shown.size lies_channel))

    module _ (choice : Choice) (is : running.context.choice ≡ Some choice) (skips : choice.skips ≡ true) (sent : Bool)
        (sent_now : is_sent s n channel ≡ sent) (t : IsWordTouched site running.whole (dropped sent u) Writes w) where
      abbrev pub chosen : Bool
      chosen = is_chosen sent (dropped_store sent) w

      abbrev pub after : Registers
      after = all_to (flag chosen) (registers_at p c s n x k a.size)

      abbrev pub count : ℕ
      count = (control_at p c s n x k Disc a.size).count

      abbrev context : Context
      context = context_at p c s n x k a.size

      abbrev pub d : Context
      d = answers chosen context

      abbrev offset : ℕ
      offset = m.registers.a

      abbrev pub last : Store
      last = if chosen then with_word (dropped_store sent) w offset else dropped_store sent

      abbrev old : Alternative
      old = own p c s n x k choice is

      it : HasChoice s n m.links store x old
      it = has p c s n x k choice is

      engaged_free : Engaged ≡ Free → ⊥
      engaged_free e = cc

      choosing_free : Choosing ≡ Free → ⊥
      choosing_free e = cc

      choosing_engaged : Choosing ≡ Engaged → ⊥
      choosing_engaged e = cc

      lies_own : LiesWord (length store) w
      lies_own = subst (λ z. LiesWord z w) (sym shown.size)
          (touched_lies site running.whole (dropped sent u) Writes w t)

      -- a word where the channel was disabled
      dropped_word : (b : Bool) (i : ℕ) → (j ≡ i → ⊥) → dropped b u (WordAt n i) ≡ u (WordAt n i)
      dropped_word true i h = refl
      dropped_word false i h =
          changed_word n j (Put (IsWord (free_word not_process)))
          (changed (Half n channel Input) (Put (IsHalf Nobody)) u)
          i h

      was_free : (j ≡ word_number w → ⊥) → use_of s n (word_number w) ≡ Free
      was_free h =
          sym (a.on.keeps.uses (word_number w))
          ∙ ap (λ (v : Value). (word_in v).used) (sym (dropped_word sent (word_number w) h)) ∙ t.touched.free

      -- where the guard is chosen the word at the workspace is another one
      apart_chosen : (b : Bool) → sent ≡ b → is_chosen b (dropped_store b) w ≡ true → j ≡ word_number w → ⊥
      apart_chosen false e f h = absurd (true≢false (sym f))
      apart_chosen true e f h =
          engaged_free (sym port.engaged ∙ sym (a.on.keeps.uses j)
          ∙ ap (λ b. use_of (dropped b u) n j) (sym e) ∙ ap (use_of (dropped sent u) n) h ∙ t.touched.free)

      state_apart : j ≡ below w 3 → ⊥
      state_apart h = choosing_engaged (sym it.used ∙ ap (use_of s n) (sym h) ∙ port.engaged)

      own_state_apart : word_number w ≡ below w 3 → ⊥
      own_state_apart h =
          choosing_free (sym it.used ∙ ap (use_of s n) (sym h)
          ∙ was_free (λ e. state_apart (e ∙ h)))

      dropped_size : (b : Bool) → length (dropped_store b) ≡ length store
      dropped_size true = refl
      dropped_size false = length-with_word store channel not_process 0 lies_channel

      dropped_cell : (b : Bool) (i : ℕ) → (j ≡ i / 4 → ⊥) → get_or (dropped_store b) i None ≡ get_or store i None
      dropped_cell true i h = refl
      dropped_cell false i h = other_cell_stays store channel not_process i lies_channel (λ e. h (sym e))

      -- a cell of another word than the two
      other_cell : (i : ℕ) → (j ≡ i / 4 → ⊥) → (word_number w ≡ i / 4 → ⊥) → get_or last i None ≡ get_or store i None
      other_cell i h e = by chosen
        where
          by : (b : Bool) → get_or (if b then with_word (dropped_store sent) w offset else dropped_store sent) i None
              ≡ get_or store i None
          by true =
              other_cell_stays (dropped_store sent) w offset i
              (subst (λ z. LiesWord z w) (sym (dropped_size sent)) lies_own) (λ f. e (sym f)) ∙ dropped_cell sent i h
          by false = dropped_cell sent i h

      module _ (s' : State) (now : StandsNow site x (Runs d) (with_offset chosen n w offset (dropped sent u)) s') where
        put : Change
        put = Put (IsWord (free_word offset))

        offset_word : (b : Bool) (i : ℕ) → (word_number w ≡ i → ⊥)
            → with_offset b n w offset (dropped sent u) (WordAt n i) ≡ dropped sent u (WordAt n i)
        offset_word true i h = changed_word n (word_number w) (Put (IsWord (free_word offset))) (dropped sent u) i h
        offset_word false i h = refl

        word_now : (i : ℕ) → (j ≡ i → ⊥) → (word_number w ≡ i → ⊥) → s' (WordAt n i) ≡ u (WordAt n i)
        word_now i h e = now.others (WordAt n i) refl ∙ offset_word chosen i e ∙ dropped_word sent i h

        used_own : use_of s' n (word_number w) ≡ Free
        used_own = ap (λ (v : Value). (word_in v).used) (now.others (WordAt n (word_number w)) refl) ∙ by chosen
          where
            by : (b : Bool) → use_of (with_offset b n w offset (dropped sent u)) n (word_number w) ≡ Free
            by true =
                ap (λ (v : Value). (word_in v).used)
                (changed_there n (word_number w) (Put (IsWord (free_word offset))) (dropped sent u))
            by false = t.touched.free

        -- the channel word afterwards
        used_channel : use_of s' n j ≡ use_of (dropped sent u) n j
        used_channel =
            ap (λ (v : Value). (word_in v).used) (now.others (WordAt n j) refl) ∙ by chosen refl
          where
            by : (b : Bool) → chosen ≡ b
                → use_of (with_offset b n w offset (dropped sent u)) n j ≡ use_of (dropped sent u) n j
            by true e =
                ap (λ (v : Value). (word_in v).used)
                (offset_word true j (λ h. apart_chosen sent refl e (sym h)))
            by false e = refl

        used_sent : (b : Bool) → use_of (dropped b u) n j ≡ (if b then Engaged else Free)
        used_sent true = a.on.keeps.uses j ∙ port.engaged
        used_sent false =
            ap (λ (v : Value). (word_in v).used) (changed_there n j (Put (IsWord (free_word not_process)))
            (changed (Half n channel Input) (Put (IsHalf Nobody)) u))

        and_false : (b e : Bool) → (b && e) ≡ false → (b && e && true) ≡ false
        and_false true true h = h
        and_false true false h = refl
        and_false false e h = refl

        and_output : (b e : Bool) → (b && e && false) ≡ false
        and_output true true = refl
        and_output true false = refl
        and_output false e = refl

        half_dropped : (q : Place) → is_word_of n q ≡ false → is_port_of n x channel q ≡ false
            → changed (Half n channel Input) (Put (IsHalf Nobody)) u q ≡ u q
        half_dropped (Half e i Input) h f = rw (and_false (n == e) (channel == i) f) refl
        half_dropped (Half e i Output) h f = rw (and_output (n == e) (channel == i)) refl
        half_dropped q h f = refl

        dropped_place : (b : Bool) (q : Place) → is_word_of n q ≡ false → is_port_of n x channel q ≡ false
            → dropped b u q ≡ u q
        dropped_place b (Ports y) h f = rw f (by b)
          where
            by : (b : Bool) → (if b then changed (Half n channel Input) (Put (IsHalf Nobody)) u
                else changed (WordAt n j) (Put (IsWord (free_word not_process)))
                (changed (Half n channel Input) (Put (IsHalf Nobody)) u)) (Ports y) ≡ u (Ports y)
            by true = refl
            by false = refl
        dropped_place true q h f = half_dropped q h f
        dropped_place false q h f =
            changed_else n j (Put (IsWord (free_word not_process)))
            (changed (Half n channel Input) (Put (IsHalf Nobody)) u) q h
            ∙ half_dropped q h f

        offset_place : (b : Bool) (q : Place) → is_word_of n q ≡ false
            → with_offset b n w offset (dropped sent u) q ≡ dropped sent u q
        offset_place true q h = changed_else n (word_number w) (Put (IsWord (free_word offset))) (dropped sent u) q h
        offset_place false q h = refl

        other_place : (q : Place) → is_word_of n q ≡ false → is_stand_of x q ≡ false → is_port_of n x channel q ≡ false
            → s' q ≡ s q
        other_place q h e f =
            now.others q e ∙ offset_place chosen q h ∙ dropped_place sent q h f ∙ a.on.keeps.others q h

        half_now : s' (Half n channel Input) ≡ IsHalf Nobody
        half_now =
            now.others (Half n channel Input) refl ∙ offset_place chosen (Half n channel Input) refl ∙ by sent
          where
            by : (b : Bool) → dropped b u (Half n channel Input) ≡ IsHalf Nobody
            by true = rw (place_itself p (Half n channel Input)) refl
            by false = rw (place_itself p (Half n channel Input)) refl

        ports_now : ports_in (s' (Ports x)) ≡ without_port channel (ports_in (s (Ports x)))
        ports_now =
            ap ports_in (now.others (Ports x) refl ∙ offset_place chosen (Ports x) refl)
            ∙ rw (place_itself p (Ports x)) (ap (λ (v : Value). without_port channel (ports_in v))
            (a.on.keeps.others (Ports x) refl))

        tells_now : Tells s' n k.plan.memory last
        tells_now =
            tells_alike (with_offset chosen n w offset (dropped sent u)) s' n k.plan.memory last
            (λ i. now.others (WordAt n i) refl) (by chosen)
          where
            by : (b : Bool) → Tells (with_offset b n w offset (dropped sent u)) n k.plan.memory
                (if b then with_word (dropped_store sent) w offset else dropped_store sent)
            by true =
                word_put (dropped sent u) n k.plan.memory (dropped_store sent) w offset Free (tells_dropped sent)
                (touched_lies site running.whole (dropped sent u) Writes w t)
            by false = tells_dropped sent

        state_stays : s' (WordAt n (below w 3)) ≡ s (WordAt n (below w 3))
        state_stays =
            word_now (below w 3) state_apart own_state_apart
            ∙ a.on.keeps.kept (below w 3) (λ h. choosing_free (sym it.used ∙ h))

        word_same : (b : ℕ) → LiesWord (length store) b
            → ((i : ℕ) → i / 4 ≡ word_number b → get_or last i None ≡ get_or store i None)
            → word_at last b ≡ word_at store b
        word_same b l same =
            word_alike store last b (tells_now.length ∙ sym shown.size) l
            (λ i h. same (place b + i) (omega (arith, l.above, l.aligned, h)))

        is_new : (b : Alternative) → alternative_at s' n x ≡ Some b → b ≡ old
        is_new b e =
            one_is (sym e ∙ ap (λ (v : Value). alternative_of (stand_in v)) now.is
            ∙ alternative_with true false d choice is)
          where
            one_is : {b b' : Alternative} → Some b ≡ Some b' → b ≡ b'
            one_is g = cc

        new_choice : HasChoice s' n m.links last x old
        new_choice =
            record {
              small = it.small;
              placed = subst (λ z. word_place_break z address ≡ None)
                  (sym (tells_now.length ∙ sym shown.size)) it.placed;
              used = ap (λ (v : Value). (word_in v).used) state_stays ∙ it.used;
              unseen = ap (λ (v : Value). (word_in v).cells) state_stays ∙ it.unseen;
              unsent = ap amount_in (other_place (Sending n (below w 3)) refl refl refl) ∙ it.unsent;
              state = told it.state;
              unready = λ e. absurd (true≢false (sym e));
            }
          where
            same : word_at last address ≡ word_at store address
            same =
                word_same address (state_lies p c s n x k choice is)
                (λ i h. other_cell i (λ e. state_apart (e ∙ h)) (λ e. own_state_apart (e ∙ h)))

            told : ((word_at store address ≡ ready) × IsReady s n m.links x choice.skips)
                ⊎ ((word_at store address ≡ unready_word false) × IsUnready s n m.links x choice.skips)
                → ((word_at last address ≡ ready) × IsReady s' n m.links x choice.skips)
                ⊎ ((word_at last address ≡ unready_word false) × IsUnready s' n m.links x choice.skips)
            told (inl e) = inl (same ∙ e.0, inl skips)
            told (inr e) = absurd (true≢false (sym skips ∙ e.1.0))

        open_word : (b : Bool) → is_open (if b then Engaged else Free) ≡ true
        open_word true = refl
        open_word false = refl

        change : IsPortChange p c s n x k channel s' after last d
        change =
            record {
              tells = tells_now;
              stands = now.is;
              knows = record {
                priority = running.registers.priority;
                wptr = refl;
                iptr = refl;
                a = refl;
                b = running.registers.c;
                c = running.registers.c;
                nothing_lent = running.registers.nothing_lent;
              };
              same_wptr = refl;
              same_error = refl;
              same_halting = refl;
              internal = port.internal;
              placed = port.placed;
              others = other_place;
              open_before = ap is_open port.engaged;
              open_after = ap is_open (used_channel ∙ used_sent sent) ∙ open_word sent;
              words = λ i h. words i h (cases_eq (word_number w) i);
              only = λ i h e. other_cell i h (λ f. true≢false
                  (sym (ap is_for_choice (ap (use_of s n) (sym f) ∙ was_free (λ l. h (l ∙ f)))) ∙ e));
              states = λ i e f. (let h : j ≡ i → ⊥ =
                  λ l. choosing_engaged (sym e ∙ ap (use_of s n) (sym l) ∙ port.engaged) in
                  word_now i h (λ l. choosing_free (sym e ∙ ap (use_of s n) (sym l) ∙ was_free (λ r. h (r ∙ l))))
                  ∙ a.on.keeps.kept i (λ l. choosing_free (sym e ∙ l)));
              state_cells = λ i e f. (let h : j ≡ i / 4 → ⊥ =
                  λ l. choosing_engaged (sym e ∙ ap (use_of s n) (sym l) ∙ port.engaged) in
                  other_cell i h (λ l. choosing_free (sym e ∙ ap (use_of s n) (sym l) ∙ was_free (λ r. h (r ∙ l)))));
              before = inr enabled;
              before_free = λ q e. taken_enabled (sym (ap enabler e) ∙ enabled);
              holder = Nobody;
              half = half_now;
              after_free = λ q e. nobody_taken e;
              after_by = inl refl;
              sent_stays = sent_stays sent refl;
              engaged_after = λ e. engaged_after sent refl e;
              engaged_before = λ e. port.engaged;
              own_choice = λ b e. subst (HasChoice s' n m.links last x) (sym (is_new b e)) new_choice;
              own_apart = λ y b f home e same b' g. no_other p c s n x k choice is y b f home e same;
              own_word = other_state p c s n x k choice is;
              own_keeps = (
                old,
                ap (λ (v : Value). alternative_of (stand_in v)) now.is ∙ alternative_with true false d choice is,
              );
              ports_back = λ e h f. (without_has e channel (ports_in (s (Ports x)))
                  (sym (ap (has_port e) ports_now) ∙ f)).0;
              ports_on = λ e h f. ap (has_port e) ports_now ∙ has_without e channel (ports_in (s (Ports x))) f h;
              port_back = λ e. absurd ((without_has channel channel (ports_in (s (Ports x)))
                  (sym (ap (has_port channel) ports_now) ∙ e)).1 refl);
              port_there = λ e. absurd (nobody_some e);
            }
          where
            taken_enabled : None ≡ Some x → ⊥
            taken_enabled e = cc

            nobody_taken : {q : Request} → Nobody ≡ TakenBy q → ⊥
            nobody_taken e = cc

            nobody_some : None ≡ Some x → ⊥
            nobody_some e = cc

            words : (i : ℕ) → (j ≡ i → ⊥) → (word_number w ≡ i) ⊎ (word_number w ≡ i → ⊥)
                → (s' (WordAt n i) ≡ s (WordAt n i))
                ⊎ ((is_for_choice (use_of s n i) ≡ true) × (is_for_choice (use_of s' n i) ≡ true))
            words i h (inl e) =
                inr (subst (λ z. (is_for_choice (use_of s n z) ≡ true) × (is_for_choice (use_of s' n z) ≡ true)) e
                (ap is_for_choice (was_free (λ l. h (l ∙ e))), ap is_for_choice used_own))
            words i h (inr e) = by (is_for_choice (use_of s n i)) refl
              where
                by : (b : Bool) → is_for_choice (use_of s n i) ≡ b → (s' (WordAt n i) ≡ s (WordAt n i))
                    ⊎ ((is_for_choice (use_of s n i) ≡ true) × (is_for_choice (use_of s' n i) ≡ true))
                by true f =
                    inr (
                      f,
                      ap is_for_choice (ap (λ (v : Value). (word_in v).used) (word_now i h e) ∙ a.on.keeps.uses i)
                          ∙ f,
                    )
                by false f =
                    inl (word_now i h e ∙ a.on.keeps.kept i (λ l. true≢false (sym (ap is_for_choice l) ∙ f)))

            sent_stays : (b : Bool) → sent ≡ b → is_sent s n channel ≡ true
                → (use_of s' n j ≡ Engaged) × (word_at last channel ≡ word_at store channel)
            sent_stays false e h = absurd (true≢false (sym h ∙ sent_now ∙ e))
            sent_stays true e h = (
              used_channel ∙ used_sent sent ∙ ap (λ b. if b then Engaged else Free) e,
              word_same channel lies_channel (λ i f. cell i f chosen refl),
            )
              where
                cell : (i : ℕ) → i / 4 ≡ j → (b : Bool) → chosen ≡ b
                    → get_or (if b then with_word (dropped_store sent) w offset else dropped_store sent) i None
                    ≡ get_or store i None
                cell i f true g =
                    other_cell_stays (dropped_store sent) w offset i
                    (subst (λ z. LiesWord z w) (sym (dropped_size sent)) lies_own)
                    (λ r. apart_chosen sent refl g (sym f ∙ r))
                    ∙ ap (λ b. get_or (dropped_store b) i None) e
                cell i f false g = ap (λ b. get_or (dropped_store b) i None) e

            engaged_after : (b : Bool) → sent ≡ b → use_of s' n j ≡ Engaged
                → (is_sent s n channel ≡ true) ⊎ (enabler Nobody ≡ Some x)
            engaged_after true e h = inl (sent_now ∙ e)
            engaged_after false e h =
                absurd (engaged_free (sym h ∙ used_channel ∙ used_sent sent ∙ ap (λ b. if b then Engaged else Free) e))

        pub disc_leads : step k.node.machine ≡ Ok (gone p c s n x k after count m.links last, ran.Instruction)
            → LeadsTo p c n s'
        disc_leads stepped =
            gone_leads p c s n x k s' after count m.links last d
            (port_gone p c s n x k channel s' after count last d change) stepped
