-- `disc` of the input of a link is seen.
use Rattle.std.proofs.Common.{◌≡◌, ◌≢◌, ℕ, ◌/◌, ◌<◌, refl, sym, ap, subst, ◌∙◌, Bool, true, false, true≢false, List}
use Rattle.std.proofs.Common.{length, Ok, ◌⊎◌, inl, inr, Some, None, get_or}
use Rattle.std.specs.Prelude.{◌==◌, slice_index_or, slice_set, if◌then◌else◌}
use Rattle.std.proofs.lemmas.Bool.{cases_eq}
use Rattle.tword.specs.Words.{word_below}
use Rattle.tword.specs.Stores.{Store, word_at, with_word}
use Rattle.tword.specs.Actions.{run_from}
use Rattle.tword.specs.Touches.{Writes, word_break, word_place_break, is_aligned}
use Rattle.tcode.specs.declared.instruction.Operation.TheVariants.{Disc}
use Rattle.tcpu.specs.Outcomes.{all_to, flag}
use Rattle.tcpu.specs.declared.registers.Registers.{Registers}
use Rattle.tproc.specs.declared.channels.Side.TheVariants.{Input}
use Rattle.tproc.specs.declared.ran.Ran.TheVariants as ran
use Rattle.tproc.specs.declared.waiter.LinkEnd.{LinkEnd}
use Rattle.tproc.specs.Channels.{ready}
use Rattle.tproc.specs.LinkChannels.{is_link, is_right_end, link_of, link_end, quiet_end, is_free}
use Rattle.tproc.specs.Machine.{Control, claims_of}
use Rattle.tproc.specs.Scheduler.{operation_step}
use Rattle.tproc.proofs.WordsApart.{LiesWord, other_word}
use Rattle.tplan.specs.declared.plan.Plan.{Plan}
use Rattle.tplan.specs.Wires.{end_at}
use Rattle.tnet.specs.Rendezvous.{Configuration}
use Rattle.treduction.specs.Plain.{rank}
use Rattle.tprocesses.specs.Places.{Place, Name, WordAt, Sending, Standing, Ports, LinkHalf}
use Rattle.tprocesses.specs.Values.{Value, Free, Choosing, Choice, Context, Runs, Empty, Fired, IsStand, IsLink}
use Rattle.tprocesses.specs.Values.{IsWord, word_in, stand_in, ports_in, amount_in}
use Rattle.tprocesses.specs.Changes.{Put, free_word}
use Rattle.tprocesses.specs.Touching.{Site, word_number}
use Rattle.tprocesses.specs.Choosing.{answers, has_port, without_port}
use Rattle.tprocesses.specs.Machine.{site_of, is_offered}
use Rattle.tseen.specs.Choices.{Alternative, alternative_of, alternative_at, enabler_on, input_at, input_channel}
use Rattle.tseen.specs.Choices.{HasChoice, IsReady, IsUnready, unready_word}
use Rattle.tseen.specs.Shown.{ShowsNode}
use Rattle.tseen.specs.Steps.{IsCurrent, LeadsTo}
use Rattle.tseen.proofs.After.{State}
use Rattle.tseen.proofs.AtOperation.{IsAtOperation, registers_at, context_at, control_at}
use Rattle.tseen.proofs.Cells.{use_of, Tells}
use Rattle.tseen.proofs.ChoicePlain.{IsChoiceWords, is_for_choice}
use Rattle.tseen.proofs.ChoiceShown.{gone_leads}
use Rattle.tseen.proofs.Choices.{alternative_with}
use Rattle.tseen.proofs.Finished.{is_stand_of}
use Rattle.tseen.proofs.LinkPort.{IsLinkPortChange, is_link_port_of, link_port_gone}
use Rattle.tseen.proofs.OwnChoice.{own, has, lies as state_lies, no_other, other_word as other_state}
use Rattle.tseen.proofs.OwnLink.{names_input, claims_stay, input_free, set_there, set_other}
use Rattle.tseen.proofs.Performed.{word_passes}
use Rattle.tseen.proofs.Ported.{without_has, has_without}
use Rattle.tseen.proofs.Running.{RunsThere}
use Rattle.tseen.proofs.Saving.{below}
use Rattle.tseen.proofs.Selecting.{with_offset, is_chosen}
use Rattle.tseen.proofs.SetUnknown.{tells_alike, word_put, touched_lies}
use Rattle.tseen.proofs.Stepped.{shown_node, there}
use Rattle.tseen.proofs.Stored.{permits_on}
use Rattle.tseen.proofs.Writing.{IsWordTouched}
use Rattle.tseen.proofs.Written.{is_word_of, changed_there, changed_word}
use Rattle.tseen.proofs.Yielding.{other_cell_stays}

module _ (p : Plan) (c : Configuration) (s : State) (n : ℕ) (x : Name) (k : IsCurrent p c s n x) where
  abbrev m : Control
  m = k.node.machine.control

  abbrev store : Store
  store = k.node.machine.store

  abbrev running : RunsThere s n k.plan k.node x
  running = there p c s n x k

  abbrev shown : ShowsNode s n k.plan (k.shows.named n) (k.shows.sent n) k.node
  shown = shown_node p c s n x k

  abbrev site : Site
  site = site_of n k.plan

  abbrev w : ℕ
  w = m.registers.wptr

  abbrev address : ℕ
  address = word_below w 3

  abbrev channel : ℕ
  channel = m.registers.c

  abbrev pub l : ℕ
  l = link_of Input channel

  abbrev pub half : Place
  half = LinkHalf (end_at n l) Input

  -- the end of the link that is forgotten
  abbrev forgotten : LinkEnd
  forgotten = record (link_end m l) { remembered = None }

  abbrev links : List LinkEnd
  links = slice_set m.links l forgotten

  module _ (u : State) (a : IsAtOperation p c s n x k Disc u) (choice : Choice)
      (is : running.context.choice ≡ Some choice) (skips : choice.skips ≡ true) (guard : (m.registers.b == 0) ≡ false)
      (link : is_link channel ≡ true) (aligned : is_aligned channel ≡ true)
      (right : is_right_end Input channel ≡ true) (by_self : enabler_on s n l ≡ Some x)
      (free : is_offered (input_at s n l) ≡ false) (t : IsWordTouched site running.whole u Writes w) (fires : Bool)
      (noticed : (link_end m l).noticed ≡ fires) where
    abbrev pub chosen : Bool
    chosen = is_chosen fires store w

    abbrev after : Registers
    after = all_to (flag chosen) (registers_at p c s n x k a.size)

    abbrev control : Control
    control = control_at p c s n x k Disc a.size

    abbrev context : Context
    context = context_at p c s n x k a.size

    abbrev pub d : Context
    d = answers chosen context

    abbrev offset : ℕ
    offset = m.registers.a

    abbrev last : Store
    last = if chosen then with_word store w offset else store

    abbrev old : Alternative
    old = own p c s n x k choice is

    it : HasChoice s n m.links store x old
    it = has p c s n x k choice is

    small : l < 4
    small = (names_input channel link aligned right).0

    named_by : channel ≡ input_channel l
    named_by = (names_input channel link aligned right).1

    choosing_free : Choosing ≡ Free → ⊥
    choosing_free e = cc

    lies_own : LiesWord (length store) w
    lies_own = subst (λ z. LiesWord z w) (sym shown.size) (touched_lies site running.whole u Writes w t)

    was_free : use_of s n (word_number w) ≡ Free
    was_free = sym (a.on.keeps.uses (word_number w)) ∙ t.touched.free

    -- the word of the state is another one
    apart_word : (j : ℕ) → use_of s n j ≡ Choosing → word_number w ≡ j → ⊥
    apart_word j e f = choosing_free (sym e ∙ ap (use_of s n) (sym f) ∙ was_free)

    other_cell : (i : ℕ) → i / 4 ≢ word_number w → get_or last i None ≡ get_or store i None
    other_cell i h = by chosen
      where
        by : (b : Bool) → get_or (if b then with_word store w offset else store) i None ≡ get_or store i None
        by true = other_cell_stays store w offset i lies_own h
        by false = refl

    may : word_break (length store) (claims_of m) Writes w ≡ None
    may =
        subst (λ z. word_break z (claims_of m) Writes w ≡ None) (sym shown.size)
        (word_passes site running.whole (claims_of m) u Writes w
        (permits_on s u n (claims_of m) a.on.keeps running.permits) t)

    runs : run_from (operation_step Disc (rank running.level) control) store (claims_of m) store
        ≡ Ok ((record m { registers = after; count = control.count; links = links }, ran.Instruction), last)
    unfolding operation_step
    runs = by (is_chosen fires store w) refl
      where
        free_now : is_free Input (link_end m l) m ≡ true
        free_now = input_free p c s n x k choice is l small (inr by_self) free

        by : (b : Bool) → is_chosen fires store w ≡ b
            → run_from (operation_step Disc (rank running.level) control) store (claims_of m) store
            ≡ Ok (
              (
                record m {
                  registers = all_to (flag b) (registers_at p c s n x k a.size);
                  count = control.count;
                  links = links;
                },
                ran.Instruction,
              ),
              if b then with_word store w offset else store,
            )
        by true e = rw (guard, link, aligned, right, free_now, noticed) (rw (may, e) (rw may refl))
        by false e = rw (guard, link, aligned, right, free_now, noticed) (rw (may, e) refl)

    -- the process has disabled the input of the link
    pub record IsDisabledNow (s' : State) : Type 0 where
      pub stands : s' (Standing x) ≡ IsStand (Runs d)
      pub words : (i : ℕ) → s' (WordAt n i) ≡ with_offset chosen n w offset u (WordAt n i)
      pub others : (q : Place) → is_word_of n q ≡ false → is_stand_of x q ≡ false → is_link_port_of n x l q ≡ false
          → s' q ≡ s q
      pub disabled : s' half ≡ IsLink Empty
      pub ports : ports_in (s' (Ports x)) ≡ without_port channel (ports_in (s (Ports x)))

    module _ (s' : State) (g : IsDisabledNow s') where
      word_now : (j : ℕ) → (word_number w ≡ j → ⊥) → s' (WordAt n j) ≡ u (WordAt n j)
      word_now j h = g.words j ∙ by chosen
        where
          by : (b : Bool) → with_offset b n w offset u (WordAt n j) ≡ u (WordAt n j)
          by true = changed_word n (word_number w) (Put (IsWord (free_word offset))) u j h
          by false = refl

      used_own : use_of s' n (word_number w) ≡ Free
      used_own = ap (λ (v : Value). (word_in v).used) (g.words (word_number w)) ∙ by chosen
        where
          by : (b : Bool) → use_of (with_offset b n w offset u) n (word_number w) ≡ Free
          by true =
              ap (λ (v : Value). (word_in v).used)
              (changed_there n (word_number w) (Put (IsWord (free_word offset))) u)
          by false = t.touched.free

      state_stays : s' (WordAt n (below w 3)) ≡ s (WordAt n (below w 3))
      state_stays =
          word_now (below w 3) (apart_word (below w 3) it.used)
          ∙ a.on.keeps.kept (below w 3) (λ h. choosing_free (sym it.used ∙ h))

      tells_now : Tells s' n k.plan.memory last
      tells_now = tells_alike (with_offset chosen n w offset u) s' n k.plan.memory last g.words (by chosen)
        where
          by : (b : Bool)
              → Tells (with_offset b n w offset u) n k.plan.memory (if b then with_word store w offset else store)
          by true =
              word_put u n k.plan.memory store w offset Free a.on.tells
              (touched_lies site running.whole u Writes w t)
          by false = a.on.tells

      -- the state is as it was
      state_word_stays : word_at last address ≡ word_at store address
      state_word_stays = by chosen
        where
          by : (b : Bool) → word_at (if b then with_word store w offset else store) address ≡ word_at store address
          by true =
              other_word store w offset address lies_own (state_lies p c s n x k choice is)
              (λ e. apart_word (below w 3) it.used (ap word_number e))
          by false = refl

      alternative_now : alternative_at s' n x ≡ Some old
      alternative_now =
          ap (λ (v : Value). alternative_of (stand_in v)) g.stands ∙ alternative_with true false d choice is

      new_choice : HasChoice s' n links last x old
      new_choice =
          record {
            small = it.small;
            placed = subst (λ z. word_place_break z address ≡ None) (sym (tells_now.length ∙ sym shown.size)) it.placed;
            used = ap (λ (v : Value). (word_in v).used) state_stays ∙ it.used;
            unseen = ap (λ (v : Value). (word_in v).cells) state_stays ∙ it.unseen;
            unsent = ap amount_in (g.others (Sending n (below w 3)) refl refl refl) ∙ it.unsent;
            state = told it.state;
            unready = λ e. absurd (true≢false (sym e));
          }
        where
          told : ((word_at store address ≡ ready) × IsReady s n m.links x choice.skips)
              ⊎ ((word_at store address ≡ unready_word false) × IsUnready s n m.links x choice.skips)
              → ((word_at last address ≡ ready) × IsReady s' n links x choice.skips)
              ⊎ ((word_at last address ≡ unready_word false) × IsUnready s' n links x choice.skips)
          told (inl e) = inl (state_word_stays ∙ e.0, inl skips)
          told (inr e) = absurd (true≢false (sym skips ∙ e.1.0))

      changes : IsChoiceWords p c s n x k s' last
      changes =
          record {
            tells = tells_now;
            words = λ j. words j (cases_eq (word_number w) j);
            only = λ i h. other_cell i (λ e. true≢false (sym (ap is_for_choice (ap (use_of s n) e ∙ was_free)) ∙ h));
            states = λ j e f. word_now j (apart_word j e) ∙ a.on.keeps.kept j (λ h. choosing_free (sym e ∙ h));
            state_cells = λ i e f. other_cell i (λ h. apart_word (i / 4) e (sym h));
            own_word = other_state p c s n x k choice is;
          }
        where
          words : (j : ℕ) → (word_number w ≡ j) ⊎ (word_number w ≡ j → ⊥) → (s' (WordAt n j) ≡ s (WordAt n j))
              ⊎ ((is_for_choice (use_of s n j) ≡ true) × (is_for_choice (use_of s' n j) ≡ true))
          words j (inl e) =
              inr (subst (λ i. (is_for_choice (use_of s n i) ≡ true) × (is_for_choice (use_of s' n i) ≡ true)) e
              (ap is_for_choice was_free, ap is_for_choice used_own))
          words j (inr e) = by (is_for_choice (use_of s n j)) refl
            where
              by : (b : Bool) → is_for_choice (use_of s n j) ≡ b → (s' (WordAt n j) ≡ s (WordAt n j))
                  ⊎ ((is_for_choice (use_of s n j) ≡ true) × (is_for_choice (use_of s' n j) ≡ true))
              by true f =
                  inr (
                    f,
                    ap is_for_choice (ap (λ (v : Value). (word_in v).used) (word_now j e) ∙ a.on.keeps.uses j)
                        ∙ f,
                  )
              by false f =
                  inl (word_now j e ∙ a.on.keeps.kept j (λ h. true≢false (sym (ap is_for_choice h) ∙ f)))

      end_is : slice_index_or links l quiet_end ≡ forgotten
      end_is = set_there m l forgotten k.steady.placed.claimed.links small

      change : IsLinkPortChange p c s n x k l s' after links last d
      change =
          record {
            changes = changes;
            stands = g.stands;
            knows = record {
              priority = running.registers.priority;
              wptr = refl;
              iptr = refl;
              a = refl;
              b = running.registers.c;
              c = running.registers.c;
              nothing_lent = running.registers.nothing_lent;
            };
            same_wptr = refl;
            same_error = refl;
            same_halting = refl;
            others = g.others;
            own_choice = λ i e. subst (HasChoice s' n links last x) (one_is (sym alternative_now ∙ e)) new_choice;
            own_apart = λ y i f home e same i' h. no_other p c s n x k choice is y i f home e same;
            own_keeps = (old, alternative_now);
            small = small;
            before = inr by_self;
            free = free;
            pending = Empty;
            half = g.disabled;
            not_offered = refl;
            after_by = inl refl;
            other_ends = set_other m l forgotten;
            same_input = ap (λ (z : LinkEnd). z.input) end_is;
            same_output = ap (λ (z : LinkEnd). z.output) end_is;
            same_noticed = ap (λ (z : LinkEnd). z.noticed) end_is;
            same_claims = claims_stay m l forgotten refl refl;
            remembered = λ e. ap (λ (z : LinkEnd). z.remembered) end_is;
            forgotten = λ e. ap (λ (z : LinkEnd). z.remembered) end_is;
            fired = λ y e. absurd (not_fired e);
            ports_back = λ e h f. (without_has e channel (ports_in (s (Ports x)))
                (sym (ap (has_port e) g.ports) ∙ f)).0;
            ports_on = λ e h f. ap (has_port e) g.ports
                ∙ has_without e channel (ports_in (s (Ports x))) f (λ i. h (sym named_by ∙ i));
            port_back = λ e. absurd ((without_has (input_channel l) channel (ports_in (s (Ports x)))
                (sym (ap (has_port (input_channel l)) g.ports) ∙ e)).1 named_by);
            port_there = λ e. absurd (none_some e);
          }
        where
          one_is : {i i' : Alternative} → Some i ≡ Some i' → i ≡ i'
          one_is e = cc

          not_fired : {y : Name} → Empty ≡ Fired y → ⊥
          not_fired e = cc

          none_some : None ≡ Some x → ⊥
          none_some e = cc

      pub disabled_leads : LeadsTo p c n s'
      disabled_leads =
          gone_leads p c s n x k s' after control.count links last d
          (link_port_gone p c s n x k l s' after control.count links last d change)
          (a.steps (record m { registers = after; count = control.count; links = links }) last runs)
