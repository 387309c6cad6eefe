-- A channel that is enabled leaves the node shown.
use Rattle.tprocesses.specs.Places.{Sending}
use Rattle.tprocesses.specs.Values.{amount_in}
use Rattle.tproc.specs.Steps.{step}
use Rattle.std.proofs.Common.{◌≡◌, ℕ, ◌+◌, ◌/◌, refl, sym, ap, subst, ◌∙◌, Bool, true, false}
use Rattle.std.proofs.Common.{true≢false, length, Ok, ◌⊎◌, inl, inr, Some, None, get_or}
use Rattle.tword.specs.Words.{word_below}
use Rattle.tword.specs.Stores.{Store, word_at}
use Rattle.tword.specs.Touches.{word_place_break}
use Rattle.tcode.specs.declared.instruction.Operation.TheVariants.{Enbc}
use Rattle.tcpu.specs.Outcomes.{all_to}
use Rattle.tcpu.specs.declared.registers.Registers.{Registers}
use Rattle.tproc.specs.declared.channels.Side.TheVariants.{Input, Output}
use Rattle.tproc.specs.declared.ran.Ran.TheVariants as ran
use Rattle.tproc.specs.Channels.{enabling, ready}
use Rattle.tproc.specs.Machine.{Control}
use Rattle.tproc.specs.LinkChannels.{is_link}
use Rattle.tplan.specs.declared.plan.Plan.{Plan}
use Rattle.tnet.specs.Rendezvous.{Configuration}
use Rattle.tprocesses.specs.Places.{Place, Name, WordAt, Standing, Ports, Half}
use Rattle.tprocesses.specs.Values.{Value, Free, Engaged, Choosing, Choice, Context, Runs, IsStand, IsHalf}
use Rattle.tprocesses.specs.Values.{EnabledBy, TakenBy, Request, word_in, stand_in, half_in, ports_in}
use Rattle.tprocesses.specs.Touching.{Site, word_number}
use Rattle.tprocesses.specs.Choosing.{drop_channel, has_port, with_port, is_taken}
use Rattle.tprocesses.specs.Machine.{site_of}
use Rattle.tseen.specs.Choices.{Alternative, alternative_of, alternative_at, enabler_at, is_sent}
use Rattle.tseen.specs.Choices.{HasChoice, IsEnabled, IsReady, IsUnready}
use Rattle.tseen.specs.Shown.{ShowsNode}
use Rattle.tseen.specs.Steps.{IsCurrent, LeadsTo}
use Rattle.tseen.proofs.After.{State}
use Rattle.tseen.proofs.AtOperation.{IsAtOperation, registers_at, context_at, control_at}
use Rattle.tseen.proofs.Cells.{use_of, Tells}
use Rattle.tseen.proofs.Choices.{alternative_with}
use Rattle.tseen.proofs.ChoicePlain.{is_for_choice}
use Rattle.tseen.proofs.PortChanged.{IsPortChange, is_port_of, port_gone}
use Rattle.tseen.proofs.ChoiceShown.{gone, is_open, gone_leads}
use Rattle.tseen.proofs.Finished.{is_stand_of}
use Rattle.tseen.proofs.OwnChoice.{own, has, no_other, other_word as other_state}
use Rattle.tseen.proofs.Ported.{with_has, has_with}
use Rattle.tseen.proofs.Running.{RunsThere}
use Rattle.tseen.proofs.Saving.{below}
use Rattle.tseen.proofs.Stepped.{shown_node, there}
use Rattle.tseen.proofs.Written.{is_word_of}

module _ (p : Plan) (c : Configuration) (s : State) (n : ℕ) (x : Name) (k : IsCurrent p c s n x) where
  abbrev m : Control
  m = k.node.machine.control

  abbrev store : Store
  store = k.node.machine.store

  abbrev running : RunsThere s n k.plan k.node x
  running = there p c s n x k

  abbrev shown : ShowsNode s n k.plan (k.shows.named n) (k.shows.sent n) k.node
  shown = shown_node p c s n x k

  abbrev site : Site
  site = site_of n k.plan

  abbrev w : ℕ
  w = m.registers.wptr

  abbrev address : ℕ
  address = word_below w 3

  abbrev channel : ℕ
  channel = m.registers.b

  abbrev j : ℕ
  j = word_number channel

  module _ (u : State) (a : IsAtOperation p c s n x k Enbc u) (choice : Choice)
      (is : running.context.choice ≡ Some choice) where
    abbrev pub after : Registers
    after = all_to m.registers.a (registers_at p c s n x k a.size)

    abbrev pub count : ℕ
    count = (control_at p c s n x k Enbc a.size).count

    abbrev context : Context
    context = context_at p c s n x k a.size

    abbrev pub d : Context
    d = drop_channel context

    abbrev old : Alternative
    old = own p c s n x k choice is

    it : HasChoice s n m.links store x old
    it = has p c s n x k choice is

    -- the channel is enabled afterwards
    pub record HasEnabled (s' : State) (last : Store) : Type 0 where
      pub stands : s' (Standing x) ≡ IsStand (Runs d)
      pub internal : is_link channel ≡ false
      pub placed : word_place_break (length store) channel ≡ None
      pub word_other : (i : ℕ) → (j ≡ i → ⊥) → s' (WordAt n i) ≡ u (WordAt n i)
      pub used_now : use_of s' n j ≡ Engaged
      pub used_before : (use_of s n j ≡ Free) ⊎ (use_of s n j ≡ Engaged)
      pub tells : Tells s' n k.plan.memory last
      pub others : (q : Place) → is_word_of n q ≡ false → is_stand_of x q ≡ false → is_port_of n x channel q ≡ false
          → s' q ≡ s q
      pub half : s' (Half n channel Input) ≡ IsHalf (EnabledBy x)
      pub ports : ports_in (s' (Ports x)) ≡ with_port channel (ports_in (s (Ports x)))
      pub cells : (i : ℕ) → (j ≡ i / 4 → ⊥) → (below w 3 ≡ i / 4 → ⊥) → get_or last i None ≡ get_or store i None
      pub told : ((word_at last address ≡ ready) × IsReady s' n m.links x choice.skips)
          ⊎ ((word_at last address ≡ enabling) × IsUnready s' n m.links x choice.skips)
      pub names : is_sent s n channel ≡ false → word_at last channel ≡ w + running.level
      pub sent_names : is_sent s n channel ≡ true → word_at last channel ≡ word_at store channel
      pub sent_engaged : is_sent s n channel ≡ true → use_of s n j ≡ Engaged
      pub before : (enabler_at s n channel ≡ None) ⊎ (enabler_at s n channel ≡ Some x)
      pub before_free : (q : Request) → half_in (s (Half n channel Input)) ≡ TakenBy q → ⊥

    module _ (s' : State) (last : Store) (g : HasEnabled s' last) where
      choosing_free : Choosing ≡ Free → ⊥
      choosing_free e = cc

      choosing_engaged : Choosing ≡ Engaged → ⊥
      choosing_engaged e = cc

      -- the channel word is not that of a state
      not_choosing : (i : ℕ) → use_of s n i ≡ Choosing → j ≡ i → ⊥
      not_choosing i e h = by g.used_before
        where
          by : (use_of s n j ≡ Free) ⊎ (use_of s n j ≡ Engaged) → ⊥
          by (inl f) = choosing_free (sym e ∙ ap (use_of s n) (sym h) ∙ f)
          by (inr f) = choosing_engaged (sym e ∙ ap (use_of s n) (sym h) ∙ f)

      open_before : is_open (use_of s n j) ≡ true
      open_before = by g.used_before
        where
          by : (use_of s n j ≡ Free) ⊎ (use_of s n j ≡ Engaged) → is_open (use_of s n j) ≡ true
          by (inl f) = ap is_open f
          by (inr f) = ap is_open f

      state_stays : s' (WordAt n (below w 3)) ≡ s (WordAt n (below w 3))
      state_stays =
          g.word_other (below w 3) (not_choosing (below w 3) it.used)
          ∙ a.on.keeps.kept (below w 3) (λ h. choosing_free (sym it.used ∙ h))

      alternative_now : alternative_at s' n x ≡ Some old
      alternative_now =
          ap (λ (v : Value). alternative_of (stand_in v)) g.stands ∙ alternative_with true false d choice is

      is_new : (b : Alternative) → alternative_at s' n x ≡ Some b → b ≡ old
      is_new b e = one_is (sym e ∙ alternative_now)
        where
          one_is : {b b' : Alternative} → Some b ≡ Some b' → b ≡ b'
          one_is h = cc

      new_choice : HasChoice s' n m.links last x old
      new_choice =
          record {
            small = it.small;
            placed = subst (λ z. word_place_break z address ≡ None) (sym (g.tells.length ∙ sym shown.size)) it.placed;
            used = ap (λ (v : Value). (word_in v).used) state_stays ∙ it.used;
            unseen = ap (λ (v : Value). (word_in v).cells) state_stays ∙ it.unseen;
            unsent = ap amount_in (g.others (Sending n (below w 3)) refl refl refl) ∙ it.unsent;
            state = g.told;
            unready = λ e. absurd (true≢false (sym e));
          }

      sent_is : is_sent s' n channel ≡ is_sent s n channel
      sent_is = ap (λ (v : Value). is_taken (half_in v)) (g.others (Half n channel Output) refl refl refl)

      here : IsEnabled s' n last channel x
      here =
          record {
            internal = g.internal;
            home = running.home;
            port = ap (has_port channel) g.ports ∙ has_with channel channel (ports_in (s (Ports x))) (inl refl);
            placed = subst (λ z. word_place_break z channel ≡ None) (sym (g.tells.length ∙ sym shown.size)) g.placed;
            engaged = g.used_now;
            names = λ f b e. g.names (sym sent_is ∙ f) ∙ ap (λ z. w + z) (sym running.registers.priority)
                ∙ ap (λ (z : Alternative). z.wptr + z.priority) (sym (is_new b e));
            awaited = λ b e f. absurd (true≢false (sym f ∙ ap (λ (z : Alternative). z.waits) (is_new b e)));
          }

      change : IsPortChange p c s n x k channel s' after last d
      change =
          record {
            tells = g.tells;
            stands = g.stands;
            knows = record {
              priority = running.registers.priority;
              wptr = refl;
              iptr = refl;
              a = running.registers.a;
              b = running.registers.c;
              c = running.registers.c;
              nothing_lent = running.registers.nothing_lent;
            };
            same_wptr = refl;
            same_error = refl;
            same_halting = refl;
            internal = g.internal;
            placed = g.placed;
            others = g.others;
            open_before = open_before;
            open_after = ap is_open g.used_now;
            words = λ i h. words i h (is_for_choice (use_of s n i)) refl;
            only = λ i h e. g.cells i h
                (λ f. true≢false (sym (ap is_for_choice (ap (use_of s n) (sym f) ∙ it.used)) ∙ e));
            states = λ i e f. g.word_other i (not_choosing i e) ∙ a.on.keeps.kept i (λ l. choosing_free (sym e ∙ l));
            state_cells = λ i e f. g.cells i (not_choosing (i / 4) e) (λ l. f (sym l));
            before = g.before;
            before_free = g.before_free;
            holder = EnabledBy x;
            half = g.half;
            after_free = λ q e. enabled_taken e;
            after_by = inr refl;
            sent_stays = λ e. (g.used_now, g.sent_names e);
            engaged_after = λ e. inr refl;
            engaged_before = g.sent_engaged;
            own_choice = λ b e. subst (HasChoice s' n m.links last x) (sym (is_new b e)) new_choice;
            own_apart = λ y b f home e same b' h. no_other p c s n x k choice is y b f home e same;
            own_word = other_state p c s n x k choice is;
            own_keeps = (old, alternative_now);
            ports_back = λ e h f. back e h (with_has e channel (ports_in (s (Ports x)))
                (sym (ap (has_port e) g.ports) ∙ f));
            ports_on = λ e h f. ap (has_port e) g.ports ∙ has_with e channel (ports_in (s (Ports x))) (inr f);
            port_back = λ e. refl;
            port_there = λ e. here;
          }
        where
          enabled_taken : {q : Request} → EnabledBy x ≡ TakenBy q → ⊥
          enabled_taken e = cc

          back : (e : ℕ) → (channel ≡ e → ⊥) → (channel ≡ e) ⊎ (has_port e (ports_in (s (Ports x))) ≡ true)
              → has_port e (ports_in (s (Ports x))) ≡ true
          back e h (inl f) = absurd (h f)
          back e h (inr f) = f

          words : (i : ℕ) → (j ≡ i → ⊥) → (b : Bool) → is_for_choice (use_of s n i) ≡ b
              → (s' (WordAt n i) ≡ s (WordAt n i))
              ⊎ ((is_for_choice (use_of s n i) ≡ true) × (is_for_choice (use_of s' n i) ≡ true))
          words i h true f =
              inr (
                f,
                ap is_for_choice (ap (λ (v : Value). (word_in v).used) (g.word_other i h) ∙ a.on.keeps.uses i)
                    ∙ f,
              )
          words i h false f =
              inl (g.word_other i h ∙ a.on.keeps.kept i (λ l. true≢false (sym (ap is_for_choice l) ∙ f)))

      pub enbc_leads : step k.node.machine ≡ Ok (gone p c s n x k after count m.links last, ran.Instruction)
          → LeadsTo p c n s'
      enbc_leads stepped =
          gone_leads p c s n x k s' after count m.links last d
          (port_gone p c s n x k channel s' after count last d change) stepped
