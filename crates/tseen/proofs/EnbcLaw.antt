-- `enbc` is seen.
use Rattle.tcpu.specs.declared.registers.Registers.{Registers}
use Rattle.tseen.proofs.ChoiceChanged.{due_same}
use Rattle.tseen.proofs.ChoiceShown.{gone_leads}
use Rattle.tseen.proofs.ChoicePlain.{IsPlainChoice, is_for_choice, plain_gone}
use Rattle.tseen.proofs.Choices.{alternative_with, ready_same, unready_same}
use Rattle.tseen.specs.Choices.{Alternative, alternative_of, alternative_at}
use Rattle.tprocesses.specs.Touching.{word_place}
use Rattle.tprocesses.specs.Choosing.{under_way}
use Rattle.tword.specs.Stores.{shown as shown_cells}
use Rattle.tseen.specs.Halves.{HasHolder}
use Rattle.std.specs.Int.{w32, from_le_bytes}
use Rattle.std.specs.Prelude.{◌&&◌, ◌^◌}
use Rattle.tseen.proofs.Stored.{word_known}
use Rattle.tseen.proofs.SetUnknown.{tells_alike}
use Rattle.tseen.proofs.Finished.{StandsNow, stands_then, place_itself}
use Rattle.tseen.proofs.Written.{changed_there, changed_else}
use Rattle.tseen.proofs.Cells.{IsWhole, word_of}
use Rattle.tseen.proofs.AltSeen.{tells_unknown}
use Rattle.tseen.proofs.HalfTaken.{IsFound, engaged_found, not_spoilt}
use Rattle.tprocesses.specs.Standing.{goes_on}
use Rattle.tprocesses.specs.Values.{ArePorts, Word}
use Rattle.tprocesses.specs.Changes.{Change, Engage, engaged, used_word, are_known, apply}
use Rattle.std.proofs.Common.{get_or}
use Rattle.tseen.proofs.Yielding.{other_cell_stays}
use Rattle.tseen.proofs.Saving.{below}
use Rattle.tseen.proofs.SetUnknown.{set_unknown}
use Rattle.tseen.proofs.Ported.{with_has, has_with}
use Rattle.tseen.proofs.PortChanged.{is_port_of}
use Rattle.tseen.proofs.Finished.{is_stand_of}
use Rattle.tseen.proofs.Written.{is_word_of}
use Rattle.tseen.proofs.Cells.{Tells}
use Rattle.tprocesses.specs.Values.{Choosing, Runs, IsStand, ports_in, stand_in}
use Rattle.tproc.proofs.WordsApart.{LiesWord, word_set, other_word}
use Rattle.tword.specs.Stores.{place}
use Rattle.tprocesses.specs.Places.{Place}
use Rattle.tproc.specs.Channels.{ready, enabling, is_choosing}
use Rattle.tseen.specs.Choices.{HasChoice, IsReady, IsUnready, unready_word}
use Rattle.tseen.specs.AgentSteps.{NothingStops}
use Rattle.tprocesses.specs.Choosing.{with_port}
use Rattle.tseen.proofs.Written.{changed_word}
use Rattle.tseen.proofs.After.{changed}
use Rattle.tprocesses.specs.Values.{IsWord}
use Rattle.tprocesses.specs.Changes.{Put}
use Rattle.tprocesses.specs.Choosing.{changes_ports}
use Rattle.tprocesses.specs.Parts.{change}
use Rattle.treduction.specs.Plain.{rank}
use Rattle.std.proofs.Common.{◌≡◌, ℕ, ◌+◌, ◌*◌, ◌/◌, ◌<◌, ◌≤◌, refl, sym, ap, subst, ◌∙◌, Bool, true, false}
use Rattle.std.proofs.Common.{true≢false, length, Ok, arith, ◌⊎◌, inl, inr, Some, None, pos}
use Rattle.std.specs.Prelude.{◌==◌, if◌then◌else◌}
use Rattle.std.proofs.lemmas.Bool.{eqb-true, cases_eq, ne_eqb, eq-eqb}
use Rattle.tword.specs.declared.breaks.Break.TheVariants.{ChannelMisuse}
use Rattle.tword.specs.Words.{word_below, most_neg}
use Rattle.tword.specs.Stores.{Store, word_at, with_word}
use Rattle.tword.specs.Actions.{run_from}
use Rattle.tword.specs.Touches.{Writes, word_break, word_place_break}
use Rattle.tcode.specs.declared.instruction.Operation.TheVariants.{Enbc}
use Rattle.tcpu.specs.Outcomes.{all_to}
use Rattle.tproc.specs.declared.channels.Side.TheVariants.{Input, Output}
use Rattle.tproc.specs.declared.ran.Ran.TheVariants as ran
use Rattle.tproc.specs.LinkChannels.{is_link}
use Rattle.tproc.specs.Machine.{Control, claims_of}
use Rattle.tproc.specs.Queues.{not_process}
use Rattle.tproc.specs.Scheduler.{operation_step}
use Rattle.tplan.specs.declared.plan.Plan.{Plan}
use Rattle.tnet.specs.Rendezvous.{Configuration}
use Rattle.tprocesses.specs.Places.{Name, WordAt, Sending, Standing, Ports, Half, same_name}
use Rattle.tprocesses.specs.Values.{Value, Free, Receiving, Engaged, Choice}
use Rattle.tprocesses.specs.Values.{Context, Holder, Nobody, TakenBy, EnabledBy}
use Rattle.tprocesses.specs.Values.{AwaitedBy, IsHalf, Request, half_in, word_in, amount_in}
use Rattle.tprocesses.specs.Parts.{require, unless, Breaks, ◌>>=◌}
use Rattle.tprocesses.specs.Standing.{known}
use Rattle.tprocesses.specs.Touching.{Site, word_number, unsent}
use Rattle.tprocesses.specs.Choosing.{enables_channel, enables_port, enables, enables_held, enables_link}
use Rattle.tprocesses.specs.Choosing.{drop_channel, is_taken, has_port}
use Rattle.tprocesses.specs.Machine.{site_of}
use Rattle.tseen.specs.Alternatives.{IsSeenAtOnce}
use Rattle.tseen.specs.Choices.{enabler, enabler_at, enables as has_enabled, is_sent, is_due, IsEnabled}
use Rattle.tseen.specs.Halves.{IsTakenHalf}
use Rattle.tseen.specs.Shown.{ShowsNode}
use Rattle.tseen.specs.Words.{is_set_aside}
use Rattle.tseen.specs.Steps.{IsCurrent, LeadsTo}
use Rattle.tseen.proofs.After.{State, After, after_bind, after_require, after_unless, after_step}
use Rattle.tseen.proofs.AtOperation.{IsAtOperation, registers_at, context_at, control_at, operation_then}
use Rattle.tseen.proofs.Cells.{use_of}
use Rattle.tseen.proofs.ChannelFound.{same_rank, sender_waits, sender_names, own_runs, own_names}
use Rattle.tseen.proofs.DiscLaw.{may_write}
use Rattle.tseen.proofs.Enabling.{link_then}
use Rattle.tseen.proofs.EnbcSeen.{HasEnabled, enbc_leads}
use Rattle.tseen.proofs.Ends.{unsent_then}
use Rattle.tseen.proofs.Finished.{one_name}
use Rattle.tseen.proofs.OwnChoice.{under_way_then, own, own_is, has, lies as state_lies, passes, no_other}
use Rattle.tseen.proofs.OwnChoice.{other_word as other_state}
use Rattle.tseen.proofs.Running.{RunsThere}
use Rattle.tseen.proofs.SkipsSeen.{known_then}
use Rattle.tseen.proofs.Stepped.{shown_node, there}
use Rattle.tseen.proofs.Writing.{word_lies}

module _ (p : Plan) (c : Configuration) (s : State) (n : ℕ) (x : Name) (k : IsCurrent p c s n x) where
  abbrev m : Control
  m = k.node.machine.control

  abbrev store : Store
  store = k.node.machine.store

  abbrev running : RunsThere s n k.plan k.node x
  running = there p c s n x k

  abbrev shown : ShowsNode s n k.plan (k.shows.named n) (k.shows.sent n) k.node
  shown = shown_node p c s n x k

  abbrev site : Site
  site = site_of n k.plan

  abbrev w : ℕ
  w = m.registers.wptr

  abbrev address : ℕ
  address = word_below w 3

  abbrev channel : ℕ
  channel = m.registers.b

  abbrev j : ℕ
  j = word_number channel

  abbrev process : ℕ
  process = w + rank running.level

  module _ (u : State) (a : IsAtOperation p c s n x k Enbc u) (choice : Choice)
      (is : running.context.choice ≡ Some choice) (clear : amount_in (u (Sending n (below w 3))) ≡ pos 0) where
    abbrev context : Context
    context = context_at p c s n x k a.size

    abbrev d : Context
    d = drop_channel context

    abbrev L : Unit {0} → State → Type 0
    L _ z = NothingStops p z → LeadsTo p c n z

    abbrev control : Control
    control = control_at p c s n x k Enbc a.size

    abbrev Runs' : Store → Type 0
    Runs' last =
        run_from (operation_step Enbc (rank running.level) control) store (claims_of m) store
        ≡ Ok (
          (
            record m {
              registers = all_to m.registers.a (registers_at p c s n x k a.size);
              count = control.count;
            },
            ran.Instruction,
          ),
          last,
        )

    it : HasChoice s n m.links store x (own p c s n x k choice is)
    it = has p c s n x k choice is

    may_state : word_break (length store) (claims_of m) Writes address ≡ None
    may_state =
        passes p c s n x k choice is (sym (ap amount_in (a.on.keeps.others (Sending n (below w 3)) refl)) ∙ clear)

    -- the state is one of an alternative that does not wait
    with_state : (last : Store) → ((state : ℕ) → word_at store address ≡ state → is_choosing state ≡ true → Runs' last)
        → Runs' last
    with_state last h = of it.state
      where
        of : ((word_at store address ≡ ready) × IsReady s n m.links x choice.skips)
            ⊎ ((word_at store address ≡ unready_word false) × IsUnready s n m.links x choice.skips) → Runs' last
        of (inl (e, f)) = h ready e refl
        of (inr (e, f)) = h enabling e refl

    module _ (guard : (m.registers.a == 0) ≡ false) (internal : is_link channel ≡ false)
        (placed : word_place_break (length store) channel ≡ None)
        (may_channel : word_break (length store) (claims_of m) Writes channel ≡ None) where
      free_runs : word_at store channel ≡ not_process → Runs' (with_word store channel process)
      unfolding operation_step
      free_runs e =
          with_state (with_word store channel process) (λ state f g.
          rw (may_state, f, g, guard, internal, may_channel, eq-eqb (word_at store channel) not_process e)
          (rw may_channel refl))

      sent_runs : (q : Request) → IsTakenHalf s n (k.shows.named n) k.node.machine channel Output q
          → Runs' (with_word store address ready)
      unfolding operation_step
      sent_runs q t =
          with_state (with_word store address ready) (λ state f g.
          rw (
            may_state,
            f,
            g,
            guard,
            internal,
            may_channel,
            t.channel_word,
            ne_eqb t.process not_process
                (sender_names p c s n x k channel q t),
            sender_waits p c s n x k channel q t,
            eq-eqb channel channel refl,
          )
          (rw may_state refl))

      own_found : word_at store channel ≡ w + running.level → Runs' store
      unfolding operation_step
      own_found e =
          with_state store (λ state f g.
          rw (
            may_state,
            f,
            g,
            guard,
            internal,
            may_channel,
            e,
            ne_eqb (w + running.level) not_process
                (own_names p c s n x k choice is),
            own_runs p c s n x k choice is,
          ) refl)

      sender : is_sent s n channel ≡ true
          → (q : Request) × IsTakenHalf s n (k.shows.named n) k.node.machine channel Output q
      sender e =
          (let o = shown.channels.halves channel Output in
          of o.0 o.1 (sym (ap (λ (v : Value). is_taken (half_in v)) o.1) ∙ e))
        where
          of : (h : Holder) → s (Half n channel Output) ≡ IsHalf h → is_taken h ≡ true
              → (q : Request) × IsTakenHalf s n (k.shows.named n) k.node.machine channel Output q
          of (TakenBy q) f g = (q, shown.channels.taken channel Output q f)
          of Nobody f g = absurd (true≢false (sym g))
          of (EnabledBy y) f g = absurd (true≢false (sym g))
          of (AwaitedBy y) f g = absurd (true≢false (sym g))

      lies_there : (place channel ≡ 4 * j) × (most_neg ≤ channel) × (4 * j + 4 ≤ k.plan.memory)
      lies_there =
          word_lies site running.whole channel (subst (λ z. word_place_break z channel ≡ None) shown.size placed)

      lies_channel : LiesWord (length store) channel
      lies_channel =
          record {
            above = lies_there.1;
            within = omega (arith, lies_there.0, lies_there.2, shown.size);
            aligned = omega (arith, lies_there.0, lies_there.1);
          }

      -- what is common where the channel is enabled
      module _ (s' : State) (stands : s' (Standing x) ≡ IsStand (Runs d))
          (word_other : (i : ℕ) → (j ≡ i → ⊥) → s' (WordAt n i) ≡ u (WordAt n i)) (used_now : use_of s' n j ≡ Engaged)
          (used_before : (use_of s n j ≡ Free) ⊎ (use_of s n j ≡ Engaged))
          (tells : Tells s' n k.plan.memory store)
          (others : (q : Place) → is_word_of n q ≡ false → is_stand_of x q ≡ false → is_port_of n x channel q ≡ false
          → s' q ≡ s q)
          (half : s' (Half n channel Input) ≡ IsHalf (EnabledBy x))
          (ports : ports_in (s' (Ports x)) ≡ with_port channel (ports_in (s (Ports x))))
          (before : (enabler_at s n channel ≡ None) ⊎ (enabler_at s n channel ≡ Some x))
          (before_free : (q : Request) → half_in (s (Half n channel Input)) ≡ TakenBy q → ⊥) where
        choosing_free : Choosing ≡ Free → ⊥
        choosing_free e = cc

        choosing_engaged : Choosing ≡ Engaged → ⊥
        choosing_engaged e = cc

        apart : j ≡ below w 3 → ⊥
        apart h = by used_before
          where
            by : (use_of s n j ≡ Free) ⊎ (use_of s n j ≡ Engaged) → ⊥
            by (inl f) = choosing_free (sym it.used ∙ ap (use_of s n) (sym h) ∙ f)
            by (inr f) = choosing_engaged (sym it.used ∙ ap (use_of s n) (sym h) ∙ f)

        sent_engaged : is_sent s n channel ≡ true → use_of s n j ≡ Engaged
        sent_engaged e = (sender e).1.engaged

        sent_still : is_sent s' n channel ≡ is_sent s n channel
        sent_still = ap (λ (v : Value). is_taken (half_in v)) (others (Half n channel Output) refl refl refl)

        due_other : (e : ℕ) → is_due s' n m.links e ≡ is_due s n m.links e
        due_other e = due_same s s' n m.links (λ i. others (Half n i Output) refl refl refl) e

        due_there : is_due s' n m.links channel ≡ is_sent s' n channel
        due_there = rw internal refl

        ready_then : (skips : Bool) → IsReady s n m.links x skips → IsReady s' n m.links x skips
        ready_then skips (inl e) = inl e
        ready_then skips (inr (e, f, h)) =
            inr (e, ap (has_port e) ports ∙ has_with e channel (ports_in (s (Ports x))) (inr f), due_other e ∙ h)

        unready_then : (skips : Bool) → is_sent s n channel ≡ false → IsUnready s n m.links x skips
            → IsUnready s' n m.links x skips
        unready_then skips silent (e, f) = (
          e,
          λ b h. of b (with_has b channel (ports_in (s (Ports x)))
              (sym (ap (has_port b) ports) ∙ h)),
        )
          where
            of : (b : ℕ) → (channel ≡ b) ⊎ (has_port b (ports_in (s (Ports x))) ≡ true) → is_due s' n m.links b ≡ false
            of b (inl g) = ap (is_due s' n m.links) (sym g) ∙ due_there ∙ sent_still ∙ silent
            of b (inr g) = due_other b ∙ f b g

        -- a message is sent: the alternative is ready
        with_sender : is_sent s n channel ≡ true
            → HasEnabled p c s n x k u a choice is s' (with_word store address ready)
        with_sender sent =
            record {
              stands = stands;
              internal = internal;
              placed = placed;
              word_other = word_other;
              used_now = used_now;
              used_before = used_before;
              tells = set_unknown s' n k.plan.memory store address ready tells
                  (subst (λ z. LiesWord z address) shown.size (state_lies p c s n x k choice is))
                  (ap (λ (v : Value). (word_in v).cells) (word_other (below w 3) apart
                  ∙ a.on.keeps.kept (below w 3) (λ h. choosing_free (sym it.used ∙ h))) ∙ it.unseen);
              others = others;
              half = half;
              ports = ports;
              cells = λ i e f. other_cell_stays store address ready i (state_lies p c s n x k choice is)
                  (λ h. f (sym h));
              told = inl (
                word_set store address ready (state_lies p c s n x k choice is) (omega arith),
                inr (
                  channel,
                  ap (has_port channel) ports ∙ has_with channel channel (ports_in (s (Ports x))) (inl refl),
                  due_there ∙ sent_still ∙ sent,
                ),
              );
              names = λ e. absurd (true≢false (sym sent ∙ e));
              sent_names = λ e. other_word store address ready channel (state_lies p c s n x k choice is) lies_channel
                  (λ h. apart (ap word_number (sym h)));
              sent_engaged = sent_engaged;
              before = before;
              before_free = before_free;
            }

        -- none is: it is as ready as it was
        without_sender : (last : Store) → is_sent s n channel ≡ false → Tells s' n k.plan.memory last
            → ((i : ℕ) → (j ≡ i / 4 → ⊥) → get_or last i None ≡ get_or store i None)
            → word_at last address ≡ word_at store address → word_at last channel ≡ w + running.level
            → HasEnabled p c s n x k u a choice is s' last
        without_sender last silent tells_last cells same names =
            record {
              stands = stands;
              internal = internal;
              placed = placed;
              word_other = word_other;
              used_now = used_now;
              used_before = used_before;
              tells = tells_last;
              others = others;
              half = half;
              ports = ports;
              cells = λ i e f. cells i e;
              told = of it.state;
              names = λ e. names;
              sent_names = λ e. absurd (true≢false (sym e ∙ silent));
              sent_engaged = sent_engaged;
              before = before;
              before_free = before_free;
            }
          where
            of : ((word_at store address ≡ ready) × IsReady s n m.links x choice.skips)
                ⊎ ((word_at store address ≡ unready_word false) × IsUnready s n m.links x choice.skips)
                → ((word_at last address ≡ ready) × IsReady s' n m.links x choice.skips)
                ⊎ ((word_at last address ≡ enabling) × IsUnready s' n m.links x choice.skips)
            of (inl (e, f)) = inl (same ∙ e, ready_then choice.skips f)
            of (inr (e, f)) = inr (same ∙ e, unready_then choice.skips silent f)

    module _ (guard : (m.registers.a == 0) ≡ false) (internal : is_link channel ≡ false)
        (placed : word_place_break (length store) channel ≡ None)
        (clear_channel : amount_in (s (Sending n j)) ≡ pos 0) where
      -- how the half of the input was
      half_is : (h : Holder) → half_in (u (Half n channel Input)) ≡ h → s (Half n channel Input) ≡ IsHalf h
      half_is h e =
          let o = shown.channels.halves channel Input in
          o.1 ∙ ap IsHalf (sym (ap half_in o.1) ∙ ap half_in (sym (a.on.keeps.others (Half n channel Input) refl)) ∙ e)

      and_false : (b e : Bool) → (b && e) ≡ false → (b && e && true) ≡ false
      and_false true true h = h
      and_false true false h = refl
      and_false false e h = refl

      and_output : (b e : Bool) → (b && e && false) ≡ false
      and_output true true = refl
      and_output true false = refl
      and_output false e = refl

      abbrev ports_put : Change
      ports_put = Put (ArePorts (with_port channel (ports_in (u (Ports x)))))

      may : (use_of s n j ≡ Free) ⊎ (use_of s n j ≡ Engaged)
          → word_break (length store) (claims_of m) Writes channel ≡ None
      may h =
          may_write p c s n x k channel placed (λ f. true≢false (sym f ∙ aside h)) (λ f. received h f) clear_channel
        where
          aside : (use_of s n j ≡ Free) ⊎ (use_of s n j ≡ Engaged) → is_set_aside (use_of s n j) ≡ false
          aside (inl e) = ap is_set_aside e
          aside (inr e) = ap is_set_aside e

          received : (use_of s n j ≡ Free) ⊎ (use_of s n j ≡ Engaged) → use_of s n j ≡ Receiving → ⊥
          received (inl e) f = differ (sym e ∙ f)
            where
              differ : Free ≡ Receiving → ⊥
              differ g = cc
          received (inr e) f = differ (sym e ∙ f)
            where
              differ : Engaged ≡ Receiving → ⊥
              differ g = cc

      goes : (last : Store) (s' : State) → HasEnabled p c s n x k u a choice is s' last → Runs' last → LeadsTo p c n s'
      goes last s' g runs =
          enbc_leads p c s n x k u a choice is s' last g (a.steps (record m {
            registers = all_to m.registers.a (registers_at p c s n x k a.size);
            count = control.count;
          }) last runs)

      none_some : None ≡ Some x → ⊥
      none_some h = cc

      one_half_is : {h h' : Holder} → IsHalf h ≡ IsHalf h' → h ≡ h'
      one_half_is h = cc

      -- a channel that the process has enabled already
      module _ (e : half_in (u (Half n channel Input)) ≡ EnabledBy x) (s' : State)
          (now : StandsNow site x (Runs d) (changed (Ports x) ports_put u) s') where
        enabled : enabler_at s n channel ≡ Some x
        enabled = ap (λ (v : Value). enabler (half_in v)) (half_is (EnabledBy x) e)

        port : IsEnabled s n store channel x
        port = shown.choices.enabled channel x enabled

        word_now : (i : ℕ) → s' (WordAt n i) ≡ u (WordAt n i)
        word_now i = now.others (WordAt n i) refl

        ports_place : (q : Place) → is_port_of n x channel q ≡ false → changed (Ports x) ports_put u q ≡ u q
        ports_place (Ports y) h = rw h refl
        ports_place q h = refl

        tells_again : Tells s' n k.plan.memory store
        tells_again = tells_alike u s' n k.plan.memory store word_now a.on.tells

        others_again : (q : Place) → is_word_of n q ≡ false → is_stand_of x q ≡ false
            → is_port_of n x channel q ≡ false → s' q ≡ s q
        others_again q h f g = now.others q f ∙ ports_place q g ∙ a.on.keeps.others q h

        half_again : s' (Half n channel Input) ≡ IsHalf (EnabledBy x)
        half_again =
            now.others (Half n channel Input) refl ∙ a.on.keeps.others (Half n channel Input) refl
            ∙ half_is (EnabledBy x) e

        ports_again : ports_in (s' (Ports x)) ≡ with_port channel (ports_in (s (Ports x)))
        ports_again =
            ap ports_in (now.others (Ports x) refl)
            ∙ rw (place_itself p (Ports x)) (ap (λ (v : Value). with_port channel (ports_in v))
            (a.on.keeps.others (Ports x) refl))

        before_free_again : (q : Request) → half_in (s (Half n channel Input)) ≡ TakenBy q → ⊥
        before_free_again q h = none_some (sym (ap enabler h) ∙ enabled)

        used_again : use_of s' n j ≡ Engaged
        used_again = ap (λ (v : Value). (word_in v).used) (word_now j) ∙ a.on.keeps.uses j ∙ port.engaged

        again_leads : (b : Bool) → is_sent s n channel ≡ b → LeadsTo p c n s'
        again_leads true f =
            let q = sender guard internal placed (may (inr port.engaged)) f in
            goes (with_word store address ready) s'
            (with_sender guard internal placed (may (inr port.engaged)) s' now.is (λ i h. word_now i) used_again
            (inr port.engaged) tells_again others_again half_again ports_again (inr enabled) before_free_again f)
            (sent_runs guard internal placed (may (inr port.engaged)) q.0 q.1)
        again_leads false f =
            let names : word_at store channel ≡ w + running.level =
            port.names f (own p c s n x k choice is) (own_is p c s n x k choice is)
            ∙ ap (λ z. w + z) running.registers.priority in
            goes store s'
            (without_sender guard internal placed (may (inr port.engaged)) s' now.is (λ i h. word_now i) used_again
            (inr port.engaged) tells_again others_again half_again ports_again (inr enabled) before_free_again store f
            tells_again (λ i h. refl) refl names)
            (own_found guard internal placed (may (inr port.engaged)) names)

      -- a channel that nobody has enabled
      abbrev halved : State
      halved = changed (Half n channel Input) (Put (IsHalf (EnabledBy x))) u

      abbrev engaging : State
      engaging = changed (WordAt n j) Engage halved

      module _ (e : half_in (u (Half n channel Input)) ≡ Nobody) (s' : State)
          (now : StandsNow site x (Runs d) (changed (Ports x) ports_put engaging) s') (none : NothingStops p s') where
        nobody_taken : {q : Request} → Nobody ≡ TakenBy q → ⊥
        nobody_taken h = cc

        lies_new : (place channel ≡ 4 * j) × (most_neg ≤ channel) × (4 * j + 4 ≤ k.plan.memory)
        lies_new =
            word_lies site running.whole channel (subst (λ z. word_place_break z channel ≡ None) shown.size placed)

        word_of_it : IsWhole (u (WordAt n j))
        word_of_it = a.on.tells.words j lies_new.2

        word_then : s' (WordAt n j) ≡ IsWord (engaged word_of_it.word.used word_of_it.word.cells)
        word_then =
            now.others (WordAt n j) refl ∙ changed_there n j Engage halved ∙ ap (apply Engage) word_of_it.is

        both : IsFound word_of_it.word × (engaged word_of_it.word.used word_of_it.word.cells ≡ used_word Engaged)
        both =
            engaged_found word_of_it.word (λ h. not_spoilt p k.plan n j s' _ k.planned word_then h none)

        channel_now : s' (WordAt n j) ≡ IsWord (used_word Engaged)
        channel_now = word_then ∙ ap IsWord both.1

        word_new : (i : ℕ) → (j ≡ i → ⊥) → s' (WordAt n i) ≡ u (WordAt n i)
        word_new i h = now.others (WordAt n i) refl ∙ changed_word n j Engage halved i h

        abbrev told_state : State
        told_state = changed (WordAt n j) (Put (IsWord (used_word Engaged))) u

        tells_new : Tells s' n k.plan.memory store
        tells_new =
            tells_alike told_state s' n k.plan.memory store (λ i. by i (cases_eq j i))
            (tells_unknown u n j k.plan.memory store Engaged a.on.tells)
          where
            by : (i : ℕ) → (j ≡ i) ⊎ (j ≡ i → ⊥) → s' (WordAt n i) ≡ told_state (WordAt n i)
            by i (inl h) =
                subst (λ z. s' (WordAt n z) ≡ told_state (WordAt n z)) h
                (channel_now ∙ sym (changed_there n j (Put (IsWord (used_word Engaged))) u))
            by i (inr h) = word_new i h ∙ sym (changed_word n j (Put (IsWord (used_word Engaged))) u i h)

        half_place : (q : Place) → is_port_of n x channel q ≡ false → halved q ≡ u q
        half_place (Half b i Input) f = rw (and_false (n == b) (channel == i) f) refl
        half_place (Half b i Output) f = rw (and_output (n == b) (channel == i)) refl
        half_place q f = refl

        new_place : (q : Place) → is_word_of n q ≡ false → is_port_of n x channel q ≡ false
            → changed (Ports x) ports_put engaging q ≡ u q
        new_place (Ports y) h f = rw f refl
        new_place q h f = changed_else n j Engage halved q h ∙ half_place q f

        others_new : (q : Place) → is_word_of n q ≡ false → is_stand_of x q ≡ false
            → is_port_of n x channel q ≡ false → s' q ≡ s q
        others_new q h f g = now.others q f ∙ new_place q h g ∙ a.on.keeps.others q h

        half_new : s' (Half n channel Input) ≡ IsHalf (EnabledBy x)
        half_new = now.others (Half n channel Input) refl ∙ rw (place_itself p (Half n channel Input)) refl

        ports_new : ports_in (s' (Ports x)) ≡ with_port channel (ports_in (s (Ports x)))
        ports_new =
            ap ports_in (now.others (Ports x) refl)
            ∙ rw (place_itself p (Ports x)) (ap (λ (v : Value). with_port channel (ports_in v))
            (a.on.keeps.others (Ports x) refl))

        used_new : use_of s' n j ≡ Engaged
        used_new = ap (λ (v : Value). (word_in v).used) channel_now

        before_new : enabler_at s n channel ≡ None
        before_new = ap (λ (v : Value). enabler (half_in v)) (half_is Nobody e)

        before_free_new : (q : Request) → half_in (s (Half n channel Input)) ≡ TakenBy q → ⊥
        before_free_new q h = nobody_taken (sym (ap half_in (half_is Nobody e)) ∙ h)

        -- it named no process, and nobody sends on it
        free_leads : use_of s n j ≡ Free → word_at store channel ≡ not_process → (b : Bool) → is_sent s n channel ≡ b
            → LeadsTo p c n s'
        free_leads free names true f =
            absurd (differ (sym (sender guard internal placed (may (inl free)) f).1.engaged ∙ free))
          where
            differ : Engaged ≡ Free → ⊥
            differ h = cc
        free_leads free names false f =
            let lies = lies_channel guard internal placed (may (inl free)) in
            goes (with_word store channel process) s'
            (without_sender guard internal placed (may (inl free)) s' now.is word_new used_new (inl free) tells_new
            others_new half_new ports_new (inl before_new) before_free_new (with_word store channel process) f
            (set_unknown s' n k.plan.memory store channel process tells_new
            (subst (λ z. LiesWord z channel) shown.size lies)
            (ap (λ (v : Value). (word_in v).cells) channel_now))
            (λ i h. other_cell_stays store channel process i lies (λ r. h (sym r)))
            (other_word store channel process address lies (state_lies p c s n x k choice is)
            (λ h. state_free (ap word_number h)))
            (word_set store channel process lies small ∙ ap (λ z. w + z) (same_rank running.level running.small)))
            (free_runs guard internal placed (may (inl free)) names)
          where
            state_free : j ≡ below w 3 → ⊥
            state_free h = differ (sym it.used ∙ ap (use_of s n) (sym h) ∙ free)
              where
                differ : Choosing ≡ Free → ⊥
                differ g = cc

            small : process < 2 ^ 32
            small =
                omega (
                  arith,
                  same_rank running.level running.small,
                  running.small,
                  k.steady.placed.words.wptr,
                  eqb-true _ _ k.steady.placed.words.aligned,
                )

        -- somebody sends on it
        sent_leads : use_of s n j ≡ Engaged → (b : Bool) → is_sent s n channel ≡ b → LeadsTo p c n s'
        sent_leads used true f =
            let q = sender guard internal placed (may (inr used)) f in
            goes (with_word store address ready) s'
            (with_sender guard internal placed (may (inr used)) s' now.is word_new used_new (inr used) tells_new
            others_new half_new ports_new (inl before_new) before_free_new f)
            (sent_runs guard internal placed (may (inr used)) q.0 q.1)
        sent_leads used false f = absurd (held (shown.channels.engaged j used))
          where
            at : (b : ℕ) → word_number b ≡ j → word_place_break (length store) b ≡ None → b ≡ channel
            at b h there =
                let l = word_lies site running.whole b (subst (λ z. word_place_break z b ≡ None) shown.size there) in
                omega (arith, h, l.0, l.1, lies_new.0, lies_new.1)

            held : (b : ℕ) × (word_number b ≡ j) × HasHolder s n (k.shows.named n) b → ⊥
            held (b, h, inl (Input, q, g)) =
                let same : b ≡ channel = at b h (shown.channels.taken b Input q g).placed in
                before_free_new q (ap (λ z. half_in (s (Half n z Input))) (sym same) ∙ ap half_in g)
            held (b, h, inl (Output, q, g)) =
                let same : b ≡ channel = at b h (shown.channels.taken b Output q g).placed in
                true≢false (sym (ap (λ z. is_sent s n z) (sym same) ∙ ap (λ (v : Value). is_taken (half_in v)) g) ∙ f)
            held (b, h, inr (y, g)) =
                let same : b ≡ channel = at b h (shown.choices.enabled b y g).placed in
                none_any (sym before_new ∙ ap (enabler_at s n) (sym same) ∙ g)
              where
                none_any : None ≡ Some y → ⊥
                none_any r = cc

        new_leads : LeadsTo p c n s'
        new_leads = by both.0
          where
            before_word : word_of_it.word ≡ word_of u n j
            before_word = sym (ap word_in word_of_it.is)

            at : most_neg + 4 * j ≡ channel
            at = omega (arith, lies_new.0, lies_new.1)

            by : IsFound word_of_it.word → LeadsTo p c n s'
            by (inl f) =
                free_leads (sym (a.on.keeps.uses j) ∙ ap (λ (z : Word). z.used) (sym before_word) ∙ f.0)
                (known (are_known word_of_it.word.cells) refl f.1) (is_sent s n channel) refl
              where
                known : (b : Bool) → are_known word_of_it.word.cells ≡ b
                    → (if b then Some (from_le_bytes w32 (shown_cells word_of_it.word.cells)) else None)
                    ≡ Some not_process → word_at store channel ≡ not_process
                known true g h =
                    sym (ap (word_at store) at)
                    ∙ sym (word_known n k.plan.memory u store j a.on.tells lies_new.2
                    (ap (λ (z : Word). are_known z.cells) (sym before_word) ∙ g))
                    ∙ ap (λ (z : Word). from_le_bytes w32 (shown_cells z.cells)) (sym before_word) ∙ value h
                  where
                    value : {b b' : ℕ} → Some b ≡ Some b' → b ≡ b'
                    value r = cc
                known false g h = cc
            by (inr f) =
                sent_leads (sym (a.on.keeps.uses j) ∙ ap (λ (z : Word). z.used) (sym before_word) ∙ f)
                (is_sent s n channel) refl

    -- the rest of `enbc`
    abbrev Goes : Unit {0} → State → Type 0
    Goes _ z = After (goes_on x d) z L

    held_then : (m.registers.a == 0) ≡ false → is_link channel ≡ false
        → word_place_break (length store) channel ≡ None → (h : Holder) → half_in (u (Half n channel Input)) ≡ h
        → After (enables_held site x channel h >>= (λ _. changes_ports x (with_port channel))) u Goes
    held_then guard internal placed Nobody e =
        after_bind (unsent site j >>= (λ _. change (word_place site channel) Engage)) _
        (changed (Half n channel Input) (Put (IsHalf (EnabledBy x))) u) Goes
        (after_bind (unsent site j) _ (changed (Half n channel Input) (Put (IsHalf (EnabledBy x))) u) _
        (unsent_then site j (changed (Half n channel Input) (Put (IsHalf (EnabledBy x))) u) _ (λ z.
        stands_then site p x (Runs d) (changed (Ports x) (Put (ArePorts (with_port channel (ports_in (u (Ports x))))))
        (changed (WordAt n j) Engage (changed (Half n channel Input) (Put (IsHalf (EnabledBy x))) u))) L
        (λ s' now none. new_leads guard internal placed
        (ap amount_in (sym (a.on.keeps.others (Sending n j) refl)) ∙ z) e s' now none))))
    held_then guard internal placed (EnabledBy y) e =
        after_bind (enables_held site x channel (EnabledBy y)) _ u Goes
        (after_bind (require (same_name y x) (Breaks ChannelMisuse)) _ u _
        (after_require (same_name y x) (Breaks ChannelMisuse) u _ (λ same.
        unsent_then site j u _ (λ z.
        stands_then site p x (Runs d)
        (changed (Ports x) (Put (ArePorts (with_port channel (ports_in (u (Ports x)))))) u)
        L (λ s' now none. again_leads guard internal placed
        (ap amount_in (sym (a.on.keeps.others (Sending n j) refl)) ∙ z)
        (e ∙ ap (λ z. EnabledBy z) (one_name p y x same)) s' now (is_sent s n channel) refl)))))
    held_then guard internal placed (TakenBy q) e = tt
    held_then guard internal placed (AwaitedBy y) e = tt

    -- a channel is enabled
    channel_then : (m.registers.a == 0) ≡ false → is_link channel ≡ false → After (enables site x channel) u Goes
    channel_then guard internal =
        after_bind (unless (word_place_break site.size channel)) _ u Goes
        (after_unless (word_place_break site.size channel) u _ (λ placed.
        held_then guard internal (subst (λ z. word_place_break z channel ≡ None) (sym shown.size) placed)
        (half_in (u (Half n channel Input))) refl))

    port_then : (m.registers.a == 0) ≡ false → After (enables_port site x context) u L
    port_then guard =
        after_bind (known context.b) _ u L (known_then context.b channel u _ running.registers.b
        (after_bind (if is_link channel then enables_link site x channel else enables site x channel) _ u L
        (by (is_link channel) refl)))
      where
        by : (b : Bool) → is_link channel ≡ b
            → After (if b then enables_link site x channel else enables site x channel) u Goes
        by true link = link_then p c s n x k u a choice is clear guard link
        by false internal = channel_then guard internal

    -- with a guard that is false
    module _ (guard : (m.registers.a == 0) ≡ true) (s' : State) (now : StandsNow site x (Runs d) u s') where
      state_not_free : Choosing ≡ Free → ⊥
      state_not_free e = cc

      word_stays : (i : ℕ) → s' (WordAt n i) ≡ u (WordAt n i)
      word_stays i = now.others (WordAt n i) refl

      state_stays : s' (WordAt n (below w 3)) ≡ s (WordAt n (below w 3))
      state_stays = word_stays (below w 3) ∙ a.on.keeps.kept (below w 3) (λ h. state_not_free (sym it.used ∙ h))

      abbrev old : Alternative
      old = own p c s n x k choice is

      alternative_now : alternative_at s' n x ≡ Some old
      alternative_now =
          ap (λ (v : Value). alternative_of (stand_in v)) now.is ∙ alternative_with true false d choice is

      ports : s' (Ports x) ≡ s (Ports x)
      ports = now.others (Ports x) refl ∙ a.on.keeps.others (Ports x) refl

      halves : (e : ℕ) → s' (Half n e Output) ≡ s (Half n e Output)
      halves e = now.others (Half n e Output) refl ∙ a.on.keeps.others (Half n e Output) refl

      due : (e : ℕ) → has_enabled s n x e ≡ true → is_due s' n m.links e ≡ is_due s n m.links e
      due e g = due_same s s' n m.links halves e

      new_choice : HasChoice s' n m.links store x old
      new_choice =
          record {
            small = it.small;
            placed = it.placed;
            used = ap (λ (v : Value). (word_in v).used) state_stays ∙ it.used;
            unseen = ap (λ (v : Value). (word_in v).cells) state_stays ∙ it.unseen;
            unsent = ap amount_in (now.others (Sending n (below w 3)) refl
                ∙ a.on.keeps.others (Sending n (below w 3)) refl) ∙ it.unsent;
            state = of it.state;
            unready = λ e. absurd (true≢false (sym e));
          }
        where
          of : ((word_at store address ≡ ready) × IsReady s n m.links x choice.skips)
              ⊎ ((word_at store address ≡ unready_word false) × IsUnready s n m.links x choice.skips)
              → ((word_at store address ≡ ready) × IsReady s' n m.links x choice.skips)
              ⊎ ((word_at store address ≡ unready_word false) × IsUnready s' n m.links x choice.skips)
          of (inl (e, f)) = inl (e, ready_same s s' n m.links m.links x ports due choice.skips f)
          of (inr (e, f)) = inr (e, unready_same s s' n m.links m.links x ports due choice.skips f)

      abbrev after' : Registers
      after' = all_to m.registers.a (registers_at p c s n x k a.size)

      plain : IsPlainChoice p c s n x k s' after' store d
      plain =
          record {
            tells = tells_alike u s' n k.plan.memory store word_stays a.on.tells;
            stands = now.is;
            knows = record {
              priority = running.registers.priority;
              wptr = refl;
              iptr = refl;
              a = running.registers.a;
              b = running.registers.c;
              c = running.registers.c;
              nothing_lent = running.registers.nothing_lent;
            };
            same_wptr = refl;
            same_error = refl;
            same_halting = refl;
            others = λ q e f. now.others q f ∙ a.on.keeps.others q e;
            words = λ i. words i (is_for_choice (use_of s n i)) refl;
            only = λ i h. refl;
            states = λ i e f. word_stays i ∙ a.on.keeps.kept i (λ h. state_not_free (sym e ∙ h));
            state_cells = λ i e f. refl;
            own_choice = λ b e. subst (HasChoice s' n m.links store x) (one_is (sym alternative_now ∙ e)) new_choice;
            own_apart = λ y b f home e same b' g. no_other p c s n x k choice is y b f home e same;
            own_word = other_state p c s n x k choice is;
            own_keeps = λ e h. (old, alternative_now);
          }
        where
          one_is : {b b' : Alternative} → Some b ≡ Some b' → b ≡ b'
          one_is g = cc

          words : (i : ℕ) (b : Bool) → is_for_choice (use_of s n i) ≡ b → (s' (WordAt n i) ≡ s (WordAt n i))
              ⊎ ((is_for_choice (use_of s n i) ≡ true) × (is_for_choice (use_of s' n i) ≡ true))
          words i true f =
              inr (f, ap is_for_choice (ap (λ (v : Value). (word_in v).used) (word_stays i) ∙ a.on.keeps.uses i) ∙ f)
          words i false f =
              inl (word_stays i ∙ a.on.keeps.kept i (λ h. true≢false (sym (ap is_for_choice h) ∙ f)))

      runs : Runs' store
      unfolding operation_step
      runs = with_state store (λ state f g. rw (may_state, f, g, guard) refl)

      guard_leads : LeadsTo p c n s'
      guard_leads =
          gone_leads p c s n x k s' after' control.count m.links store d
          (plain_gone p c s n x k s' after' control.count store d plain)
          (a.steps (record m { registers = after'; count = control.count }) store runs)

  enbc_then : (u : State) (a : IsAtOperation p c s n x k Enbc u)
      → After (enables_channel site x (context_at p c s n x k a.size)) u (λ _ z. NothingStops p z → LeadsTo p c n z)
  enbc_then u a =
      after_bind (under_way site context) _ u (λ _ z. NothingStops p z → LeadsTo p c n z)
      (under_way_then site context u _ (λ choice is used clear.
      after_bind (known context.a) _ u (λ _ z. NothingStops p z → LeadsTo p c n z)
      (known_then context.a m.registers.a u _ running.registers.a (by choice is clear (m.registers.a == 0) refl))))
    where
      context : Context
      context = context_at p c s n x k a.size

      by : (choice : Choice) → context.choice ≡ Some choice → amount_in (u (Sending n (below w 3))) ≡ pos 0
          → (b : Bool) → (m.registers.a == 0) ≡ b
          → After (if b then goes_on x (drop_channel context) else enables_port site x context) u
          (λ _ z. NothingStops p z → LeadsTo p c n z)
      by choice is clear true e =
          stands_then site p x (Runs (drop_channel context)) u (λ _ z. NothingStops p z → LeadsTo p c n z)
          (λ s' now none. guard_leads u a choice is clear e s' now)
      by choice is clear false e = port_then u a choice is clear e

pub enbc_is_seen : IsSeenAtOnce Enbc
enbc_is_seen p c s s' n x k next makes none =
    after_step p x s s' (λ _ z. NothingStops p z → LeadsTo p c n z) makes
    (operation_then p c s n x k Enbc (λ _ z. NothingStops p z → LeadsTo p c n z) next
    (λ u a. enbc_then p c s n x k u a)) none
