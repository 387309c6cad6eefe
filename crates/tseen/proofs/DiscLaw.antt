-- `disc` is seen.
use Rattle.tprocesses.specs.Parts.{Part, gives}
use Rattle.tprocesses.specs.Parts.{◌>>◌}
use Rattle.tseen.proofs.Written.{changed_word}
use Rattle.tseen.proofs.After.{changed}
use Rattle.tprocesses.specs.Values.{IsWord}
use Rattle.tprocesses.specs.Changes.{Put, free_word}
use Rattle.tprocesses.specs.Choosing.{changes_ports, without_port}
use Rattle.tprocesses.specs.Parts.{change}
use Rattle.treduction.specs.Plain.{rank}
use Rattle.std.proofs.Common.{◌≡◌, ℕ, ◌+◌, refl, sym, ap, subst, ◌∙◌, Bool, true, false}
use Rattle.std.proofs.Common.{true≢false, length, Ok, arith, ◌⊎◌, inl, inr, Some, None, not, pos}
use Rattle.std.specs.Prelude.{◌==◌, if◌then◌else◌}
use Rattle.std.proofs.lemmas.Bool.{cases_eq, ne_eqb, eq-eqb}
use Rattle.tword.specs.declared.breaks.Break.TheVariants.{ChannelMisuse}
use Rattle.tword.specs.Stores.{Store, word_at, with_word}
use Rattle.tword.specs.Actions.{run_from}
use Rattle.tword.specs.Touches.{Writes, word_break, word_place_break, word_span, claim_break}
use Rattle.tcode.specs.declared.instruction.Operation.TheVariants.{Disc}
use Rattle.tcpu.specs.Outcomes.{all_to, flag}
use Rattle.tproc.specs.declared.channels.Side.TheVariants.{Input, Output}
use Rattle.tproc.specs.declared.ran.Ran.TheVariants as ran
use Rattle.tproc.specs.LinkChannels.{is_link}
use Rattle.tproc.specs.Machine.{Control, claims_of}
use Rattle.tproc.specs.Queues.{not_process}
use Rattle.tproc.specs.Scheduler.{operation_step}
use Rattle.tplan.specs.declared.plan.Plan.{Plan}
use Rattle.tnet.specs.Rendezvous.{Configuration}
use Rattle.tprocesses.specs.Places.{Name, WordAt, Sending, Standing, Half, same_name}
use Rattle.tprocesses.specs.Values.{Value, Use, Free, Receiving, Engaged, Choice}
use Rattle.tprocesses.specs.Values.{Context, Holder, Nobody, TakenBy, EnabledBy}
use Rattle.tprocesses.specs.Values.{AwaitedBy, IsHalf, Request, half_in, stand_in, word_in, amount_in}
use Rattle.tprocesses.specs.Parts.{require, unless, WordInUse, SeveralReady, Breaks, ◌>>=◌}
use Rattle.tprocesses.specs.Standing.{known}
use Rattle.tprocesses.specs.Touching.{Site, word_number, word_for, same_use, unsent}
use Rattle.tprocesses.specs.Choosing.{choice_of, disables_channel, disables_port, disables, disables_link}
use Rattle.tprocesses.specs.Choosing.{disables_internal}
use Rattle.tprocesses.specs.Choosing.{readiness, is_taken, frees_word}
use Rattle.tprocesses.specs.Choosing.{selects}
use Rattle.tprocesses.specs.Machine.{site_of}
use Rattle.tseen.specs.Alternatives.{DisabledChannelsAreSeen, LeadsOrListens}
use Rattle.tseen.specs.Choices.{enabler, enabler_at, is_sent, IsEnabled}
use Rattle.tseen.specs.Halves.{IsTakenHalf}
use Rattle.tseen.specs.Shown.{ShowsNode}
use Rattle.tseen.specs.Words.{use_at, is_set_aside}
use Rattle.tseen.specs.Steps.{IsCurrent}
use Rattle.tseen.proofs.After.{State, After, after_bind, after_require, after_unless, after_step}
use Rattle.tseen.proofs.Disabling.{runs_on, disables_link_then}
use Rattle.tseen.proofs.AtOperation.{IsAtOperation, registers_at, context_at, control_at, operation_then}
use Rattle.tseen.proofs.Cells.{use_of}
use Rattle.tseen.proofs.ChannelFound.{sender_waits, sender_names, own_runs, own_names}
use Rattle.tseen.proofs.DiscSeen.{dropped, dropped_store, tells_dropped, after, last, disc_leads}
use Rattle.tseen.proofs.DissSeen.{selecting_leads}
use Rattle.tseen.proofs.Ends.{unsent_then}
use Rattle.tseen.proofs.Finished.{one_name}
use Rattle.tseen.proofs.OwnChoice.{choice_then, own, own_is}
use Rattle.tseen.proofs.Running.{RunsThere}
use Rattle.tseen.proofs.Selecting.{is_chosen, selects_then}
use Rattle.tseen.proofs.SkipsSeen.{known_then}
use Rattle.tseen.proofs.Spans.{word_touchable}
use Rattle.tseen.proofs.Stepped.{shown_node, there}
use Rattle.tseen.proofs.Unclaimed.{unclaimed_writable}
use Rattle.tseen.proofs.Writing.{IsWordTouched, word_lies}

pub same_engaged : (u : Use) → same_use u Engaged ≡ true → u ≡ Engaged
same_engaged Engaged h = refl
same_engaged _ h = absurd (true≢false (sym h))

module _ (p : Plan) (c : Configuration) (s : State) (n : ℕ) (x : Name) (k : IsCurrent p c s n x) where
  abbrev m : Control
  m = k.node.machine.control

  abbrev store : Store
  store = k.node.machine.store

  abbrev running : RunsThere s n k.plan k.node x
  running = there p c s n x k

  abbrev shown : ShowsNode s n k.plan (k.shows.named n) (k.shows.sent n) k.node
  shown = shown_node p c s n x k

  abbrev site : Site
  site = site_of n k.plan

  abbrev w : ℕ
  w = m.registers.wptr

  abbrev channel : ℕ
  channel = m.registers.c

  abbrev j : ℕ
  j = word_number channel

  -- a word that is not claimed may be written
  pub may_write : (b : ℕ) → word_place_break (length store) b ≡ None → (is_set_aside (use_at s n b) ≡ true → ⊥)
      → (use_at s n b ≡ Receiving → ⊥) → amount_in (s (Sending n (word_number b))) ≡ pos 0
      → word_break (length store) (claims_of m) Writes b ≡ None
  may_write b placed aside receiving z =
      let l = word_lies site running.whole b (subst (λ z. word_place_break z b ≡ None) shown.size placed) in
      word_touchable (length store) (claims_of m) Writes b placed
      (subst (λ a. claim_break (claims_of m) Writes (word_span a) ≡ None) (omega (arith, l.0, l.1))
      (unclaimed_writable s n k.plan (k.shows.named n) (k.shows.sent n) k.node shown k.steady.placed (word_number b)
      aside receiving z))

  module _ (u : State) (a : IsAtOperation p c s n x k Disc u) (choice : Choice)
      (is : running.context.choice ≡ Some choice) where
    abbrev context : Context
    context = context_at p c s n x k a.size

    abbrev L : Unit {0} → State → Type 0
    L _ z = LeadsOrListens (stand_in (z (Standing x))) p c n x z

    abbrev Selects : Bool → State → Type 0
    Selects b z = After (selects site x context b) z L

    abbrev control : Control
    control = control_at p c s n x k Disc a.size

    abbrev Runs : Control → Store → Type 0
    Runs after last =
        run_from (operation_step Disc (rank running.level) control) store (claims_of m) store
        ≡ Ok ((after, ran.Instruction), last)

    -- with a guard that is false
    none_then : (m.registers.b == 0) ≡ true → After (selects site x context false) u L
    unfolding operation_step
    none_then e =
        selects_then p site running.whole x context u store a.on.tells m.registers.a running.registers.a L false
        (λ t s' now.
        runs_on p c n x s' now.is (selecting_leads p c s n x k u Disc a false choice is t s' now (λ may. runs may)))
      where
        runs : word_break (length store) (claims_of m) Writes w ≡ None
            → Runs (record m { registers = all_to 0 (registers_at p c s n x k a.size); count = control.count }) store
        runs may = rw (e, may) refl

    module _ (false_guard : (m.registers.b == 0) ≡ false) (skips : choice.skips ≡ true)
        (internal : is_link channel ≡ false) (enabled : enabler_at s n channel ≡ Some x)
        (clear : amount_in (s (Sending n j)) ≡ pos 0) where
      port : IsEnabled s n store channel x
      port = shown.choices.enabled channel x enabled

      may_channel : word_break (length store) (claims_of m) Writes channel ≡ None
      may_channel =
          may_write channel port.placed (λ f. true≢false (sym f ∙ ap is_set_aside port.engaged))
          (λ f. differ (sym port.engaged ∙ f)) clear
        where
          differ : Engaged ≡ Receiving → ⊥
          differ e = cc

      names : is_sent s n channel ≡ false → word_at store channel ≡ w + running.level
      names f =
          port.names f (own p c s n x k choice is) (own_is p c s n x k choice is)
          ∙ ap (λ z. w + z) running.registers.priority

      -- no message is sent
      unsent_runs : is_sent s n channel ≡ false → word_break (length store) (claims_of m) Writes w ≡ None
          → Runs (record m { registers = all_to 0 (registers_at p c s n x k a.size); count = control.count })
          (with_word store channel not_process)
      unfolding operation_step
      unsent_runs f may =
          rw (
            false_guard,
            internal,
            may_channel,
            names f,
            ne_eqb (w + running.level) not_process
                (own_names p c s n x k choice is),
            own_runs p c s n x k choice is,
          ) (rw (may_channel, may) refl)

      -- one is
      sent_runs : (q : Request) → IsTakenHalf s n (k.shows.named n) k.node.machine channel Output q
          → word_break (length store) (claims_of m) Writes w ≡ None
          → Runs (record m {
            registers = all_to (flag (is_chosen true store w)) (registers_at p c s n x k a.size);
            count = control.count;
          }) (if is_chosen true store w then with_word store w m.registers.a else store)
      unfolding operation_step
      sent_runs q t may = by (is_chosen true store w) refl
        where
          by : (b : Bool) → is_chosen true store w ≡ b → Runs (record m {
            registers = all_to (flag b) (registers_at p c s n x k a.size);
            count = control.count;
          }) (if b then with_word store w m.registers.a else store)
          by true e =
              rw (
                false_guard,
                internal,
                may_channel,
                t.channel_word,
                ne_eqb t.process not_process
                    (sender_names p c s n x k channel q t),
                sender_waits p c s n x k channel q t,
                eq-eqb channel channel refl,
              ) (rw (may, e) (rw may refl))
          by false e =
              rw (
                false_guard,
                internal,
                may_channel,
                t.channel_word,
                ne_eqb t.process not_process
                    (sender_names p c s n x k channel q t),
                sender_waits p c s n x k channel q t,
                eq-eqb channel channel refl,
              ) (rw (may, e) refl)

      sender : is_sent s n channel ≡ true
          → (q : Request) × IsTakenHalf s n (k.shows.named n) k.node.machine channel Output q
      sender e =
          (let o = shown.channels.halves channel Output in
          of o.0 o.1 (sym (ap (λ (v : Value). is_taken (half_in v)) o.1) ∙ e))
        where
          of : (h : Holder) → s (Half n channel Output) ≡ IsHalf h → is_taken h ≡ true
              → (q : Request) × IsTakenHalf s n (k.shows.named n) k.node.machine channel Output q
          of (TakenBy q) f g = (q, shown.channels.taken channel Output q f)
          of Nobody f g = absurd (true≢false (sym g))
          of (EnabledBy y) f g = absurd (true≢false (sym g))
          of (AwaitedBy y) f g = absurd (true≢false (sym g))

      may_own : (b : Bool) → IsWordTouched site running.whole (dropped p c s n x k b u) Writes w
          → word_break (length store) (claims_of m) Writes w ≡ None
      may_own b t =
          may_write w (subst (λ z. word_place_break z w ≡ None) (sym shown.size) t.placed)
          (λ f. true≢false (sym f ∙ not_aside (used (cases_eq j (word_number w)))))
          (λ f. not_receiving (used (cases_eq j (word_number w))) f)
          (sym (ap amount_in (sending b ∙ a.on.keeps.others (Sending n (word_number w)) refl)) ∙ t.touched.unsent refl)
        where
          sending : (b : Bool) → dropped p c s n x k b u (Sending n (word_number w)) ≡ u (Sending n (word_number w))
          sending true = refl
          sending false = refl

          word : (b : Bool) → (j ≡ word_number w → ⊥)
              → dropped p c s n x k b u (WordAt n (word_number w)) ≡ u (WordAt n (word_number w))
          word true h = refl
          word false h =
              changed_word n j (Put (IsWord (free_word not_process)))
              (changed (Half n channel Input) (Put (IsHalf Nobody)) u) (word_number w) h

          used : (j ≡ word_number w) ⊎ (j ≡ word_number w → ⊥) → (use_at s n w ≡ Engaged) ⊎ (use_at s n w ≡ Free)
          used (inl e) = inl (ap (use_of s n) (sym e) ∙ port.engaged)
          used (inr e) =
              inr (sym (a.on.keeps.uses (word_number w))
              ∙ ap (λ (v : Value). (word_in v).used) (sym (word b e)) ∙ t.touched.free)

          not_aside : (use_at s n w ≡ Engaged) ⊎ (use_at s n w ≡ Free) → is_set_aside (use_at s n w) ≡ false
          not_aside (inl e) = ap is_set_aside e
          not_aside (inr e) = ap is_set_aside e

          not_receiving : (use_at s n w ≡ Engaged) ⊎ (use_at s n w ≡ Free) → use_at s n w ≡ Receiving → ⊥
          not_receiving (inl e) f = differ (sym e ∙ f)
            where
              differ : Engaged ≡ Receiving → ⊥
              differ g = cc
          not_receiving (inr e) f = differ (sym e ∙ f)
            where
              differ : Free ≡ Receiving → ⊥
              differ g = cc

      -- the channel is disabled, and the guard chosen
      dropped_then : (b : Bool) → is_sent s n channel ≡ b
          → After (selects site x context b) (dropped p c s n x k b u) L
      dropped_then true e =
          selects_then p site running.whole x context (dropped p c s n x k true u) (dropped_store p c s n x k true)
          (tells_dropped p c s n x k u a enabled true) m.registers.a running.registers.a L true (λ t s' now.
          runs_on p c n x s' now.is (disc_leads p c s n x k u a enabled choice is skips true e t s' now
          (a.steps (record m {
            registers = all_to (flag (is_chosen true store w)) (registers_at p c s n x k a.size);
            count = control.count;
          }) (if is_chosen true store w then with_word store w m.registers.a else store)
          (sent_runs (sender e).0 (sender e).1 (may_own true t)))))
      dropped_then false e =
          selects_then p site running.whole x context (dropped p c s n x k false u) (dropped_store p c s n x k false)
          (tells_dropped p c s n x k u a enabled false) m.registers.a running.registers.a L false (λ t s' now.
          runs_on p c n x s' now.is (disc_leads p c s n x k u a enabled choice is skips false e t s' now
          (a.steps (record m { registers = all_to 0 (registers_at p c s n x k a.size); count = control.count })
          (with_word store channel not_process) (unsent_runs e (may_own false t)))))

    -- the parts of `disc` after both halves were seen
    abbrev rest : (b : Bool) → Part Bool
    rest b = do
      change (Half n channel Input) (Put (IsHalf Nobody))
      _ ← word_for site Engaged j
      unsent site j
      frees_word site channel b
      changes_ports x (without_port channel)
      gives b

    rest_then : (m.registers.b == 0) ≡ false → choice.skips ≡ true → is_link channel ≡ false
        → enabler_at s n channel ≡ Some x → (b : Bool) → is_sent s n channel ≡ b → After (rest b) u Selects
    rest_then guard skips internal enabled b e =
        after_bind (word_for site Engaged j) _ v Selects
        (after_bind (require (same_use (use_of v n j) Engaged) WordInUse) _ v _
        (after_require (same_use (use_of v n j) Engaged) WordInUse v _ (λ engaged.
        after_bind (unsent site j) _ v Selects (unsent_then site j v _ (λ z. freed b e
        (ap amount_in (sym (a.on.keeps.others (Sending n j) refl)) ∙ z))))))
      where
        v : State
        v = changed (Half n channel Input) (Put (IsHalf Nobody)) u

        freed : (b : Bool) → is_sent s n channel ≡ b → amount_in (s (Sending n j)) ≡ pos 0
            → After (frees_word site channel b >>= (λ _. changes_ports x (without_port channel)
            >>= (λ _. gives b))) v Selects
        freed true e z = dropped_then guard skips internal enabled z true e
        freed false e z = dropped_then guard skips internal enabled z false e

    -- whether it is ready
    ready_then : (m.registers.b == 0) ≡ false → choice.skips ≡ true → is_link channel ≡ false → (h : Holder)
        → half_in (u (Half n channel Input)) ≡ h
        → After (readiness x (is_taken (half_in (u (Half n channel Output)))) h >>= (λ b. rest b)) u Selects
    ready_then guard skips internal (EnabledBy y) e =
        after_bind (readiness x sent (EnabledBy y)) _ u Selects
        (after_bind (require (same_name y x) (Breaks ChannelMisuse)) _ u _
        (after_require (same_name y x) (Breaks ChannelMisuse) u _ (λ same.
        rest_then guard skips internal (enabled_by y (ap enabler e) same) sent sent_is)))
      where
        sent : Bool
        sent = is_taken (half_in (u (Half n channel Output)))

        sent_is : is_sent s n channel ≡ sent
        sent_is = ap (λ (v : Value). is_taken (half_in v)) (sym (a.on.keeps.others (Half n channel Output) refl))

        enabled_by : (y : Name) → enabler (half_in (u (Half n channel Input))) ≡ Some y → same_name y x ≡ true
            → enabler_at s n channel ≡ Some x
        enabled_by y f g =
            ap (λ (v : Value). enabler (half_in v)) (sym (a.on.keeps.others (Half n channel Input) refl)) ∙ f
            ∙ ap (λ z. Some z) (one_name p y x g)
    ready_then guard skips internal (AwaitedBy y) e =
        after_bind (readiness x sent (AwaitedBy y)) _ u Selects
        (after_bind (require (same_name y x) (Breaks ChannelMisuse)) _ u _
        (after_require (same_name y x) (Breaks ChannelMisuse) u _ (λ same.
        after_bind (require (not sent) SeveralReady) _ u _ (after_require (not sent) SeveralReady u _ (λ silent.
        rest_then guard skips internal (enabled_by y (ap enabler e) same) false
        (sent_is ∙ is_silent sent silent))))))
      where
        sent : Bool
        sent = is_taken (half_in (u (Half n channel Output)))

        sent_is : is_sent s n channel ≡ sent
        sent_is = ap (λ (v : Value). is_taken (half_in v)) (sym (a.on.keeps.others (Half n channel Output) refl))

        is_silent : (b : Bool) → not b ≡ true → b ≡ false
        is_silent false f = refl
        is_silent true f = absurd (true≢false (sym f))

        enabled_by : (y : Name) → enabler (half_in (u (Half n channel Input))) ≡ Some y → same_name y x ≡ true
            → enabler_at s n channel ≡ Some x
        enabled_by y f g =
            ap (λ (v : Value). enabler (half_in v)) (sym (a.on.keeps.others (Half n channel Input) refl)) ∙ f
            ∙ ap (λ z. Some z) (one_name p y x g)
    ready_then guard skips internal Nobody e = tt
    ready_then guard skips internal (TakenBy q) e = tt

    -- an internal channel is disabled that this process has enabled
    internal_then : (m.registers.b == 0) ≡ false → choice.skips ≡ true → is_link channel ≡ false
        → After (disables_internal site x context channel) u L
    internal_then guard skips internal =
        after_bind (disables site x channel) _ u L
        (after_bind (unless (word_place_break site.size channel)) _ u _
        (after_unless (word_place_break site.size channel) u _ (λ placed.
        ready_then guard skips internal (half_in (u (Half n channel Input))) refl)))

    port_then : (m.registers.b == 0) ≡ false → After (disables_port site x context choice) u L
    port_then guard =
        after_bind (require choice.skips WordInUse) _ u L (after_require choice.skips WordInUse u _ (λ skips.
        after_bind (known context.c) _ u L (known_then context.c channel u _ running.registers.c
        (by skips (is_link channel) refl))))
      where
        by : choice.skips ≡ true → (b : Bool) → is_link channel ≡ b
            → After (if b then disables_link site x context channel else disables_internal site x context channel) u L
        by skips true e = disables_link_then p c s n x k u a choice is skips guard e
        by skips false e = internal_then guard skips e

  abbrev Disabled : Unit {0} → State → Type 0
  Disabled _ z = LeadsOrListens (stand_in (z (Standing x))) p c n x z

  disc_then : (u : State) (a : IsAtOperation p c s n x k Disc u)
      → After (disables_channel site x (context_at p c s n x k a.size)) u Disabled
  disc_then u a =
      after_bind (choice_of context.choice) _ u Disabled
      (choice_then context.choice u _ (λ choice is.
      after_bind (known context.b) _ u Disabled (known_then context.b m.registers.b u _
      running.registers.b (by choice is (m.registers.b == 0) refl))))
    where
      context : Context
      context = context_at p c s n x k a.size

      by : (choice : Choice) → context.choice ≡ Some choice → (b : Bool) → (m.registers.b == 0) ≡ b
          → After (if b then selects site x context false else disables_port site x context choice) u Disabled
      by choice is true e = none_then u a choice is e
      by choice is false e = port_then u a choice is e

pub disc_is_seen : DisabledChannelsAreSeen
disc_is_seen p c s s' n x k next makes =
    after_step p x s s' (Disabled p c s n x k) makes
    (operation_then p c s n x k Disc (Disabled p c s n x k) next (λ u a. disc_then p c s n x k u a))
